use Rattle.std.proofs.Common.{◌≤◌, All}
use Rattle.faceset.specs.Reaches.{CountsFrom}
use Rattle.faceset.proofs.reaches.reach_of.Given as goal

abbrev pub invariant-loop-value : goal.invariant-loop-value
invariant-loop-value l = All (CountsFrom l.reach) l.yielded × (l.reach ≤ l.count)
