use Rattle.std.proofs.Common.{◌≤◌, map, All}
use Rattle.std.specs.List.{flat_map}
use Rattle.p21_values.specs.Attributes.{items_in}
use Rattle.faceset.specs.Reaches.{CountsFrom}
use Rattle.faceset.proofs.reaches.reach_of_rows.Given as goal

abbrev pub invariant-loop-row : goal.invariant-loop-row
invariant-loop-row l = All (CountsFrom l.reach) (flat_map (λ loop. loop) (map items_in l.yielded)) × (l.reach ≤ l.count)
