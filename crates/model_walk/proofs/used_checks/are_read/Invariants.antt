use Rattle.std.proofs.Common.{All}
use Rattle.model_walk.specs.Clean.{LeadsToItem}
use Rattle.model_walk.proofs.used_checks.are_read.Given as goal

abbrev pub invariant-loop-value : goal.invariant-loop-value
invariant-loop-value l = All (LeadsToItem l.exchange l.mapped) l.yielded
