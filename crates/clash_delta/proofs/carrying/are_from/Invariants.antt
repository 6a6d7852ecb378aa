use Rattle.std.proofs.Common.{take}
use Rattle.clash_delta.specs.inner.ElementNumbers.{AreFrom}
use Rattle.clash_delta.proofs.carrying.are_from.Given as goal

abbrev pub invariant-loop-place : goal.invariant-loop-place
invariant-loop-place l = AreFrom l.numbers (take l.place l.old) (take l.place l.new)
