use Rattle.std.proofs.Common.{length}
use Rattle.ifc_schema.specs.inner.SoundValues.{IsSound, Passes}
use Rattle.ifc_schema.proofs.flaw.past_sound.Given as goal

abbrev pub invariant-loop-row : goal.invariant-loop-row
invariant-loop-row l = Passes (IsSound l.fn.inner l.fn.leaf) l.fn.rows l.left

abbrev pub decreases-loop-row : goal.decreases-loop-row
decreases-loop-row l = length l.left
