use Rattle.std.proofs.Common.{length, None}
use Rattle.ifc_schema.specs.Flaws.{LeafFlaw, ListFlaw}
use Rattle.ifc_schema.specs.inner.SoundValues.{Passes}
use Rattle.ifc_schema.proofs.flaw.lists_flaw.Given as goal

abbrev pub invariant-loop-row : goal.invariant-loop-row
invariant-loop-row l = Passes (λ v. ListFlaw l.inner (LeafFlaw l.exchange l.leaf) v None) l.rows l.left

abbrev pub decreases-loop-row : goal.decreases-loop-row
decreases-loop-row l = length l.left
