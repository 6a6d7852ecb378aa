use Rattle.std.proofs.Common.{ℕ, ◌<◌, length, None}
use Rattle.std.specs.List.{HoldsAt}
use Rattle.ifc_schema.specs.Flaws.{LeafFlaw}
use Rattle.ifc_schema.proofs.flaw.leaves_flaw.Given as goal

abbrev pub invariant-loop-item : goal.invariant-loop-item
invariant-loop-item l = (k : ℕ) → k < length l.yielded → HoldsAt (λ v. LeafFlaw l.exchange l.leaf v None) l.items k
