use Rattle.std.proofs.Common.{ℕ, ◌<◌, None}
use Rattle.std.specs.List.{HoldsAt}
use Rattle.ifc_schema.specs.Flaws.{AttributeFlaw}
use Rattle.ifc_schema.proofs.flaw.instance_flaw.Given as goal

abbrev pub invariant-loop-attribute : goal.invariant-loop-attribute
invariant-loop-attribute l = (k : ℕ) → k < l.attribute-index → HoldsAt (λ a. AttributeFlaw l.exchange l.mapped l.instance a None) l.attribute-items k
