use Rattle.std.proofs.Common.{All}
use Rattle.ifc_units.specs.Units.{RefersToOther}
use Rattle.ifc_units.proofs.units.has_other.Given as goal

abbrev pub invariant-loop-item : goal.invariant-loop-item
invariant-loop-item l = All (λ v. RefersToOther l.exchange l.id v → ⊥) l.yielded
