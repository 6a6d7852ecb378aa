use Rattle.std.proofs.Common.{ℕ, All}
use Rattle.ifc_units.specs.Units.{RefersToUnit}
use Rattle.ifc_units.proofs.units.first_unit.Given as goal

abbrev pub invariant-loop-item : goal.invariant-loop-item
invariant-loop-item l = (id : ℕ) → All (λ v. RefersToUnit l.exchange id v → ⊥) l.yielded
