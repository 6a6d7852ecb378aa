-- What stands at a place.
use Rattle.std.specs.Prelude.{ℕ, List}
use base.Stored.{Coded-set}
use mathlib.Core.HLevel.{Σ_prop_path}
use mathlib.Core.Logic.{∥∥₁_elim, ∥∥₁_prop}
use Rattle.p21_values.specs.contracts.value.Value21 as row
use Rattle.p21_values.specs.declared.value.Value21.{Value21}
use Rattle.p21_values.specs.Standing.{Stands}
use Rattle.p21_values.proofs.Stood.{stands_once}

-- the value that stands there
abbrev pub Stood : List ℕ → ℕ → Type 0
Stood bytes at = (v : Value21) × ∥ Stands bytes at v ∥₁

-- two proofs that values are the same are one
value_set : IsSet Value21
value_set = Coded-set row.the_row.coded

-- it is one
pub one_stood : (bytes : List ℕ) (at : ℕ) → IsProp (Stood bytes at)
one_stood bytes at = λ u w. Σ_prop_path (λ v. ∥∥₁_prop)
    (∥∥₁_elim u.1 (value_set u.0 w.0) (λ h. ∥∥₁_elim w.1 (value_set u.0 w.0)
    (λ k. stands_once bytes at u.0 w.0 h k)))
