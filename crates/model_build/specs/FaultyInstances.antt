-- The least of numbers of which something holds.
use Rattle.std.specs.Prelude.{◌≡◌, ℕ, ◌<◌, ◌⊎◌, true, List, Contains}
use Rattle.p21_values.specs.declared.value.Instance.{Instance}
use Rattle.ifc_instances.specs.declared.entity.Entity.TheVariants.{AxisPlacement, Operator}
use Rattle.ifc_instances.specs.EntityLookup.{is_a}
use Rattle.faceset.specs.FaceSets.{is_set, HasBadIndex}
use Rattle.placement.specs.declared.axes.Axes.{Axes}
use Rattle.placement.specs.Directions.{HasAxes}
use Rattle.placement.specs.Operators.{HasOperatorAxes}
use Rattle.ifc_elements.specs.Finding.{Finds}

-- the least of these numbers that is such
pub record IsLeastOf (ids : List ℕ) (P : ℕ → Type 0) (id : ℕ) : Type 0 where
  pub listed : Contains ids id
  pub here : P id
  pub lower : (k : ℕ) → k < id → Contains ids k → P k → ⊥

-- it holds of none of them
abbrev pub NoneOf : List ℕ → (ℕ → Type 0) → Type 0
NoneOf ids P = (id : ℕ) → Contains ids id → P id → ⊥

-- Numbers that others show.

-- one of the listed ones shows it
abbrev pub ShownBy : (ℕ → ℕ → Type 0) → List ℕ → ℕ → Type 0
ShownBy Shown froms id = (from : ℕ) × Contains froms from × Shown from id

-- The kinds of faults.

-- the instance of that number is a set, and one of its indexes counts nothing
abbrev pub IsBadSet : List Instance → ℕ → Type 0
IsBadSet world id = Finds world id (λ i. (is_set i ≡ true) × HasBadIndex world i)

-- the number of an axis placement
abbrev pub IsAxisPlacement : List Instance → ℕ → Type 0
IsAxisPlacement world id = Finds world id (λ i. is_a AxisPlacement i ≡ true)

-- the number of an operator
abbrev pub IsOperator : List Instance → ℕ → Type 0
IsOperator world id = Finds world id (λ i. is_a Operator i ≡ true)

-- the instance of that number is an axis placement or an operator, without axes along the grid's
abbrev pub IsOblique : List Instance → ℕ → Type 0
IsOblique world id =
    (IsAxisPlacement world id × ((axes : Axes) → HasAxes world id axes → ⊥))
    ⊎ (IsOperator world id × ((axes : Axes) → HasOperatorAxes world id axes → ⊥))
