-- Axis placements and operators without axes along the grid's.
use Rattle.std.proofs.Common.{◌≡◌, ℕ, inl, inr, Bool, true, false, List, Option, Some, None, is_some, not, Contains, subst}
use Rattle.std.specs.Bool.{MatchBool}
use Rattle.std.specs.Option.{IfSome, IfNone}
use Rattle.p21_values.specs.declared.value.Instance.{Instance}
use Rattle.ifc_instances.specs.declared.entity.Entity.TheVariants.{AxisPlacement, Operator}
use Rattle.ifc_instances.specs.EntityLookup.{entity_at, is_a}
use Rattle.ifc_schema.specs.Used.{Used}
use Rattle.ifc_schema.specs.Surveys.{Lists}
use Rattle.placement.specs.declared.axes.Axes.{Axes}
use Rattle.placement.specs.Directions.{HasAxes, HasDirections, Oblique}
use Rattle.placement.specs.Operators.{HasOperatorAxes, HasOperatorDirections, ObliqueOperator}
use Rattle.placement.proofs.Square.{square}
use Rattle.placement.proofs.Operating.{square_operator}
use Rattle.model_build.specs.FaultyInstances.{IsAxisPlacement, IsOperator, IsOblique}
use Rattle.model_build.proofs.OneKeyword.{is_axis_placement}
use Rattle.model_build.proofs.AttributesFormed.{Shaped}
use Rattle.model_build.proofs.UsedFormed.{has_directions}
use Rattle.model_build.proofs.SetsFormed.{is_transformation}
use Rattle.model_build.proofs.OperatorsFormed.{has_operator_directions}

-- no instance is both
not_both : (world : List Instance) (id : ℕ) → IsAxisPlacement world id → IsOperator world id → ⊥
not_both world id p o =
    let same : p.instance ≡ o.instance = (let a = p.found in let b = o.found in cc) in
    let e : entity_at o.instance ≡ Some AxisPlacement = is_axis_placement o.instance (subst (λ (i : Instance). is_a AxisPlacement i ≡ true) same p.holds) in
    let f : entity_at o.instance ≡ Some Operator = is_transformation o.instance o.holds in
    cc

-- an axis placement is oblique where no axes are found
pub placement_told : (world : List Instance) (id : ℕ) (found : Option Axes) (b : Bool) → is_some found ≡ not b → IsAxisPlacement world id → HasDirections world id
    → IfSome found (HasAxes world id) → IfNone found (HasDirections world id → Oblique world id) → MatchBool b (IsOblique world id) (IsOblique world id → ⊥)
placement_told world id None true e is read has none = inl (is, λ axes a. square world id axes a (none read))
placement_told world id None false e is read has none = cc
placement_told world id (Some axes) true e is read has none = cc
placement_told world id (Some axes) false e is read has none = λ o. elim o [ inl p ↦ p.1 axes has | inr p ↦ not_both world id is p.0 ]

-- so is an operator
pub operator_told : (world : List Instance) (id : ℕ) (found : Option Axes) (b : Bool) → is_some found ≡ not b → IsOperator world id → HasOperatorDirections world id
    → IfSome found (HasOperatorAxes world id) → IfNone found (HasOperatorDirections world id → ObliqueOperator world id) → MatchBool b (IsOblique world id) (IsOblique world id → ⊥)
operator_told world id None true e is read has none = inr (is, λ axes a. square_operator world id axes a (none read))
operator_told world id None false e is read has none = cc
operator_told world id (Some axes) true e is read has none = cc
operator_told world id (Some axes) false e is read has none = λ o. elim o [ inl p ↦ not_both world id p.0 is | inr p ↦ p.1 axes has ]

-- the directions of all that are used can be read

pub placements_read : (world : List Instance) (used : List ℕ) → Shaped world → Lists (Used world) used → (id : ℕ) → Contains used id → IsAxisPlacement world id → HasDirections world id
placements_read world used shaped ls id c p = has_directions world id shaped (ls.each id c, p)

pub operators_read : (world : List Instance) (used : List ℕ) → Shaped world → Lists (Used world) used → (id : ℕ) → Contains used id → IsOperator world id → HasOperatorDirections world id
operators_read world used shaped ls id c o = has_operator_directions world id shaped (ls.each id c, o)
