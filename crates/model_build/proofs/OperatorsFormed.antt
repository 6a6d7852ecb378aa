-- The directions of an operator that is used can be read.
use Rattle.std.proofs.Common.{◌≡◌, ℕ, ◌⊎◌, inl, inr, Bool, true, false, List, Option, Some, None, Contains, refl, arith}
use Rattle.std.specs.Bool.{⊤, MatchBool}
use Rattle.std.specs.List.{slice_get}
use Rattle.p21_values.specs.declared.value.Value21.{Value21}
use Rattle.p21_values.specs.declared.value.Instance.{Instance}
use Rattle.ifc_instances.specs.declared.entity.Entity.TheVariants as entity
use Rattle.ifc_schema.specs.declared.form.Attribute.{Attribute}
use Rattle.ifc_schema.specs.declared.form.Targets.TheVariants as targets
use Rattle.ifc_schema.specs.declared.form.Leaf.{Leaf}
use Rattle.ifc_schema.specs.declared.form.Leaf.TheVariants as leaf
use Rattle.ifc_schema.specs.declared.form.Shape.{Shape}
use Rattle.ifc_schema.specs.declared.form.Shape.TheVariants as shape
use Rattle.ifc_schema.specs.declared.form.Need.TheVariants.{OrMissing}
use Rattle.ifc_schema.specs.declared.form.When.{When}
use Rattle.ifc_schema.specs.declared.form.When.TheVariants.{Always}
use Rattle.ifc_schema.specs.AttributeTable.{row_of, attribute, row_at}
use Rattle.p21_values.specs.Values.{is_absent}
use Rattle.p21_values.specs.InstanceLookup.{look}
use Rattle.ifc_schema.specs.Flaws.{LeafFlaw, ShapeFlaw, PlaceFlaw}
use Rattle.ifc_schema.specs.Used.{Used}
use Rattle.placement.specs.declared.direction.Direction.{Direction}
use Rattle.placement.specs.Directions.{Directs}
use Rattle.placement.specs.Operators.{MayDirect, HasOperatorDirections}
use Rattle.model_build.specs.Stages.{IsUsed}
use Rattle.model_build.proofs.AttributesFormed.{Shaped, formed_there, OrAway, in_row, attribute_flaw, RefersToA, referred}
use Rattle.model_build.proofs.UsedFormed.{one_used, direction_there}
use Rattle.model_build.proofs.SetsFormed.{is_transformation}

-- an attribute is missing or absent, or it holds of it
abbrev OrMissed : (Value21 → Type 0) → Option Value21 → Type 0
OrMissed P None = ⊤
OrMissed P (Some v) = OrAway P v

split : (b : Bool) (P A : Type 0) → MatchBool b P A → (b ≡ true) ⊎ A
split true P A h = inl refl
split false P A h = inr h

missed : (world : List Instance) (at : ℕ) (w : When) (s : Shape) (l : Leaf) (o : Option Value21) → PlaceFlaw world (attribute at w OrMissing s l) o None → OrMissed (λ v. ShapeFlaw world l s v None) o
missed world at w s l None h = tt
missed world at w s l (Some v) h = split (is_absent v) (None ≡ None) (ShapeFlaw world l s v None) h

abbrev direction_attribute : ℕ → Attribute
direction_attribute at = attribute at Always OrMissing shape.One (leaf.Reference (targets.One entity.Direction))

-- an attribute that may be missing, or refers to a direction
may_direct : (world : List Instance) (id : ℕ) (i : Instance) (at : ℕ) → Shaped world → Used world id → look world id ≡ Some i → Contains (row_at i) (direction_attribute at) → (d : Option Direction) × MayDirect world (slice_get i.values at) d
may_direct world id i at shaped u e c =
    let f = formed_there world id i (shaped id u) e in
    let l = leaf.Reference (targets.One entity.Direction) in
    from (slice_get i.values at) refl (missed world at Always shape.One l (slice_get i.values at) (attribute_flaw world f.mapped i (direction_attribute at) f.formed c))
  where
    led : (v : Value21) → slice_get i.values at ≡ Some v → RefersToA world entity.Direction v → (d : Option Direction) × Directs world v d
    led v t r =
        let n = one_used world id i at Always OrMissing entity.Direction v u e c refl t r in
        let d = direction_there world r.to shaped (n, record { instance = r.target; found = r.found; holds = r.is }) in
        (Some d.0, (r.to, r.refers, d.1))

    from : (o : Option Value21) → slice_get i.values at ≡ o → OrMissed (λ v. LeafFlaw world (leaf.Reference (targets.One entity.Direction)) v None) o → (d : Option Direction) × MayDirect world o d
    from None t h = (None, tt)
    from (Some v) t (inl a) = (None, a)
    from (Some v) t (inr h) = led v t (referred world entity.Direction v h)

-- the directions of an operator that is used can be read
pub has_operator_directions : (world : List Instance) (id : ℕ) → Shaped world → IsUsed entity.Operator world id → HasOperatorDirections world id
unfolding row_of
has_operator_directions world id shaped u =
    let i = u.1.instance in
    let is = is_transformation i u.1.holds in
    let a = may_direct world id i 0 shaped u.0 u.1.found (in_row entity.Operator i (direction_attribute 0) is (0, omega arith, refl)) in
    let b = may_direct world id i 1 shaped u.0 u.1.found (in_row entity.Operator i (direction_attribute 1) is (1, omega arith, refl)) in
    let c = may_direct world id i 4 shaped u.0 u.1.found (in_row entity.Operator i (direction_attribute 4) is (4, omega arith, refl)) in
    record {
      axis1 = a.0;
      axis2 = b.0;
      axis3 = c.0;
      directions = record { instance = i; found = u.1.found; first = a.1; second = b.1; third = c.1 };
    }
