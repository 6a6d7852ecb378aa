-- A unit makes one scale.
use Rattle.std.proofs.Common.{◌≡◌, ℕ, ◌≤◌, Bool, true, false, ℤ, List, Some, None, refl, sym, ap, ◌∙◌, subst}
use Rattle.std.proofs.Math.Bridge.{le_prop}
use Rattle.std.specs.Bool.{MatchBool}
use Rattle.std.specs.List.{slice_get}
use Rattle.bim_text.specs.declared.decimal.Decimal.{Decimal}
use Rattle.bim_text.specs.ScaledNumbers.{Scaled, raised}
use Rattle.bim_text.specs.Decimals.{Reads, value_of}
use Rattle.bim_text.proofs.Unique.{one_decimal}
use Rattle.p21_values.specs.declared.value.Value21.{Value21}
use Rattle.p21_values.specs.declared.value.Instance.{Instance}
use Rattle.p21_values.specs.Attributes.{target_at}
use Rattle.p21_values.specs.Values.{measure_of}
use Rattle.ifc_instances.specs.declared.entity.Entity.TheVariants.{ConvertedUnit, Measure}
use Rattle.ifc_instances.specs.EntityLookup.{is_a}
use Rattle.ifc_units.specs.declared.scale.Scale.{Scale}
use Rattle.ifc_units.specs.Metres.{metric_power}
use Rattle.ifc_units.specs.Conversions.{tenths_of, IsMeasure}
use Rattle.ifc_units.specs.Units.{IsMetric, IsConverted, MakesScale}

-- scales of one factor and one power are one

abbrev scale : (factor : ℕ) → ℤ → factor ≤ 3048 → Scale
scale factor power small = record { factor = factor; power = power; small = small }

same_scale : (s t : Scale) → s.factor ≡ t.factor → s.power ≡ t.power → s ≡ t
same_scale s t e f =
    subst (λ (p : ℤ). s ≡ scale t.factor p t.small) f
    (subst (λ (n : ℕ). (k : n ≤ 3048) → s ≡ scale n s.power k) e (λ k. ap (scale s.factor s.power) (le_prop s.small k)) t.small)

-- a measure is one length

same_raised : (d e : Decimal) (p q : ℤ) → d.negative ≡ e.negative → d.digits ≡ e.digits → d.exp ≡ e.exp → p ≡ q → raised (value_of d) p ≡ raised (value_of e) q
same_raised d e p q a b c f = rw (a, b, c, f) refl

pub measure_is : (world : List Instance) (measure : Instance) (value : Value21) (bytes : List ℕ) (number : Decimal) (base : Instance) (power read : ℤ) → is_a Measure measure ≡ true → slice_get measure.values 0 ≡ Some value
    → measure_of value ≡ Some bytes → Reads bytes number → target_at world measure 1 ≡ Some base → metric_power base ≡ Some power → read ≡ power → IsMeasure world measure (raised (value_of number) read)
measure_is world measure value bytes number base power read kind said is reads based made same = record {
  kind = kind;
  value = value;
  said = said;
  bytes = bytes;
  number = is;
  decimal = number;
  read = reads;
  base = base;
  based = based;
  power = power;
  reads = made;
  is = rw same refl;
}

one_measure : (world : List Instance) (measure : Instance) (x y : Scaled) → IsMeasure world measure x → IsMeasure world measure y → x ≡ y
one_measure world measure x y h k =
    let s = h.said in
    let t = k.said in
    let v : h.value ≡ k.value = cc in
    let m : measure_of k.value ≡ Some h.bytes = subst (λ u. measure_of u ≡ Some h.bytes) v h.number in
    let n = k.number in
    let b : h.bytes ≡ k.bytes = cc in
    let o = one_decimal k.bytes h.decimal k.decimal (subst (λ u. Reads u h.decimal) b h.read) k.read in
    let f = h.based in
    let g = k.based in
    let i : h.base ≡ k.base = cc in
    let p : metric_power k.base ≡ Some h.power = subst (λ u. metric_power u ≡ Some h.power) i h.reads in
    let q = k.reads in
    let r : h.power ≡ k.power = cc in
    h.is ∙ same_raised h.decimal k.decimal h.power k.power o.0 o.1 o.2 r ∙ sym k.is

-- a unit is converted only by its measure

measure_of_unit : (world : List Instance) (unit measure : Instance) (scale : Scale) → target_at world unit 3 ≡ Some measure → (h : IsConverted world unit scale) → IsMeasure world measure h.length
measure_of_unit world unit measure scale found h =
    let m = h.measured in
    let same : h.measure ≡ measure = cc in
    subst (λ u. IsMeasure world u h.length) same h.is

pub unmeasured : (world : List Instance) (unit measure : Instance) → target_at world unit 3 ≡ Some measure → ((length : Scaled) → IsMeasure world measure length → ⊥) → (scale : Scale) → IsConverted world unit scale → ⊥
unmeasured world unit measure found none scale h = none h.length (measure_of_unit world unit measure scale found h)

pub unconverted : (world : List Instance) (unit measure : Instance) (length : Scaled) → target_at world unit 3 ≡ Some measure → IsMeasure world measure length → tenths_of length ≡ None → (scale : Scale) → IsConverted world unit scale → ⊥
unconverted world unit measure length found is none scale h =
    let l = one_measure world measure h.length length (measure_of_unit world unit measure scale found h) is in
    let f : tenths_of length ≡ Some scale.factor = subst (λ x. tenths_of x ≡ Some scale.factor) l h.factor in
    cc

-- a unit makes one scale

one_metric : (unit : Instance) (a b : Scale) → IsMetric unit a → IsMetric unit b → a ≡ b
one_metric unit a b h k =
    let p = h.power in
    let q = k.power in
    let same : a.power ≡ b.power = cc in
    same_scale a b (h.factor ∙ sym k.factor) same

one_converted : (world : List Instance) (unit : Instance) (a b : Scale) → IsConverted world unit a → IsConverted world unit b → a ≡ b
one_converted world unit a b h k =
    let l = one_measure world k.measure h.length k.length (measure_of_unit world unit k.measure a k.measured h) k.is in
    let f : tenths_of k.length ≡ Some a.factor = subst (λ x. tenths_of x ≡ Some a.factor) l h.factor in
    let g = k.factor in
    let e : a.factor ≡ b.factor = cc in
    same_scale a b e (h.power ∙ sym k.power)

pub one_made : (world : List Instance) (unit : Instance) (a b : Scale) → MakesScale world unit a → MakesScale world unit b → a ≡ b
one_made world unit a b h k = chosen (is_a ConvertedUnit unit) h k
  where
    chosen : (t : Bool) → MatchBool t (IsConverted world unit a) (IsMetric unit a) → MatchBool t (IsConverted world unit b) (IsMetric unit b) → a ≡ b
    chosen true h k = one_converted world unit a b h k
    chosen false h k = one_metric unit a b h k
