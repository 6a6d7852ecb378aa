-- What mapped items show to be unsupported.
use Rattle.std.proofs.Common.{◌≡◌, ℕ, suc, ◌⊎◌, inl, inr, Bool, true, false, not, ◌&&◌, ◌==◌, pos, List, Option, Some, None, is_some, refl, sym, ap, subst, arith}
use Rattle.std.specs.Bool.{MatchBool}
use Rattle.std.specs.Option.{MatchOption, IfSome, IfNone}
use Rattle.std.proofs.Math.Bool.{beq}
use Rattle.std.proofs.lemmas.Bool.{eqb-true}
use Rattle.model_build.proofs.OneKeyword.{both}
use Rattle.bim_model.specs.declared.upload.Mode.{Mode}
use Rattle.p21_values.specs.declared.value.Value21.{Value21}
use Rattle.p21_values.specs.declared.value.Instance.{Instance}
use Rattle.p21_values.specs.Values.{number_of}
use Rattle.p21_values.specs.InstanceLookup.{look}
use Rattle.ifc_units.specs.declared.scale.Scale.{Scale}
use Rattle.placement.specs.declared.axis.Axis.{Axis}
use Rattle.placement.specs.declared.axes.Axes.{Axes}
use Rattle.placement.specs.Directions.{HasAxes, HasDirections, Oblique}
use Rattle.p21_values.specs.Attributes.{referred_at}
use Rattle.placement.proofs.Square.{square}
use Rattle.bim_text.specs.Decimals.{WritesWhole}
use Rattle.faceset.specs.Indexes.{PointsAt, PointsNowhere}
use Rattle.ifc_elements.specs.Items.{is_mapped_item}
use Rattle.ifc_instances.specs.inner.Least.{LeastOf}
use Rattle.model_build.specs.Unsupported.{IsNotOne, IsTurned, IsAway, IsOtherOrigin, plain_axes}
use Rattle.model_build.specs.inner.Showing.{lesser, ItemShows, NamesNoTarget}
use Rattle.placement.proofs.OneFrame.{one_axes, same_axes}
use Rattle.model_build.proofs.LeastOfParts.{same_least, lesser_least}
use Rattle.model_build.proofs.OtherItems.{finding}

target_least : (world : List Instance) (item : Instance) (found : Option ℕ) → MatchOption found ((id : ℕ) → NamesNoTarget world item id → ⊥) (NamesNoTarget world item) → LeastOf (NamesNoTarget world item) found
target_least world item None h = h
target_least world item (Some id) h = record {
  here = h;
  lower = λ k low n. (
      let e = n.0 in
      let f = h.0 in
      let same : k ≡ id = cc in
      omega arith);
}

-- a mapped item shows its target, or itself
pub mapping_least : (world : List Instance) (scale : Scale) (mode : Mode) (from : ℕ) (i : Instance) (own target found : Option ℕ) → Some i ≡ look world from → is_mapped_item i ≡ true → found ≡ lesser own target
    → LeastOf (λ id. (from ≡ id) × IsOtherOrigin world scale mode from) own → MatchOption target ((id : ℕ) → NamesNoTarget world i id → ⊥) (NamesNoTarget world i) → LeastOf (ItemShows world scale mode from) found
mapping_least world scale mode from i own target found e is same g h =
    subst (LeastOf (ItemShows world scale mode from)) (sym same)
    (same_least (λ id. ((from ≡ id) × IsOtherOrigin world scale mode from) ⊎ NamesNoTarget world i id) (ItemShows world scale mode from) (lesser own target) to back
    (lesser_least (λ id. (from ≡ id) × IsOtherOrigin world scale mode from) (NamesNoTarget world i) own target g (target_least world i target h)))
  where
    to : (id : ℕ) → ((from ≡ id) × IsOtherOrigin world scale mode from) ⊎ NamesNoTarget world i id → ItemShows world scale mode from id
    to id (inl o) = inr (o.0, (record { instance = i; found = sym e; holds = is }, o.1))
    to id (inr n) = inl (record { instance = i; found = sym e; holds = (is, n.0) }, n.1)

    back : (id : ℕ) → ItemShows world scale mode from id → ((from ≡ id) × IsOtherOrigin world scale mode from) ⊎ NamesNoTarget world i id
    back id (inl n) = inr ((finding world from i _ (sym e) n.0).1, n.1)
    back id (inr o) = inl (o.0, o.1.1)

-- Scales.

-- a number is the index of the only point where it is 1
pub not_one : (v : Value21) (bytes : List ℕ) (at : Option ℕ) (b : Bool) → number_of v ≡ Some bytes → is_some at ≡ not b → IfSome at (PointsAt 1 v) → IfNone at (PointsNowhere 1 v) → MatchBool b (IsNotOne v) (IsNotOne v → ⊥)
not_one v bytes None false e t some none = cc
not_one v bytes (Some k) true e t some none = cc
not_one v bytes None true e t some none = record { bytes = bytes; number = e; other = λ w. none 0 (record { bytes = bytes; number = e; within = omega arith; written = w }) }
not_one v bytes (Some k) false e t some none = λ h. (
    let lt = some.within in
    let first : k ≡ 0 = omega arith in
    let f = some.number in
    let g = h.number in
    let same : some.bytes ≡ h.bytes = cc in
    h.other (subst (λ bs. WritesWhole bs (pos 1)) same (subst (λ n. WritesWhole some.bytes (pos (suc n))) first some.written)))

-- Origins.

-- the test of the code whether axes are those of the grid
abbrev pub is_plain : Axes → Bool
is_plain a = ((a.x.direction == 0) && beq a.x.negative false) && (((a.y.direction == 1) && beq a.y.negative false) && ((a.z.direction == 2) && beq a.z.negative false))

abbrev axis : ℕ → Bool → Axis
axis d n = record { direction = d; negative = n }

-- one axis that passes
plain_axis : (a : Axis) (d : ℕ) → ((a.direction == d) && beq a.negative false) ≡ true → a ≡ axis d false
plain_axis a d h =
    let t = both (a.direction == d) (beq a.negative false) h in
    let e : a.direction ≡ d = eqb-true a.direction d t.0 in
    let f : a.negative ≡ false = positive a.negative t.1 in
    let g : axis a.direction a.negative ≡ axis d false = rw (e, f) refl in
    g
  where
    positive : (b : Bool) → beq b false ≡ true → b ≡ false
    positive true h = cc
    positive false h = refl

plain_same : (a : Axes) → is_plain a ≡ true → a ≡ plain_axes
plain_same a h =
    let t = both ((a.x.direction == 0) && beq a.x.negative false) _ h in
    let u = both ((a.y.direction == 1) && beq a.y.negative false) _ t.1 in
    same_axes a plain_axes (plain_axis a.x 0 t.0) (plain_axis a.y 1 u.0) (plain_axis a.z 2 u.1)

flipped : (a b : Bool) → b ≡ not a → a ≡ not b
flipped true b e = rw e refl
flipped false b e = rw e refl

pub turned_told : (world : List Instance) (id : ℕ) (axes : Axes) (b : Bool) → b ≡ not (is_plain axes) → HasAxes world id axes → MatchBool b (IsTurned world id) (IsTurned world id → ⊥)
turned_told world id axes true e has = λ h. (
    let f = flipped (is_plain axes) true e in
    let g = ap is_plain (one_axes world id axes plain_axes has h) in
    cc)
turned_told world id axes false e has = λ t. t (subst (HasAxes world id) (plain_same axes (flipped (is_plain axes) false e)) has)

pub never_plain : (world : List Instance) (id : ℕ) → (HasDirections world id → Oblique world id) → HasAxes world id plain_axes → ⊥
never_plain world id o h = square world id plain_axes h (o (record { axis = h.axis; reference = h.reference; directions = h.directions }))

pub origin_told : (world : List Instance) (scale : Scale) (mode : Mode) (id map origin : ℕ) (b : Bool) → Some map ≡ referred_at world id 0 → Some origin ≡ referred_at world map 0 → (IsTurned world origin → ⊥)
    → MatchBool b (IsAway world scale mode origin) (IsAway world scale mode origin → ⊥) → MatchBool b (IsOtherOrigin world scale mode id) (IsOtherOrigin world scale mode id → ⊥)
origin_told world scale mode id map origin true e f plain h = record { map = map; uses = sym e; origin = origin; refers = sym f; other = inr h }
origin_told world scale mode id map origin false e f plain h = λ o. (
    let first = o.uses in
    let one : o.map ≡ map = cc in
    let second : referred_at world map 0 ≡ Some o.origin = subst (λ n. referred_at world n 0 ≡ Some o.origin) one o.refers in
    let two : o.origin ≡ origin = cc in
    elim o.other [
      | inl t ↦ plain (subst (IsTurned world) two t)
      | inr a ↦ h (subst (IsAway world scale mode) two a)
    ])
