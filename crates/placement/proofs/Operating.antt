-- An operator has one set of axes, one origin and one frame.
use Rattle.std.proofs.Common.{◌≡◌, ◌≢◌, ◌==◌, ℕ, ℤ, pos, Bool, true, false, if◌then◌else◌, List, Option, Some, None, IfSome, MatchOption, refl, sym, ap, ◌∙◌, subst, arith}
use Rattle.std.specs.List.{slice_get}
use Rattle.std.proofs.lemmas.Bool.Decides.{nat_tests}
use Rattle.bim_model.specs.declared.geometry.Point.{Point}
use Rattle.bim_model.specs.declared.upload.Mode.{Mode}
use Rattle.p21_values.specs.declared.value.Value21.{Value21}
use Rattle.p21_values.specs.declared.value.Instance.{Instance}
use Rattle.ifc_units.specs.declared.scale.Scale.{Scale}
use Rattle.ifc_units.specs.declared.length_error.LengthError.{LengthError}
use Rattle.ifc_units.specs.Lengths.{IsPoint, PointRefused, Fails}
use Rattle.ifc_units.proofs.PointFacts.{one_point}
use Rattle.p21_values.proofs.ValueLemmas.{one, refers_absent}
use Rattle.placement.specs.declared.axis.Axis.{Axis}
use Rattle.placement.specs.declared.axes.Axes.{Axes}
use Rattle.placement.specs.declared.direction.Direction.{Direction}
use Rattle.placement.specs.declared.direction.Vector.{Vector}
use Rattle.placement.specs.declared.frame.Frame.{Frame}
use Rattle.placement.specs.Frames.{lengths_of, frame_at}
use Rattle.placement.specs.Directions.{Directs, LiesAlong, without, first_direction, second_direction}
use Rattle.p21_values.specs.Attributes.{referred_at, value_at}
use Rattle.placement.specs.Operators.{MayDirect, OperatorDirections, HasOperatorDirections, GiveOperatorAxes, HasOperatorAxes, ObliqueOperator, third_direction, IsOrigin, OperatorFrame}
use Rattle.placement.proofs.Aligned.{one_axis}
use Rattle.placement.proofs.Square.{same_vector, GiveSame, same_directs}
use Rattle.placement.proofs.OneFrame.{same_axes}
use Rattle.placement.proofs.Owning.{unpointed}

-- Directions that differ.

not_along : (v : Vector) (a y : Axis) → LiesAlong (without a v) y → y.direction ≢ a.direction
not_along v a y h = grind (arith, nat_tests)

swapped : (p q : Bool) (n : ℤ) → (if p then pos 0 else (if q then pos 0 else n)) ≡ (if q then pos 0 else (if p then pos 0 else n))
swapped true true n = refl
swapped true false n = refl
swapped false true n = refl
swapped false false n = refl

without_both : (v : Vector) (a b : Axis) → without a (without b v) ≡ without b (without a v)
without_both v a b = same_vector _ _ _ _ _ _
    (swapped (a.direction == 0) (b.direction == 0) v.x)
    (swapped (a.direction == 1) (b.direction == 1) v.y)
    (swapped (a.direction == 2) (b.direction == 2) v.z)

pub across_both : (v : Vector) (z x y : Axis) → LiesAlong (without x (without z v)) y → (y.direction ≢ z.direction) × (y.direction ≢ x.direction)
across_both v z x y h = (not_along (without x v) z y (subst (λ (t : Vector). LiesAlong t y) (without_both v x z) h), not_along (without z v) x y h)

-- What a file says.

-- two directions, which may be absent, that give the same as any of the three
record GiveAlike (d e : Option Direction) : Type 0 where
  given : GiveSame d e
  third : (z x : Axis) → third_direction z x d ≡ third_direction z x e

same_third : (world : List Instance) (v : Value21) (d e : Option Direction) → GiveSame d e → Directs world v d → Directs world v e → (z x : Axis) → third_direction z x d ≡ third_direction z x e
same_third world v None None same r s z x = refl
same_third world v None (Some e) same r s z x = refers_absent v s.0 r s.1
same_third world v (Some d) None same r s z x = refers_absent v r.0 s r.1
same_third world v (Some d) (Some e) same r s z x = ap (λ (t : Vector). without x (without z t)) same.first

same_named : (world : List Instance) (v : Option Value21) (d e : Option Direction) → MayDirect world v d → MayDirect world v e → GiveAlike d e
same_named world None None None r s = record { given = record { first = refl; second = λ z. refl }; third = λ z x. refl }
same_named world None None (Some e) r s = absurd s
same_named world None (Some d) e r s = absurd r
same_named world (Some v) d e r s = let same = same_directs world v d e r s in record { given = same; third = same_third world v d e same r s }

-- the directions of one operator, read twice
record AreAlike (a b c d e f : Option Direction) : Type 0 where
  first : GiveAlike a d
  second : GiveAlike b e
  third : GiveAlike c f

same_directions : (world : List Instance) (id : ℕ) (a b c d e f : Option Direction) → OperatorDirections world id a b c → OperatorDirections world id d e f → AreAlike a b c d e f
same_directions world id a b c d e f r s =
    let i = one _ r.instance s.instance r.found s.found in
    record {
      first = same_named world (slice_get s.instance.values 0) a d (subst (λ (t : Instance). MayDirect world (slice_get t.values 0) a) i r.first) s.first;
      second = same_named world (slice_get s.instance.values 1) b e (subst (λ (t : Instance). MayDirect world (slice_get t.values 1) b) i r.second) s.second;
      third = same_named world (slice_get s.instance.values 4) c f (subst (λ (t : Instance). MayDirect world (slice_get t.values 4) c) i r.third) s.third;
    }

-- Axes.

same_given : (a b c d e f : Option Direction) (axes : Axes) → AreAlike a b c d e f → GiveOperatorAxes a b c axes → GiveOperatorAxes d e f axes
same_given a b c d e f axes same g = record {
  z = subst (λ (v : Vector). LiesAlong v axes.z) same.third.given.first g.z;
  x = subst (λ (v : Vector). LiesAlong (without axes.z v) axes.x) (same.first.given.second axes.z) g.x;
  y = subst (λ (v : Vector). LiesAlong v axes.y) (same.second.third axes.z axes.x) g.y;
}

pub square_operator : (world : List Instance) (id : ℕ) (axes : Axes) → HasOperatorAxes world id axes → ObliqueOperator world id → ⊥
square_operator world id axes h o =
    let same = same_directions world id h.axis1 h.axis2 h.axis3 o.axis1 o.axis2 o.axis3 h.directions o.directions in
    o.none axes (same_given h.axis1 h.axis2 h.axis3 o.axis1 o.axis2 o.axis3 axes same h.given)

pub squares : (world : List Instance) (id : ℕ) (a b c : Option Direction) (o : Option Axes) → OperatorDirections world id a b c → MatchOption o ((axes : Axes) → GiveOperatorAxes a b c axes → ⊥) (GiveOperatorAxes a b c)
    → IfSome o (λ axes. ObliqueOperator world id → ⊥)
squares world id a b c None d h = tt
squares world id a b c (Some axes) d h = square_operator world id axes (record { axis1 = a; axis2 = b; axis3 = c; directions = d; given = h })

-- three directions give one set of axes

same_z : (a b c : Option Direction) (g h : Axes) → GiveOperatorAxes a b c g → GiveOperatorAxes a b c h → g.z ≡ h.z
same_z a b c g h k l = one_axis (first_direction c) g.z h.z k.z l.z

same_x : (a b c : Option Direction) (g h : Axes) → GiveOperatorAxes a b c g → GiveOperatorAxes a b c h → g.x ≡ h.x
same_x a b c g h k l =
    one_axis (without h.z (second_direction h.z a)) g.x h.x (subst (λ (t : Axis). LiesAlong (without t (second_direction t a)) g.x) (same_z a b c g h k l) k.x) l.x

same_y : (a b c : Option Direction) (g h : Axes) → GiveOperatorAxes a b c g → GiveOperatorAxes a b c h → g.y ≡ h.y
same_y a b c g h k l =
    let z = subst (λ (t : Axis). LiesAlong (third_direction t g.x b) g.y) (same_z a b c g h k l) k.y in
    one_axis (third_direction h.z h.x b) g.y h.y (subst (λ (t : Axis). LiesAlong (third_direction h.z t b) g.y) (same_x a b c g h k l) z) l.y

pub one_operator_axes : (world : List Instance) (id : ℕ) (a b : Axes) → HasOperatorAxes world id a → HasOperatorAxes world id b → a ≡ b
one_operator_axes world id a b g h =
    let same = same_directions world id g.axis1 g.axis2 g.axis3 h.axis1 h.axis2 h.axis3 g.directions h.directions in
    let k = same_given g.axis1 g.axis2 g.axis3 h.axis1 h.axis2 h.axis3 a same g.given in
    let l = h.given in
    same_axes a b (same_x h.axis1 h.axis2 h.axis3 a b k l) (same_y h.axis1 h.axis2 h.axis3 a b k l) (same_z h.axis1 h.axis2 h.axis3 a b k l)

-- where no x axis is left across z, there are no axes
pub no_x : (a b c : Option Direction) (z : Axis) (v w u : Vector) → v ≡ first_direction c → LiesAlong v z → w ≡ second_direction z a → u ≡ without z w
    → ((x : Axis) → LiesAlong u x → ⊥) → (axes : Axes) → GiveOperatorAxes a b c axes → ⊥
no_x a b c z v w u e l f g none axes h =
    let same : axes.z ≡ z = one_axis v axes.z z (subst (λ (t : Vector). LiesAlong t axes.z) (sym e) h.z) l in
    let here = subst (λ (t : Axis). LiesAlong (without t (second_direction t a)) axes.x) same h.x in
    none axes.x (subst (λ (t : Vector). LiesAlong t axes.x) (sym (g ∙ ap (without z) f)) here)

-- where no y axis is left across z and x, there are no axes
pub no_y : (a b c : Option Direction) (z x : Axis) (v w u t : Vector) → v ≡ first_direction c → LiesAlong v z → w ≡ second_direction z a → u ≡ without z w → LiesAlong u x → t ≡ third_direction z x b
    → ((y : Axis) → LiesAlong t y → ⊥) → (axes : Axes) → GiveOperatorAxes a b c axes → ⊥
no_y a b c z x v w u t e l f g m d none axes h =
    let same : axes.z ≡ z = one_axis v axes.z z (subst (λ (p : Vector). LiesAlong p axes.z) (sym e) h.z) l in
    let across = subst (λ (p : Axis). LiesAlong (without p (second_direction p a)) axes.x) same h.x in
    let also : axes.x ≡ x = one_axis u axes.x x (subst (λ (p : Vector). LiesAlong p axes.x) (sym (g ∙ ap (without z) f)) across) m in
    let here = subst (λ (p : Axis). LiesAlong (third_direction z p b) axes.y) also (subst (λ (p : Axis). LiesAlong (third_direction p axes.x b) axes.y) same h.y) in
    none axes.y (subst (λ (p : Vector). LiesAlong p axes.y) (sym d) here)

-- Origins.

pub no_origin : (world : List Instance) (s : Scale) (mode : Mode) (id to : ℕ) (v : Value21) (e : LengthError) → Some to ≡ referred_at world id 2 → Some v ≡ value_at world to 0
    → Fails (IsPoint s mode v) (PointRefused s mode v) e → (p : Point) → IsOrigin world s mode id p → ⊥
no_origin world s mode id to v e r t h p l =
    let same = one (referred_at world id 2) l.to to l.refers (sym r) in
    let here = one (value_at world to 0) l.value v (subst (λ (n : ℕ). value_at world n 0 ≡ Some l.value) same l.there) (sym t) in
    unpointed s mode v e h p (subst (λ (x : Value21). IsPoint s mode x p) here l.is_point)

pub one_origin : (world : List Instance) (s : Scale) (mode : Mode) (id : ℕ) (p q : Point) → IsOrigin world s mode id p → IsOrigin world s mode id q → p ≡ q
one_origin world s mode id p q l m =
    let same = one (referred_at world id 2) l.to m.to l.refers m.refers in
    let here = one (value_at world m.to 0) l.value m.value (subst (λ (n : ℕ). value_at world n 0 ≡ Some l.value) same l.there) m.there in
    one_point s mode m.value p q (subst (λ (x : Value21). IsPoint s mode x p) here l.is_point) m.is_point

-- Frames.

pub without_operator_axes : (world : List Instance) (s : Scale) (mode : Mode) (id : ℕ) → (HasOperatorDirections world id → ObliqueOperator world id) → (f : Frame) → OperatorFrame world s mode id f → ⊥
without_operator_axes world s mode id none f a =
    let h = a.has_axes in
    square_operator world id a.axes h (none (record { axis1 = h.axis1; axis2 = h.axis2; axis3 = h.axis3; directions = h.directions }))

pub one_frame : (world : List Instance) (s : Scale) (mode : Mode) (id : ℕ) (f g : Frame) → OperatorFrame world s mode id f → OperatorFrame world s mode id g → f ≡ g
one_frame world s mode id f g a b =
    let axes = one_operator_axes world id a.axes b.axes a.has_axes b.has_axes in
    let origin = one_origin world s mode id a.origin b.origin a.is_origin b.is_origin in
    a.frame ∙ ap (λ (x : Axes). frame_at x (lengths_of a.origin)) axes ∙ ap (λ (p : Point). frame_at b.axes (lengths_of p)) origin ∙ sym b.frame
