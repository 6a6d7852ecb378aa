-- An axis placement has one frame.
use Rattle.std.proofs.Common.{◌≡◌, ℕ, List, Option, Some, None, refl, sym, ap, ◌∙◌, subst}
use Rattle.bim_model.specs.declared.geometry.Point.{Point}
use Rattle.bim_model.specs.declared.upload.Mode.{Mode}
use Rattle.p21_values.specs.declared.value.Value21.{Value21}
use Rattle.p21_values.specs.declared.value.Instance.{Instance}
use Rattle.ifc_units.specs.declared.scale.Scale.{Scale}
use Rattle.ifc_units.specs.Lengths.{IsPoint}
use Rattle.ifc_units.proofs.PointFacts.{one_point}
use Rattle.p21_values.proofs.ValueLemmas.{one}
use Rattle.placement.specs.declared.axis.Axis.{Axis}
use Rattle.placement.specs.declared.axes.Axes.{Axes}
use Rattle.placement.specs.declared.direction.Vector.{Vector}
use Rattle.placement.specs.declared.frame.Frame.{Frame}
use Rattle.placement.specs.Frames.{carried, lengths_of, frame_at}
use Rattle.placement.specs.Chains.{parent_of}
use Rattle.placement.specs.Directions.{HasAxes, LiesAlong, without, cross, unit, first_direction, second_direction}
use Rattle.placement.specs.Placed.{IsLocation, AxisFrame, OwnFrame, IsComposed, FrameOf, outermost, within}
use Rattle.p21_values.specs.Attributes.{referred_at, value_at}
use Rattle.placement.proofs.Aligned.{one_axis}
use Rattle.placement.proofs.Square.{same_directions}

pub one_location : (world : List Instance) (s : Scale) (mode : Mode) (id : ℕ) (p q : Point) → IsLocation world s mode id p → IsLocation world s mode id q → p ≡ q
one_location world s mode id p q l m =
    let same = one (referred_at world id 0) l.to m.to l.refers m.refers in
    let here = one (value_at world m.to 0) l.value m.value (subst (λ (n : ℕ). value_at world n 0 ≡ Some l.value) same l.there) m.there in
    one_point s mode m.value p q (subst (λ (x : Value21). IsPoint s mode x p) here l.is_point) m.is_point

pub same_axes : (a b : Axes) → a.x ≡ b.x → a.y ≡ b.y → a.z ≡ b.z → a ≡ b
same_axes a b e f g = let o : Axes = record { x = b.x; y = b.y; z = b.z } in let h : record { x = a.x; y = a.y; z = a.z } ≡ o = rw (e, f, g) refl in h

pub one_axes : (world : List Instance) (id : ℕ) (a b : Axes) → HasAxes world id a → HasAxes world id b → a ≡ b
one_axes world id a b g h =
    let same = same_directions world id g.axis g.reference h.axis h.reference g.directions h.directions in
    let k = g.given in
    let l = h.given in
    let z : a.z ≡ b.z = one_axis (first_direction h.axis) a.z b.z (subst (λ (v : Vector). LiesAlong v a.z) same.0.first k.z) l.z in
    let across : Vector = without b.z (second_direction b.z h.reference) in
    let moved = subst (λ (t : Axis). LiesAlong (without t (second_direction t h.reference)) a.x) z (subst (λ (v : Vector). LiesAlong (without a.z v) a.x) (same.1.second a.z) k.x) in
    let x : a.x ≡ b.x = one_axis across a.x b.x moved l.x in
    let third = subst (λ (t : Axis). LiesAlong (cross (unit b.z) (unit t)) a.y) x (subst (λ (t : Axis). LiesAlong (cross (unit t) (unit a.x)) a.y) z k.y) in
    let y : a.y ≡ b.y = one_axis (cross (unit b.z) (unit b.x)) a.y b.y third l.y in
    same_axes a b x y z

pub one_axis_frame : (world : List Instance) (s : Scale) (mode : Mode) (id : ℕ) (f g : Frame) → AxisFrame world s mode id f → AxisFrame world s mode id g → f ≡ g
one_axis_frame world s mode id f g a b =
    let axes = one_axes world id a.axes b.axes a.has_axes b.has_axes in
    let location = one_location world s mode id a.location b.location a.is_location b.is_location in
    a.frame ∙ ap (λ (x : Axes). frame_at x (lengths_of a.location)) axes ∙ ap (λ (p : Point). frame_at b.axes (lengths_of p)) location ∙ sym b.frame

pub one_own_frame : (world : List Instance) (s : Scale) (mode : Mode) (id : ℕ) (f g : Frame) → OwnFrame world s mode id f → OwnFrame world s mode id g → f ≡ g
one_own_frame world s mode id f g a b =
    let same = one (referred_at world id 1) a.to b.to a.refers b.refers in
    one_axis_frame world s mode b.to f g (subst (λ (n : ℕ). AxisFrame world s mode n f) same a.given) b.given

-- In the building: one place for each point.

none_some : {A : Type 0} (o : Option (Option ℕ)) (a : ℕ) → o ≡ Some None → o ≡ Some (Some a) → A
none_some o a e f = absurd (cc)

same_parent : (o : Option (Option ℕ)) (a b : ℕ) → o ≡ Some (Some a) → o ≡ Some (Some b) → a ≡ b
same_parent o a b e f = let g : Some (Some a) ≡ Some (Some b) = sym e ∙ f in cc

top_carried : (world : List Instance) (s : Scale) (mode : Mode) (id : ℕ) (g : Frame) → FrameOf world s mode id g → (f : Frame) → parent_of world id ≡ Some None → OwnFrame world s mode id f → (p : Point) → carried f p ≡ carried g p
top_carried world s mode _ _ (outermost id g d q) f e o p = ap (λ (h : Frame). carried h p) (one_own_frame world s mode id f g o q)
top_carried world s mode _ _ (within id parent own outer g d q up c) f e o p = none_some (parent_of world id) parent e d

inner_carried : (world : List Instance) (s : Scale) (mode : Mode) (id : ℕ) (g : Frame) → FrameOf world s mode id g → (parent : ℕ) (own outer f : Frame) → parent_of world id ≡ Some (Some parent) → OwnFrame world s mode id own → IsComposed outer own f
    → ((h : Frame) → FrameOf world s mode parent h → (p : Point) → carried outer p ≡ carried h p) → (p : Point) → carried f p ≡ carried g p
inner_carried world s mode _ _ (outermost id g d q) parent own outer f e o c ih p = none_some (parent_of world id) parent d e
inner_carried world s mode _ _ (within id above other further g d q up k) parent own outer f e o c ih p =
    let same = same_parent (parent_of world id) above parent d e in
    c p ∙ ih further (subst (λ (n : ℕ). FrameOf world s mode n further) same up) (carried own p) ∙ ap (λ (h : Frame). carried further (carried h p)) (one_own_frame world s mode id own other o q) ∙ sym (k p)

pub one_carried : (world : List Instance) (s : Scale) (mode : Mode) (id : ℕ) (f g : Frame) → FrameOf world s mode id f → FrameOf world s mode id g → (p : Point) → carried f p ≡ carried g p
one_carried world s mode _ _ g (outermost id f e o) b p = top_carried world s mode id g b f e o p
one_carried world s mode _ _ g (within id parent own outer f e o up c) b p = inner_carried world s mode id g b parent own outer f e o c (λ h k q. one_carried world s mode parent outer h up k q) p
