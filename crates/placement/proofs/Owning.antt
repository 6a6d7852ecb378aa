-- The frame of a placement in what it stands in.
use Rattle.std.proofs.Common.{◌≡◌, ℕ, List, Option, Some, None, MatchOption, sym, ◌∙◌, subst}
use Rattle.bim_model.specs.declared.geometry.Point.{Point}
use Rattle.bim_model.specs.declared.upload.Mode.{Mode}
use Rattle.p21_values.specs.declared.value.Value21.{Value21}
use Rattle.p21_values.specs.declared.value.Instance.{Instance}
use Rattle.ifc_units.specs.declared.scale.Scale.{Scale}
use Rattle.ifc_units.specs.declared.length_error.LengthError.{LengthError}
use Rattle.ifc_units.specs.declared.length_error.LengthError.TheVariants.{Unread, Refused}
use Rattle.ifc_units.specs.Lengths.{IsPoint, PointRefused, Fails}
use Rattle.ifc_units.proofs.PointFacts.{point_apart}
use Rattle.placement.specs.declared.frame.Frame.{Frame}
use Rattle.placement.specs.Directions.{HasDirections, Oblique}
use Rattle.placement.specs.Placed.{IsLocation, AxisFrame, OwnFrame}
use Rattle.p21_values.specs.Attributes.{referred_at, value_at}
use Rattle.placement.proofs.Square.{square}

one : {X : Type 0} (o : Option X) (a b : X) → o ≡ Some a → o ≡ Some b → a ≡ b
one o a b e f = let g : Some a ≡ Some b = sym e ∙ f in cc

-- Locations.

pub unpointed : (s : Scale) (mode : Mode) (v : Value21) (e : LengthError) → Fails (IsPoint s mode v) (PointRefused s mode v) e → (p : Point) → IsPoint s mode v p → ⊥
unpointed s mode v Unread h p i = h.none p i
unpointed s mode v (Refused f) h p i = point_apart s mode v p f i h

pub unlocated : (world : List Instance) (s : Scale) (mode : Mode) (id to : ℕ) (v : Value21) (e : LengthError) → Some to ≡ referred_at world id 0 → Some v ≡ value_at world to 0
    → Fails (IsPoint s mode v) (PointRefused s mode v) e → (p : Point) → IsLocation world s mode id p → ⊥
unlocated world s mode id to v e r t h p l =
    let same = one (referred_at world id 0) l.to to l.refers (sym r) in
    let here = one (value_at world to 0) l.value v (subst (λ (n : ℕ). value_at world n 0 ≡ Some l.value) same l.there) (sym t) in
    unpointed s mode v e h p (subst (λ (x : Value21). IsPoint s mode x p) here l.is_point)

-- Frames.

pub without_axes : (world : List Instance) (s : Scale) (mode : Mode) (id : ℕ) → (HasDirections world id → Oblique world id) → (f : Frame) → AxisFrame world s mode id f → ⊥
without_axes world s mode id none f a =
    let h = a.has_axes in
    square world id a.axes h (none (record { axis = h.axis; reference = h.reference; directions = h.directions }))

pub own_from : (world : List Instance) (s : Scale) (mode : Mode) (id to : ℕ) (o : Option Frame) → Some to ≡ referred_at world id 1
    → MatchOption o ((f : Frame) → AxisFrame world s mode to f → ⊥) (AxisFrame world s mode to) → MatchOption o ((f : Frame) → OwnFrame world s mode id f → ⊥) (OwnFrame world s mode id)
own_from world s mode id to None e h = λ f o. h f (subst (λ (n : ℕ). AxisFrame world s mode n f) (one (referred_at world id 1) o.to to o.refers (sym e)) o.given)
own_from world s mode id to (Some f) e h = record { to = to; refers = sym e; given = h }
