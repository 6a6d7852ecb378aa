-- An element has one surface at most.
use Rattle.std.proofs.Common.{◌≡◌, ℕ, true, List, [], ◌∷◌, map, Option, Some, None, option_and_then, refl, sym, ap, ap₂, ◌∙◌, subst}
use Rattle.std.specs.List.{slice_get}
use Rattle.bim_model.specs.declared.geometry.Point.{Point}
use Rattle.bim_model.specs.declared.geometry.Triangle.{Triangle}
use Rattle.bim_model.specs.declared.upload.Mode.{Mode}
use Rattle.p21_values.specs.declared.value.Value21.{Value21}
use Rattle.p21_values.specs.declared.value.Instance.{Instance}
use Rattle.p21_values.specs.Values.{reference_of, is_absent}
use Rattle.ifc_instances.specs.EntityLookup.{some_passes}
use Rattle.ifc_units.specs.declared.scale.Scale.{Scale}
use Rattle.placement.specs.declared.frame.Frame.{Frame}
use Rattle.placement.specs.Placed.{FrameOf}
use Rattle.faceset.proofs.Joins.{joined_same}
use Rattle.p21_values.specs.Attributes.{reference_at}
use Rattle.ifc_elements.specs.Items.{body_items}
use Rattle.ifc_elements.specs.Surfaces.{ItemSurface, IsPlacedBy, carried_by, placed_by, IsSurface}
use Rattle.p21_values.proofs.ValueLemmas.{one, refers_absent}
use Rattle.placement.proofs.OneFrame.{one_carried}
use Rattle.ifc_elements.proofs.OneSet.{same_triangle, one_item}

-- an attribute that is absent is no reference
none_refers : {A : Type 0} (o : Option Value21) (to : ℕ) → some_passes is_absent o ≡ true → option_and_then reference_of o ≡ Some to → A
none_refers None to a e = absurd (cc)
none_refers (Some v) to a e = refers_absent v to a e

-- an element is carried one way at most
pub carried_once : (world : List Instance) (scale : Scale) (mode : Mode) (i : Instance) (f g : Option Frame) → IsPlacedBy world scale mode i f → IsPlacedBy world scale mode i g → (p : Point) → carried_by f p ≡ carried_by g p
carried_once world scale mode i None None h k p = refl
carried_once world scale mode i None (Some g) h k p = none_refers (slice_get i.values 5) k.0 h k.1
carried_once world scale mode i (Some f) None h k p = none_refers (slice_get i.values 5) h.0 k h.1
carried_once world scale mode i (Some f) (Some g) h k p =
    let to = one (reference_at i 5) h.0 k.0 h.1 k.1 in
    one_carried world scale mode k.0 f g (subst (λ (t : ℕ). FrameOf world scale mode t f) to h.2) k.2 p

placed_once : (f g : Option Frame) → ((p : Point) → carried_by f p ≡ carried_by g p) → (t : Triangle) → placed_by f t ≡ placed_by g t
placed_once f g h t = same_triangle (placed_by f t) (placed_by g t) (h t.a) (h t.b) (h t.c)

pub same_map : {X Y : Type 0} (f g : X → Y) → ((x : X) → f x ≡ g x) → (xs : List X) → map f xs ≡ map g xs
same_map f g h [] = refl
same_map f g h (x ∷ xs) = ap₂ (λ y ys. y ∷ ys) (h x) (same_map f g h xs)

pub one_surface : (world : List Instance) (scale : Scale) (mode : Mode) (i : Instance) (ts us : List Triangle) → IsSurface world scale mode i ts → IsSurface world scale mode i us → ts ≡ us
one_surface world scale mode i ts us h k =
    let own = joined_same (ItemSurface world scale mode) (one_item world scale mode) (body_items world i) h.own k.own h.of_items k.of_items in
    let moves = placed_once h.frame k.frame (carried_once world scale mode i h.frame k.frame h.placed k.placed) in
    h.all ∙ ap (λ (xs : List Triangle). map (placed_by h.frame) xs) own ∙ same_map (placed_by h.frame) (placed_by k.frame) moves k.own ∙ sym k.all
