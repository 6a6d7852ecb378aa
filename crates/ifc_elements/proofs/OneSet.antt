-- A set, a mapped item and an item are one list of triangles at most, and none of a set's faces is left uncut then.
use Rattle.std.proofs.Common.{◌≡◌, ℕ, Bool, true, false, List, map, Some, option_and_then, refl, sym, ap, ◌∙◌, subst}
use Rattle.std.specs.Bool.{MatchBool}
use Rattle.bim_model.specs.declared.geometry.Point.{Point}
use Rattle.bim_model.specs.declared.geometry.Triangle.{Triangle}
use Rattle.bim_model.specs.declared.upload.Mode.{Mode}
use Rattle.p21_values.specs.declared.value.Instance.{Instance}
use Rattle.p21_values.specs.InstanceLookup.{look}
use Rattle.ifc_units.specs.declared.scale.Scale.{Scale}
use Rattle.ifc_units.specs.Lengths.{ArePoints}
use Rattle.ifc_units.proofs.PointFacts.{one_points}
use Rattle.placement.specs.declared.frame.Frame.{Frame}
use Rattle.placement.specs.Operators.{OperatorFrame}
use Rattle.placement.proofs.Operating.{one_frame}
use Rattle.faceset.specs.FaceSets.{points_of, listed_in, spelled_points, SetTriangles, HasStuck}
use Rattle.faceset.proofs.Joins.{joined_same}
use Rattle.faceset.proofs.Unique.{set_triangles_same, never_stuck}
use Rattle.p21_values.specs.Attributes.{reference_at}
use Rattle.ifc_elements.specs.PointTables.{ListsPoints}
use Rattle.ifc_elements.specs.Items.{is_mapped_item, mapped_sets}
use Rattle.ifc_elements.specs.Surfaces.{SetPoints, SetSurface, moved, MappedSurface, ItemSurface}
use Rattle.p21_values.proofs.ValueLemmas.{one}

-- triangles are equal by their corners
pub same_triangle : (t u : Triangle) → t.a ≡ u.a → t.b ≡ u.b → t.c ≡ u.c → t ≡ u
same_triangle t u e f g = let r : Triangle = record { a = u.a; b = u.b; c = u.c } in let h : record { a = t.a; b = t.b; c = t.c } ≡ r = rw (e, f, g) refl in h

-- the points of the list that a set refers to are its own
pub own_points : (world : List Instance) (scale : Scale) (mode : Mode) (set : Instance) (list : ℕ) (points : List Point) → reference_at set 0 ≡ Some list → ListsPoints world scale mode list points
    → SetPoints world scale mode set points
unfolding points_of
own_points world scale mode set list points refers l =
    let e : points_of world set ≡ Some l.instance = ap (option_and_then (look world)) refers ∙ l.found in
    subst (λ o. ArePoints scale mode (listed_in o) points) (sym e) l.holds.are

pub one_set : (world : List Instance) (scale : Scale) (mode : Mode) (set : Instance) (ts us : List Triangle) → SetSurface world scale mode set ts → SetSurface world scale mode set us → ts ≡ us
one_set world scale mode set ts us h k =
    let points = one_points scale mode (spelled_points world set) h.points k.points h.are_points k.are_points in
    set_triangles_same world k.points set ts us (subst (λ (ps : List Point). SetTriangles world ps set ts) points h.are_triangles) k.are_triangles

-- each face of a set with triangles is cut
pub set_unstuck : (world : List Instance) (scale : Scale) (mode : Mode) (set : Instance) (ts : List Triangle) (points : List Point) (id : ℕ) → SetSurface world scale mode set ts → SetPoints world scale mode set points
    → HasStuck world points set id → ⊥
set_unstuck world scale mode set ts points id h are stuck =
    let same = one_points scale mode (spelled_points world set) h.points points h.are_points are in
    never_stuck world points set ts (subst (λ (ps : List Point). SetTriangles world ps set ts) same h.are_triangles) id stuck

one_mapped : (world : List Instance) (scale : Scale) (mode : Mode) (item : Instance) (ts us : List Triangle) → MappedSurface world scale mode item ts → MappedSurface world scale mode item us → ts ≡ us
one_mapped world scale mode item ts us h k =
    let to = one (reference_at item 1) h.operator k.operator h.refers k.refers in
    let frame = one_frame world scale mode k.operator h.frame k.frame (subst (λ (n : ℕ). OperatorFrame world scale mode n h.frame) to h.is_frame) k.is_frame in
    let own = joined_same (SetSurface world scale mode) (one_set world scale mode) (mapped_sets world item) h.own k.own h.of_sets k.of_sets in
    h.all ∙ ap (λ (f : Frame). map (moved f) h.own) frame ∙ ap (map (moved k.frame)) own ∙ sym k.all

-- what holds of one list at most either way
one_either : (b : Bool) (P Q : List Triangle → Type 0) → ((ts us : List Triangle) → P ts → P us → ts ≡ us) → ((ts us : List Triangle) → Q ts → Q us → ts ≡ us)
    → (ts us : List Triangle) → MatchBool b (P ts) (Q ts) → MatchBool b (P us) (Q us) → ts ≡ us
one_either true P Q p q ts us h k = p ts us h k
one_either false P Q p q ts us h k = q ts us h k

pub one_item : (world : List Instance) (scale : Scale) (mode : Mode) (item : Instance) (ts us : List Triangle) → ItemSurface world scale mode item ts → ItemSurface world scale mode item us → ts ≡ us
one_item world scale mode item ts us h k =
    one_either (is_mapped_item item) (MappedSurface world scale mode item) (SetSurface world scale mode item) (one_mapped world scale mode item) (one_set world scale mode item) ts us h k
