-- What is made of elements and their sketches.
use Rattle.std.proofs.Common.{◌≡◌, ℕ, ◌+◌, ◌<◌, ◌≤◌, List, [], ◌∷◌, ◌++◌, length, get_or, map, take, take_all, sum_by, Option, Some, option_and_then, refl, sym, ap, ◌∙◌, subst}
use Rattle.std.specs.List.{All, AllZip, slice_get}
use Rattle.std.proofs.lemmas.List.{take_more, length-map, length-append}
use Rattle.std.proofs.lemmas.List.Elements.{All-nil, All-cons, All-head, All-tail, All-push}
use Rattle.std.proofs.lemmas.List.Sums.{sum_by_more}
use Rattle.std.proofs.lemmas.Slice.Zip.{all_zipped_more}
use Rattle.bim_model.specs.declared.limits.TheConstants.{MOST_TRIANGLES}
use Rattle.bim_model.specs.declared.upload.Mode.{Mode}
use Rattle.bim_model.specs.declared.element.Element.{Element}
use Rattle.bim_model.specs.declared.geometry.Triangle.{Triangle}
use Rattle.p21_values.specs.declared.value.Instance.{Instance}
use Rattle.p21_values.specs.declared.value.Value21.{Value21}
use Rattle.p21_values.specs.Values.{reference_of}
use Rattle.p21_values.specs.InstanceLookup.{look}
use Rattle.placement.specs.declared.frame.Frame.{Frame}
use Rattle.placement.specs.Placed.{AllPlaced}
use Rattle.p21_values.proofs.PlaceLemmas.{place_found}
use Rattle.ifc_units.specs.declared.scale.Scale.{Scale}
use Rattle.ifc_elements.specs.Items.{body_items, item_count, counted, count_of}
use Rattle.ifc_elements.specs.ElementReadiness.{IsNearElement}
use Rattle.ifc_elements.specs.Storeys.{IsStoreyName}
use Rattle.ifc_elements.specs.Surfaces.{ItemSurface, placed_by}
use Rattle.ifc_elements.proofs.TrianglesAdded.{joined_first, joined_length}
use Rattle.model_walk.specs.declared.element_sketches.Drawn.{Drawn}
use Rattle.model_walk.specs.declared.element_sketches.Placing.TheVariants.{By}
use Rattle.model_walk.specs.declared.sketch_list.Sketch.{Sketch}
use Rattle.model_walk.specs.declared.element_sketches.Stock.{Stock}
use Rattle.model_walk.specs.Sketches.{range_triangles, element_of, elements_of, IsNearSketch}
use Rattle.model_walk.specs.inner.Stocked.{IsStocked, Grows, IsPlacing, IsSketch, Draws, AreDrawn}
use Rattle.model_walk.proofs.ElementsSurfaced.{elements_more}
use Rattle.model_walk.proofs.PiecesKept.{same_stock, grows_twice, range_same, near_still, sound_stock}

-- How an element is placed.

pub placed_there : (world : List Instance) (scale : Scale) (mode : Mode) (frames : ℕ → Option Frame) (i : Instance) (value : Value21) (id : ℕ) (frame : Frame) → slice_get i.values 5 ≡ Some value → reference_of value ≡ Some id → frames id ≡ Some frame
    → AllPlaced world scale mode frames → IsPlacing world scale mode i (By frame)
placed_there world scale mode frames i value id frame there refers is all =
    let p = all id frame is in
    ((id, ap (option_and_then reference_of) there ∙ refers, p.frame_of), (p.is_frame, p.near))

-- One element.

-- what is found has the number
id_of : (world : List Instance) (id : ℕ) (i : Instance) → look world id ≡ Some i → i.id ≡ id
id_of world id i found = let p = place_found world id i found in ap (λ (k : Instance). k.id) (sym (p.there i)) ∙ p.place.number i

element_near : (world : List Instance) (scale : Scale) (mode : Mode) (stock : Stock) (id : ℕ) (i : Instance) (element : Element) (sketch : Sketch) → look world id ≡ Some i → IsSketch world scale mode stock i element sketch
    → IsNearElement world scale mode id (element_of stock element sketch)
element_near world scale mode stock id i element sketch found s =
    let own = range_triangles stock sketch.range in
    record {
      is_element = record {
        instance = i;
        found = found;
        guid = s.bare.guid;
        class = s.bare.class;
        name = s.bare.name;
        storey = subst (λ k. IsStoreyName world k element.storey) (id_of world id i found) s.bare.storey;
        surface = record {
          own = own;
          of_items = joined_first (ItemSurface world scale mode) (item_count world) (body_items world i) own s.shows.joined;
          frame = sketch.frame;
          placed = s.placed;
          all = refl;
        };
      };
      guid = s.bare.is_guid;
      near = s.near.near;
      count = length-map own (placed_by sketch.frame) ∙ joined_length (ItemSurface world scale mode) (item_count world) (body_items world i) own s.shows.joined ∙ sym (ap (counted world) found);
    }

count_is : (world : List Instance) (scale : Scale) (mode : Mode) (stock : Stock) (id : ℕ) (i : Instance) (element : Element) (sketch : Sketch) → look world id ≡ Some i → IsSketch world scale mode stock i element sketch → sketch.range.count ≡ count_of world id
count_is world scale mode stock id i element sketch found is =
    let s = is.shows in
    s.counted ∙ joined_length (ItemSurface world scale mode) (item_count world) (body_items world i) (range_triangles stock sketch.range) s.joined ∙ sym (ap (counted world) found)

-- The elements of a stock that grows.

-- the element with a surface
abbrev shown : Element → Option Frame → List Triangle → Element
shown element frame triangles = record {
  guid = element.guid;
  class = element.class;
  name = element.name;
  storey = element.storey;
  triangles = map (placed_by frame) triangles;
}

elements_still : (old new : Stock) (elements : List Element) (sketches : List Sketch) → Grows old new → All (IsNearSketch old) sketches → elements_of new elements sketches ≡ elements_of old elements sketches
elements_still old new [] sketches g near = refl
elements_still old new (e ∷ es) [] g near = refl
elements_still old new (e ∷ es) (s ∷ ss) g near =
    let first : element_of new e s ≡ element_of old e s = ap (shown e s.frame) (range_same old new s.range g (All-head (IsNearSketch old) s ss near).there) in
    ap (λ (x : Element). x ∷ elements_of new es ss) first ∙ ap (λ (xs : List Element). element_of old e s ∷ xs) (elements_still old new es ss g (All-tail (IsNearSketch old) s ss near))

all_still : (old new : Stock) (sketches : List Sketch) → Grows old new → All (IsNearSketch old) sketches → All (IsNearSketch new) sketches
all_still old new [] g near = All-nil (IsNearSketch new)
all_still old new (s ∷ ss) g near = All-cons (IsNearSketch new) s ss (near_still old new s g (All-head (IsNearSketch old) s ss near)) (all_still old new ss g (All-tail (IsNearSketch old) s ss near))

-- Elements and their sketches, one after another.

-- These are the elements of these numbers and their sketches; they have so many triangles.
pub record DrawnSoFar (world : List Instance) (scale : Scale) (mode : Mode) (first stock : Stock) (ids : List ℕ) (drawn : Drawn) (count : ℕ) : Type 0 where
  pub stocked : IsStocked world scale mode stock
  pub grows : Grows first stock
  pub each : AllZip (IsNearElement world scale mode) ids (elements_of stock drawn.elements.items drawn.sketches)
  pub near : All (IsNearSketch stock) drawn.sketches
  pub same : length drawn.elements.items ≡ length drawn.sketches
  pub some : All (λ id. 0 < count_of world id) ids
  pub counted : count ≡ sum_by (count_of world) ids

-- none yet
pub drawn_none : (world : List Instance) (scale : Scale) (mode : Mode) (stock : Stock) (ids : List ℕ) (drawn : Drawn) → IsStocked world scale mode stock → drawn.elements.items ≡ [] → drawn.sketches ≡ []
    → DrawnSoFar world scale mode stock stock (take 0 ids) drawn 0
drawn_none world scale mode stock ids drawn stocked no_elements no_sketches = record {
  stocked = stocked;
  grows = same_stock stock;
  each = subst (λ (es : List Element). AllZip (IsNearElement world scale mode) [] (elements_of stock es drawn.sketches)) (sym no_elements) tt;
  near = subst (All (IsNearSketch stock)) (sym no_sketches) (All-nil (IsNearSketch stock));
  same = ap length no_elements ∙ sym (ap length no_sketches);
  some = All-nil (λ id. 0 < count_of world id);
  counted = refl;
}

-- one more
pub drawn_more : (world : List Instance) (scale : Scale) (mode : Mode) (first old new : Stock) (ids : List ℕ) (at : ℕ) (made grown : Drawn) (before more : ℕ) (i : Instance) → DrawnSoFar world scale mode first old (take at ids) made before
    → at < length ids → look world (get_or ids at 0) ≡ Some i → IsStocked world scale mode new → Grows old new → Draws world scale mode new i made grown more → DrawnSoFar world scale mode first new (take (at + 1) ids) grown (before + more)
drawn_more world scale mode first old new ids at made grown before more i so_far lt found stocked g d =
    let id = get_or ids at 0 in
    let es = made.elements.items in
    let ss = made.sketches in
    let step : take (at + 1) ids ≡ take at ids ++ id ∷ [] = take_more ids at 0 lt in
    let still : AllZip (IsNearElement world scale mode) (take at ids) (elements_of new es ss) = subst (AllZip (IsNearElement world scale mode) (take at ids)) (sym (elements_still old new es ss g so_far.near)) so_far.each in
    let all = all_zipped_more (IsNearElement world scale mode) (take at ids) (elements_of new es ss) id (element_of new d.element d.sketch) still (element_near world scale mode new id i d.element d.sketch found d.is) in
    let shows : elements_of new grown.elements.items grown.sketches ≡ elements_of new es ss ++ element_of new d.element d.sketch ∷ [] =
    ap (λ (l : List Element). elements_of new l grown.sketches) d.elements ∙ ap (elements_of new (es ++ d.element ∷ [])) d.sketches ∙ elements_more new es ss d.element d.sketch so_far.same in
    let count : more ≡ count_of world id = d.counted ∙ count_is world scale mode new id i d.element d.sketch found d.is in
    record {
      stocked = stocked;
      grows = grows_twice first old new so_far.grows g;
      each = rw (step, shows) all;
      near = subst (All (IsNearSketch new)) (sym d.sketches) (All-push (IsNearSketch new) ss d.sketch (all_still old new ss g so_far.near) d.is.near);
      same =
          ap length d.elements ∙ length-append es (d.element ∷ []) ∙ ap (λ n. n + 1) so_far.same ∙ sym (ap length d.sketches ∙ length-append ss (d.sketch ∷ []));
      some =
          subst (All (λ k. 0 < count_of world k)) (sym step)
          (All-push (λ k. 0 < count_of world k) (take at ids) id so_far.some (subst (λ n. 0 < n) (sym d.counted ∙ count) d.is.shows.some));
      counted = ap (λ n. n + more) so_far.counted ∙ ap (λ n. sum_by (count_of world) (take at ids) + n) count ∙ sym (sum_by_more (count_of world) ids at 0 lt);
    }

pub are_drawn : (world : List Instance) (scale : Scale) (mode : Mode) (first stock : Stock) (ids : List ℕ) (at : ℕ) (drawn : Drawn) (count : ℕ) → length ids ≤ at → count ≤ MOST_TRIANGLES → DrawnSoFar world scale mode first stock (take at ids) drawn count
    → AreDrawn world scale mode stock ids drawn
are_drawn world scale mode first stock ids at drawn count le few so_far =
    let whole = take_all at ids le in
    let some = subst (All (λ k. 0 < count_of world k)) whole so_far.some in
    record {
      sound = sound_stock world scale mode stock so_far.stocked;
      each = subst (λ (ks : List ℕ). AllZip (IsNearElement world scale mode) ks (elements_of stock drawn.elements.items drawn.sketches)) whole so_far.each;
      near = so_far.near;
      same = so_far.same;
      some = λ id c. subst (λ k. 0 < count_of world k) c.2 (some c.0 id c.1);
      few = subst (λ n. n ≤ MOST_TRIANGLES) (so_far.counted ∙ ap (sum_by (count_of world)) whole) few;
    }
