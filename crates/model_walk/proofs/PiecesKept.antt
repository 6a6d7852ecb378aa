-- Pieces that are added leave those of earlier shapes where they stand.
use Rattle.std.proofs.Common.{◌≡◌, ℕ, ◌+◌, ◌-◌, ◌<◌, ◌≤◌, inl, inr, List, [], ◌++◌, length, get_or, map, flat_map, take, drop, take_all, Option, Some, None, Result, Ok, Err, option_and_then, refl, sym, ap, ◌∙◌, subst, append_assoc, append-nil, zero-add, arith}
use Rattle.std.specs.List.{All, HoldsAt, slice_get}
use Rattle.std.specs.Option.{IfSome}
use Rattle.std.specs.Result.{IfOk}
use Rattle.std.specs.declared.alloc.AllocError.{AllocError}
use Rattle.std.proofs.lemmas.List.{take-append-le, drop-append-le, length-drop, length-append}
use Rattle.std.proofs.lemmas.List.Elements.{All-append}
use Rattle.std.proofs.lemmas.Option.{slice_get-get_or}
use Rattle.std.proofs.Math.Seq.{drop-append_seam}
use Rattle.bim_model.specs.declared.geometry.Point.{Point}
use Rattle.bim_model.specs.declared.geometry.Triangle.{Triangle}
use Rattle.bim_model.specs.declared.upload.Mode.{Mode}
use Rattle.bim_model.specs.Boxes.{corners_of}
use Rattle.bim_model.specs.Models.{IsInReach}
use Rattle.p21_values.specs.declared.value.Instance.{Instance}
use Rattle.p21_values.specs.Attributes.{reference_at, target_at}
use Rattle.p21_values.specs.InstanceLookup.{look}
use Rattle.p21_values.specs.InstancePlaces.{IsPlaceOf}
use Rattle.p21_values.proofs.PlaceLemmas.{some_instance, trichotomy, found_at}
use Rattle.p21_values.proofs.ValueLemmas.{one}
use Rattle.ifc_units.specs.declared.scale.Scale.{Scale}
use Rattle.faceset.specs.FaceSets.{Joined}
use Rattle.ifc_elements.specs.Items.{items_of, bodies_among, listed_by, body_items}
use Rattle.ifc_elements.specs.Sound.{KeptItem}
use Rattle.ifc_elements.specs.Surfaces.{placed_by}
use Rattle.model_walk.specs.declared.sketch_list.Sketch.{Sketch}
use Rattle.model_walk.specs.declared.element_sketches.Stock.{Stock}
use Rattle.model_walk.specs.declared.shape_pieces.Piece.{Piece}
use Rattle.model_walk.specs.declared.shape_pieces.Range.{Range}
use Rattle.model_walk.specs.inner.PooledSets.{AreReadSets}
use Rattle.model_walk.specs.Sketches.{rows_with, pieces_triangles, pieces_in, range_triangles, IsCarried, IsSoundStock, IsRangeIn, IsNearSketch}
use Rattle.model_walk.specs.inner.Stocked.{AddsPieces, shape_items, ShowsItems, IsStocked, Grows}
use Rattle.walk_rows.specs.Pools.{pooled, Pools}

-- Lists that grow.

cut_same : (pieces more : List Piece) (from to : ℕ) → from ≤ to → to ≤ length pieces → take (to - from) (drop from (pieces ++ more)) ≡ take (to - from) (drop from pieces)
cut_same pieces more from to order within =
    let l = length-drop from pieces in
    ap (take (to - from)) (drop-append-le from pieces more (omega (arith, order, within))) ∙ take-append-le (to - from) (drop from pieces) more (omega (arith, order, within, l))

-- what was added last
cut_last : (pieces more : List Piece) (n : ℕ) → length more ≤ n → take n (drop (length pieces) (pieces ++ more)) ≡ more
cut_last pieces more n le = ap (take n) (drop-append_seam pieces more) ∙ take_all n more le

pub same_stock : (stock : Stock) → Grows stock stock
same_stock stock = record { points = refl; sets = refl; more = []; pieces = sym (append-nil stock.pieces.items) }

pub grows_twice : (first old new : Stock) → Grows first old → Grows old new → Grows first new
grows_twice first old new g h = record {
  points = h.points ∙ g.points;
  sets = h.sets ∙ g.sets;
  more = g.more ++ h.more;
  pieces = h.pieces ∙ ap (λ z. z ++ h.more) g.pieces ∙ append_assoc first.pieces.items g.more h.more;
}

-- Ranges.

pub range_same : (old new : Stock) (range : Range) → Grows old new → IsRangeIn old range → range_triangles new range ≡ range_triangles old range
range_same old new range g r =
    ap (λ ps. pieces_triangles ps new.sets (pieces_in new.pieces.items range)) g.points ∙ ap (λ ss. pieces_triangles old.points ss (pieces_in new.pieces.items range)) g.sets
    ∙ ap (pieces_triangles old.points old.sets) (ap (λ ps. pieces_in ps range) g.pieces ∙ cut_same old.pieces.items g.more range.from range.to r.ordered r.within)

range_there : (old new : Stock) (range : Range) → Grows old new → IsRangeIn old range → IsRangeIn new range
range_there old new range g r =
    let l = ap length g.pieces ∙ length-append old.pieces.items g.more in
    let within = r.within in
    record { ordered = r.ordered; within = omega (arith, within, l) }

shows_still : (world : List Instance) (scale : Scale) (mode : Mode) (old new : Stock) (items : List Instance) (range : Range) → Grows old new → ShowsItems world scale mode old items range → ShowsItems world scale mode new items range
shows_still world scale mode old new items range g s =
    let same = sym (range_same old new range g s.there) in
    record {
      there = range_there old new range g s.there;
      joined = subst (Joined (KeptItem world scale mode) items) same s.joined;
      counted = s.counted ∙ ap length same;
      some = s.some;
    }

-- a sketch is still near
pub near_still : (old new : Stock) (sketch : Sketch) → Grows old new → IsNearSketch old sketch → IsNearSketch new sketch
near_still old new sketch g n = record {
  there = range_there old new sketch.range g n.there;
  framed = n.framed;
  near = subst (λ (ts : List Triangle). All IsInReach (corners_of (map (placed_by sketch.frame) ts))) (sym (range_same old new sketch.range g n.there)) n.near;
}

-- One shape more.

stands_at : (world : List Instance) (at : ℕ) (shape d : Instance) → at < length world → slice_get world at ≡ Some shape → shape ≡ get_or world at d
stands_at world at shape d lt e = one (slice_get world at) shape (get_or world at d) e (slice_get-get_or world at d lt)

module _ (world : List Instance) (scale : Scale) (mode : Mode) (old new : Stock) (at count : ℕ) (shape : Instance) (range : Range) (stocked : IsStocked world scale mode old) (points : new.points ≡ old.points) (sets : new.sets ≡ old.sets)
    (added : AddsPieces world scale mode old.points old.sets (shape_items world shape) old.pieces.items new.pieces.items 0 count) (put : Pools old.shapes new.shapes at range) (lt : at < length world) (there : slice_get world at ≡ Some shape)
    (from : range.from ≡ length old.pieces.items) (to : range.to ≡ length new.pieces.items) (counted : range.count ≡ count) (some : 0 < count) where
  pub more_grows : Grows old new
  more_grows = record { points = points; sets = sets; more = added.more; pieces = added.grown }

  long : length new.pieces.items ≡ length old.pieces.items + length added.more
  long = ap length added.grown ∙ length-append old.pieces.items added.more

  last : pieces_in new.pieces.items range ≡ added.more
  last =
      ap (λ n. take (range.to - n) (drop n new.pieces.items)) from ∙ ap (λ ps. take (range.to - length old.pieces.items) (drop (length old.pieces.items) ps)) added.grown
      ∙ cut_last old.pieces.items added.more (range.to - length old.pieces.items) (omega (arith, to, long))

  last_triangles : range_triangles new range ≡ pieces_triangles old.points old.sets added.more
  last_triangles =
      ap (λ ps. pieces_triangles ps new.sets (pieces_in new.pieces.items range)) points ∙ ap (λ ss. pieces_triangles old.points ss (pieces_in new.pieces.items range)) sets ∙ ap (pieces_triangles old.points old.sets) last

  shows_shape : ShowsItems world scale mode new (shape_items world shape) range
  shows_shape = record {
    there = record { ordered = omega (arith, from, to, long); within = omega (arith, to) };
    joined = subst (Joined (KeptItem world scale mode) (shape_items world shape)) (sym last_triangles) added.joined;
    counted = counted ∙ added.counted ∙ zero-add (length (pieces_triangles old.points old.sets added.more)) ∙ ap length (sym last_triangles);
    some = subst (λ n. 0 < n) (sym counted) some;
  }

  pub more_shows : HoldsAt (λ s. ShowsItems world scale mode new (shape_items world s) range) world at
  more_shows = λ d. subst (λ (s : Instance). ShowsItems world scale mode new (shape_items world s) range) (stands_at world at shape d lt there) shows_shape

  still_shows : (other : ℕ) (kept : Range) → pooled new.shapes other ≡ Some kept → HoldsAt (λ s. ShowsItems world scale mode new (shape_items world s) kept) world other
  still_shows other kept e = elim (trichotomy other at) [
    | inl below ↦ earlier (λ same. absurd (omega (arith, below, same)))
    | inr (inl same) ↦ here same
    | inr (inr above) ↦ earlier (λ same. absurd (omega (arith, above, same)))
  ]
    where
      earlier : (other ≡ at → ⊥) → HoldsAt (λ s. ShowsItems world scale mode new (shape_items world s) kept) world other
      earlier differs = λ d. shows_still world scale mode old new (shape_items world (get_or world other d)) kept more_grows (stocked.shapes other kept (sym (put.others other differs) ∙ e) d)

      here : other ≡ at → HoldsAt (λ s. ShowsItems world scale mode new (shape_items world s) kept) world other
      here same =
          let now : pooled new.shapes at ≡ Some kept = subst (λ k. pooled new.shapes k ≡ Some kept) same e in
          let is : range ≡ kept = one (pooled new.shapes at) range kept put.here now in
          subst (λ k. HoldsAt (λ s. ShowsItems world scale mode new (shape_items world s) kept) world k) (sym same) (subst (λ (r : Range). HoldsAt (λ s. ShowsItems world scale mode new (shape_items world s) r) world at) is more_shows)

  pub more_stocked : IsStocked world scale mode new
  more_stocked = record {
    sets = subst (λ ps. AreReadSets world scale mode ps new.sets) (sym points) (subst (AreReadSets world scale mode old.points) (sym sets) stocked.sets);
    pieces = subst (All IsCarried) (sym added.grown) (All-append IsCarried old.pieces.items added.more stocked.pieces added.carried);
    places = put.size ∙ stocked.places;
    shapes = still_shows;
  }

-- The shape of an element.

body_shape : (world : List Instance) (i shape : Instance) (id : ℕ) → reference_at i 6 ≡ Some id → look world id ≡ Some shape → shape_items world shape ≡ body_items world i
body_shape world i shape id refers found =
    let target : target_at world i 6 ≡ Some shape = ap (λ o. option_and_then (look world) o) refers ∙ found in
    sym (ap (λ o. flat_map (items_of world) (bodies_among world (listed_by o 2))) target)

-- what a shape shows an element shows that has this shape
pub shown_by_shape : (world : List Instance) (scale : Scale) (mode : Mode) (stock : Stock) (i : Instance) (id at : ℕ) (range : Range) → reference_at i 6 ≡ Some id → IsPlaceOf world id at
    → HoldsAt (λ s. ShowsItems world scale mode stock (shape_items world s) range) world at → ShowsItems world scale mode stock (body_items world i) range
shown_by_shape world scale mode stock i id at range refers place h =
    subst (λ (is : List Instance). ShowsItems world scale mode stock is range) (body_shape world i (get_or world at some_instance) id refers (found_at world id at some_instance place)) (h some_instance)

pub found_shows : (world : List Instance) (scale : Scale) (mode : Mode) (stock : Stock) (i : Instance) (id at : ℕ) (r : Result (Option Range) AllocError) → reference_at i 6 ≡ Some id → IsPlaceOf world id at
    → IfOk r (λ found. IfSome found (λ range. HoldsAt (λ s. ShowsItems world scale mode stock (shape_items world s) range) world at)) → IfOk r (λ found. IfSome found (ShowsItems world scale mode stock (body_items world i)))
found_shows world scale mode stock i id at (Err e) refers place h = h
found_shows world scale mode stock i id at (Ok None) refers place h = h
found_shows world scale mode stock i id at (Ok (Some range)) refers place h = shown_by_shape world scale mode stock i id at range refers place h

-- What is stocked can be carried.

pub sound_stock : (world : List Instance) (scale : Scale) (mode : Mode) (stock : Stock) → IsStocked world scale mode stock → IsSoundStock stock
sound_stock world scale mode stock s = record {
  sets = λ at kept e.
      let r = s.sets at kept e some_instance in
      subst (λ (o : Option (List Point)). All IsInReach (corners_of (rows_with o kept))) (sym r.there) r.rows.near;
  pieces = s.pieces;
}
