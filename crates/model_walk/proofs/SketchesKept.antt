-- Sketches that are kept in few bytes.
use Rattle.std.proofs.Common.{◌≡◌, ℕ, zero, suc, ◌<◌, ◌≤◌, List, [], ◌∷◌, ◌++◌, length, map, get_or, Option, Some, refl, sym, ap, ◌∙◌, subst, append-nil, arith}
use Rattle.std.specs.List.{All, slice_get}
use Rattle.std.proofs.lemmas.List.{get_or_append_left, get_or_push, get_or_read, get_or-map, length_push, length-append, length-map, map_push}
use Rattle.std.proofs.lemmas.List.Elements.{All-head, All-tail, All-push}
use Rattle.std.proofs.lemmas.Option.{slice_get-get_or}
use Rattle.placement.specs.declared.frame.Frame.{Frame}
use Rattle.model_walk.specs.declared.shape_pieces.Range.{Range}
use Rattle.model_walk.specs.declared.sketch_list.Note.{Note}
use Rattle.model_walk.specs.declared.sketch_list.Sketch.{Sketch}
use Rattle.model_walk.specs.SketchLists.{range_in, sketch_in, IsNoted, IsLonger, KeepsFrame, KeepsRange}
use Rattle.walk_rows.specs.Pools.{slot_in}

-- Lists that grow.

pub same_length : {T : Type 0} (xs : List T) → IsLonger xs xs
same_length xs = record { more = []; grown = sym (append-nil xs) }

pub one_longer : {T : Type 0} (old new : List T) (x : T) → new ≡ old ++ x ∷ [] → IsLonger old new
one_longer old new x e = record { more = x ∷ []; grown = e }

length_longer : {T : Type 0} (old new : List T) → IsLonger old new → length old ≤ length new
length_longer old new g = let l = ap length g.grown ∙ length-append old g.more in omega (arith, l)

get_still : {T : Type 0} (old more : List T) (k : ℕ) → k < length old → slice_get (old ++ more) k ≡ slice_get old k
get_still [] more k lt = absurd (omega (arith, lt))
get_still (x ∷ xs) more zero lt = refl
get_still (x ∷ xs) more (suc k) lt = get_still xs more k (omega (arith, lt))

slot_still : {T : Type 0} (old new : List T) (slot : ℕ) → IsLonger old new → slot ≤ length old → slot_in new slot ≡ slot_in old slot
slot_still old new zero g le = refl
slot_still old new (suc k) g le = ap (λ xs. slice_get xs k) g.grown ∙ get_still old g.more k (omega (arith, le))

range_still : (old new : List Range) (at : ℕ) → IsLonger old new → at < length old → range_in new at ≡ range_in old at
range_still old new at g lt = ap (λ xs. range_in xs at) g.grown ∙ get_or_append_left old g.more (record { from = 0; to = 0; count = 0 }) at lt

-- Notes.

abbrev pub sketched : Option Frame → Range → Sketch
sketched frame range = record { frame = frame; range = range }

pub both : {f g : Option Frame} {r s : Range} → f ≡ g → r ≡ s → sketched f r ≡ sketched g s
both {f} {g} {r} {s} e d = ap (λ (o : Option Frame). sketched o r) e ∙ ap (sketched g) d

noted_still : (fo fn : List Frame) (ro rn : List Range) (note : Note) → IsLonger fo fn → IsLonger ro rn → IsNoted (length fo) (length ro) note → IsNoted (length fn) (length rn) note
noted_still fo fn ro rn note f r is =
    let a = length_longer fo fn f in
    let b = length_longer ro rn r in
    record { frame = omega (arith, a, is.frame); range = omega (arith, b, is.range) }

-- what was noted is there still
pub all_noted : (fo fn : List Frame) (ro rn : List Range) (notes : List Note) → IsLonger fo fn → IsLonger ro rn → All (IsNoted (length fo) (length ro)) notes → All (IsNoted (length fn) (length rn)) notes
all_noted fo fn ro rn notes f r all = λ k d lt. noted_still fo fn ro rn (get_or notes k d) f r (all k d lt)

sketches_still : (fo fn : List Frame) (ro rn : List Range) (notes : List Note) → IsLonger fo fn → IsLonger ro rn → All (IsNoted (length fo) (length ro)) notes → map (sketch_in fn rn) notes ≡ map (sketch_in fo ro) notes
sketches_still fo fn ro rn [] f r all = refl
sketches_still fo fn ro rn (n ∷ ns) f r all =
    let first = All-head (IsNoted (length fo) (length ro)) n ns all in
    let same : sketch_in fn rn n ≡ sketch_in fo ro n = both (slot_still fo fn n.frame f first.frame) (range_still ro rn n.range r first.range) in
    ap (λ (s : Sketch). s ∷ map (sketch_in fn rn) ns) same ∙ ap (λ (ss : List Sketch). sketch_in fo ro n ∷ ss) (sketches_still fo fn ro rn ns f r (All-tail (IsNoted (length fo) (length ro)) n ns all))

-- One more is kept.

-- the note of a sketch tells it
pub one_noted : (fo fn : List Frame) (ro rn : List Range) (old new : List Note) (note : Note) (sketch : Sketch) → IsLonger fo fn → IsLonger ro rn → All (IsNoted (length fo) (length ro)) old → KeepsFrame sketch.frame fn note.frame → KeepsRange sketch.range rn note.range → new ≡ old ++ note ∷ []
    → map (sketch_in fn rn) new ≡ map (sketch_in fo ro) old ++ sketch ∷ []
one_noted fo fn ro rn old new note sketch f r all frame range e =
    let said : sketch_in fn rn note ≡ sketch = both frame.said range.said in
    ap (map (sketch_in fn rn)) e ∙ map_push (sketch_in fn rn) old note ∙ ap (λ (ss : List Sketch). ss ++ sketch_in fn rn note ∷ []) (sketches_still fo fn ro rn old f r all) ∙ ap (λ (s : Sketch). map (sketch_in fo ro) old ++ s ∷ []) said

-- and is there
pub one_there : (fo fn : List Frame) (ro rn : List Range) (old new : List Note) (note : Note) (frame : Option Frame) (range : Range) → IsLonger fo fn → IsLonger ro rn → All (IsNoted (length fo) (length ro)) old → KeepsFrame frame fn note.frame → KeepsRange range rn note.range → new ≡ old ++ note ∷ []
    → All (IsNoted (length fn) (length rn)) new
one_there fo fn ro rn old new note frame range f r all keeps kept e =
    subst (All (IsNoted (length fn) (length rn))) (sym e) (All-push (IsNoted (length fn) (length rn)) old note (all_noted fo fn ro rn old f r all) (record { frame = keeps.within; range = kept.within }))

-- a frame that was kept last
pub frame_last : (old new : List Frame) (frame : Frame) (slot : ℕ) → new ≡ old ++ frame ∷ [] → slot ≡ length new → KeepsFrame (Some frame) new slot
frame_last old new frame slot e l =
    let p = length_push old frame in
    let q : slot ≡ length (old ++ frame ∷ []) = l ∙ ap length e in
    let long : slot ≡ suc (length old) = omega (arith, p, q) in
    record {
      within = omega (arith, l);
      said =
          ap (λ (xs : List Frame). slot_in xs slot) e ∙ ap (slot_in (old ++ frame ∷ [])) long
          ∙ slice_get-get_or (old ++ frame ∷ []) (length old) frame (omega (arith, p)) ∙ ap Some (get_or_push old frame frame (length old) refl);
    }

-- a range that was kept last
pub range_last : (old new : List Range) (range : Range) (at : ℕ) → new ≡ old ++ range ∷ [] → at ≡ length old → KeepsRange range new at
range_last old new range at e l =
    let p = ap length e ∙ length_push old range in
    record {
      within = omega (arith, p, l);
      said = ap (λ (xs : List Range). range_in xs at) e ∙ ap (range_in (old ++ range ∷ [])) l ∙ get_or_push old range (record { from = 0; to = 0; count = 0 }) (length old) refl;
    }

-- the sketch of a note
pub sketch_there : (frames : List Frame) (ranges : List Range) (notes : List Note) (at : ℕ) (note : Note) (sketch : Sketch) → at < length notes → note ≡ get_or notes at note → sketch.frame ≡ slot_in frames note.frame → sketch.range ≡ get_or ranges note.range sketch.range
    → note.range < length ranges → sketch ≡ get_or (map (sketch_in frames ranges) notes) at sketch
sketch_there frames ranges notes at note sketch lt is frame range within =
    let whole : sketch ≡ sketch_in frames ranges note = both frame (get_or_read ranges note.range sketch.range within range (record { from = 0; to = 0; count = 0 })) in
    whole ∙ ap (sketch_in frames ranges) is ∙ sym (get_or-map (sketch_in frames ranges) notes at note sketch lt)

-- what a note tells is there
pub note_there : (frames : List Frame) (ranges : List Range) (notes : List Note) (at : ℕ) (note : Note) → All (IsNoted (length frames) (length ranges)) notes → at < length notes → note ≡ get_or notes at note → IsNoted (length frames) (length ranges) note
note_there frames ranges notes at note all lt is = subst (IsNoted (length frames) (length ranges)) (sym is) (all at note lt)

-- as many as there are notes
pub as_many : (frames : List Frame) (ranges : List Range) (notes : List Note) (sketches : List Sketch) (at : ℕ) → map (sketch_in frames ranges) notes ≡ sketches → at < length sketches → at < length notes
as_many frames ranges notes sketches at e lt = let l = sym (length-map notes (sketch_in frames ranges)) ∙ ap length e in omega (arith, l, lt)
