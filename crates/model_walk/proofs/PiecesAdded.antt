-- Pieces that are added, value by value.
use Rattle.std.proofs.Common.{◌≡◌, ℕ, ◌+◌, Bool, true, false, List, [], ◌∷◌, ◌++◌, length, map, filter, flat_map, filter_map, get_or, Option, Some, None, Result, Ok, Err, option_and_then, refl, sym, ap, ap₂, ◌∙◌, subst, append_assoc, append-nil, arith}
use Rattle.std.specs.Prelude.{IfOk, IfSome}
use Rattle.std.specs.List.{cons_option}
use Rattle.std.proofs.lemmas.List.{length-map, length-append, map-append}
use Rattle.std.proofs.lemmas.List.Elements.{All-nil, All-cons, All-append, filter-append}
use Rattle.std.proofs.lemmas.Grind.{flat_map-append}
use Rattle.bim_model.specs.declared.geometry.Point.{Point}
use Rattle.bim_model.specs.declared.geometry.Triangle.{Triangle}
use Rattle.bim_model.specs.declared.upload.Mode.{Mode}
use Rattle.p21_values.specs.declared.value.Value21.{Value21}
use Rattle.p21_values.specs.declared.value.Instance.{Instance}
use Rattle.p21_values.specs.Attributes.{reference_at, led_to}
use Rattle.p21_values.specs.InstanceLookup.{look}
use Rattle.p21_values.specs.InstancePlaces.{IsPlaceOf}
use Rattle.p21_values.specs.Values.{reference_of}
use Rattle.p21_values.proofs.PlaceLemmas.{some_instance, found_at}
use Rattle.ifc_instances.proofs.LedTo.{led_append, led_one}
use Rattle.ifc_schema.specs.BodyRepresentations.{is_body_representation}
use Rattle.ifc_units.specs.declared.scale.Scale.{Scale}
use Rattle.placement.specs.declared.frame.Frame.{Frame}
use Rattle.placement.specs.Operators.{OperatorFrame}
use Rattle.faceset.specs.FaceSets.{Joined, triangle_count}
use Rattle.faceset.proofs.Joins.{joined_one, joined_append}
use Rattle.ifc_elements.specs.Items.{is_mapped_item, mapped_sets, spelled_sets, items_of, bodies_among}
use Rattle.ifc_elements.specs.Sound.{KeptSet, KeptMapped, KeptItem}
use Rattle.ifc_elements.specs.Surfaces.{SetSurface, moved, placed_by}
use Rattle.ifc_elements.proofs.OneSet.{same_triangle}
use Rattle.ifc_elements.proofs.OneSurface.{same_map}
use Rattle.ifc_elements.proofs.TrianglesAdded.{joined_first, joined_length, mapped_kept, set_kept}
use Rattle.model_walk.specs.declared.set_pool.SetRows.{SetRows}
use Rattle.model_walk.specs.declared.shape_pieces.Piece.{Piece}
use Rattle.model_walk.specs.inner.PooledSets.{IsRead, AreReadSets}
use Rattle.model_walk.specs.inner.SurfacePieces.{AddsShown, IsOperator, Carried}
use Rattle.model_walk.specs.Sketches.{IsCarried, rows_with, kept_triangles, piece_triangles, pieces_triangles}
use Rattle.model_walk.specs.inner.Stocked.{AddsPieces}
use Rattle.walk_rows.specs.Pools.{pooled}
use Rattle.walk_rows.specs.Rows.{triangle_at, triangles_at}

-- where nothing carries triangles they stay
pub placed_none : (ts : List Triangle) → map (placed_by None) ts ≡ ts
placed_none [] = refl
placed_none (t ∷ ts) = ap₂ (λ (u : Triangle) (us : List Triangle). u ∷ us) (same_triangle (placed_by None t) t refl refl refl) (placed_none ts)

-- what is found is such a thing, since it is another
pub found_by : {A E : Type 0} (P Q : A → Type 0) (r : Result (Option A) E) → ((a : A) → P a → Q a) → IfOk r (λ found. IfSome found P) → IfOk r (λ found. IfSome found Q)
found_by P Q (Err e) f h = h
found_by P Q (Ok None) f h = h
found_by P Q (Ok (Some a)) f h = f a h

-- What values lead to.

-- a value leads to one instance, or to none
pub led_target : (world : List Instance) (v : Value21) (i : Instance) → Some i ≡ option_and_then (look world) (reference_of v) → led_to world (v ∷ []) ≡ i ∷ []
led_target world v i is = from (reference_of v) (sym is)
  where
    from : (r : Option ℕ) → option_and_then (look world) r ≡ Some i → filter_map (look world) (cons_option r []) ≡ i ∷ []
    from None e = absurd (cc)
    from (Some id) e = rw e refl

pub led_untold : (world : List Instance) (v : Value21) → None ≡ option_and_then (look world) (reference_of v) → led_to world (v ∷ []) ≡ []
led_untold world v is = from (reference_of v) (sym is)
  where
    from : (r : Option ℕ) → option_and_then (look world) r ≡ None → filter_map (look world) (cons_option r []) ≡ []
    from None e = refl
    from (Some id) e = rw e refl

-- the bodies among one instance
body_one : (i : Instance) (b : Bool) → b ≡ is_body_representation i → filter is_body_representation (i ∷ []) ≡ filter (λ (j : Instance). b) (i ∷ [])
body_one i b e = rw e refl

-- What was added.

-- nothing was
pub shown_none : (points : List (Option (List Point))) (sets : List (Option SetRows)) (Shows : List Triangle → Type 0) (old : List Piece) (before : ℕ) → Shows [] → AddsShown points sets Shows old old before before
shown_none points sets Shows old before shows = record {
  more = [];
  grown = sym (append-nil old);
  shows = shows;
  carried = All-nil IsCarried;
  counted = omega arith;
}

-- the same pieces show other triangles
pub shown_by : (points : List (Option (List Point))) (sets : List (Option SetRows)) (P Q : List Triangle → Type 0) (old new : List Piece) (before count : ℕ) → ((ts : List Triangle) → P ts → Q ts) → AddsShown points sets P old new before count
    → AddsShown points sets Q old new before count
shown_by points sets P Q old new before count f h = record { more = h.more; grown = h.grown; shows = f (pieces_triangles points sets h.more) h.shows; carried = h.carried; counted = h.counted }

-- more was added
pub shown_more : (points : List (Option (List Point))) (sets : List (Option SetRows)) (P Q R : List Triangle → Type 0) (start old new : List Piece) (before between count : ℕ)
    → ((ts us : List Triangle) → P ts → Q us → R (ts ++ us)) → AddsShown points sets P start old before between → AddsShown points sets Q old new between count → AddsShown points sets R start new before count
shown_more points sets P Q R start old new before between count join h k =
    let ts = pieces_triangles points sets h.more in
    let us = pieces_triangles points sets k.more in
    let parts : pieces_triangles points sets (h.more ++ k.more) ≡ ts ++ us = flat_map-append (piece_triangles points sets) h.more k.more in
    let long : length (pieces_triangles points sets (h.more ++ k.more)) ≡ length ts + length us = ap length parts ∙ length-append ts us in
    let m : between ≡ before + length ts = h.counted in
    let n : count ≡ between + length us = k.counted in
    record {
      more = h.more ++ k.more;
      grown = k.grown ∙ ap (λ z. z ++ k.more) h.grown ∙ append_assoc start h.more k.more;
      shows = subst R (sym parts) (join ts us h.shows k.shows);
      carried = All-append IsCarried h.more k.more h.carried k.carried;
      counted = omega (arith, m, n, long);
    }

pub shown_pieces : (world : List Instance) (scale : Scale) (mode : Mode) (points : List (Option (List Point))) (sets : List (Option SetRows)) (items : List Instance) (old new : List Piece) (before count : ℕ)
    → AddsShown points sets (Joined (KeptItem world scale mode) items) old new before count → AddsPieces world scale mode points sets items old new before count
shown_pieces world scale mode points sets items old new before count h = record { more = h.more; grown = h.grown; joined = h.shows; carried = h.carried; counted = h.counted }

pub pieces_shown : (world : List Instance) (scale : Scale) (mode : Mode) (points : List (Option (List Point))) (sets : List (Option SetRows)) (items : List Instance) (old new : List Piece) (before count : ℕ)
    → AddsPieces world scale mode points sets items old new before count → AddsShown points sets (Joined (KeptItem world scale mode) items) old new before count
pieces_shown world scale mode points sets items old new before count h = record { more = h.more; grown = h.grown; shows = h.joined; carried = h.carried; counted = h.counted }

pub pieces_none : (world : List Instance) (scale : Scale) (mode : Mode) (points : List (Option (List Point))) (sets : List (Option SetRows)) (items : List Instance) (old : List Piece) (before : ℕ) → items ≡ []
    → AddsPieces world scale mode points sets items old old before before
pieces_none world scale mode points sets items old before e =
    shown_pieces world scale mode points sets items old old before before (shown_none points sets (Joined (KeptItem world scale mode) items) old before (rw e refl))

pub pieces_more : (world : List Instance) (scale : Scale) (mode : Mode) (points : List (Option (List Point))) (sets : List (Option SetRows)) (xs ys zs : List Instance) (start old new : List Piece) (before between count : ℕ) → zs ≡ xs ++ ys
    → AddsPieces world scale mode points sets xs start old before between → AddsPieces world scale mode points sets ys old new between count → AddsPieces world scale mode points sets zs start new before count
pieces_more world scale mode points sets xs ys zs start old new before between count e h k =
    let J : List Instance → List Triangle → Type 0 = Joined (KeptItem world scale mode) in
    shown_pieces world scale mode points sets zs start new before count
    (shown_more points sets (J xs) (J ys) (J zs) start old new before between count
    (λ ts us j l. subst (λ is. J is (ts ++ us)) (sym e) (joined_append (KeptItem world scale mode) xs ys ts us j l))
    (pieces_shown world scale mode points sets xs start old before between h) (pieces_shown world scale mode points sets ys old new between count k))

pub pieces_of : (world : List Instance) (scale : Scale) (mode : Mode) (points : List (Option (List Point))) (sets : List (Option SetRows)) (xs ys : List Instance) (old new : List Piece) (before count : ℕ) → xs ≡ ys
    → AddsPieces world scale mode points sets xs old new before count → AddsPieces world scale mode points sets ys old new before count
pieces_of world scale mode points sets xs ys old new before count e h = subst (λ (is : List Instance). AddsPieces world scale mode points sets is old new before count) e h

-- Sets.

-- the set that a value refers to
pub set_shown : (world : List Instance) (scale : Scale) (mode : Mode) (points : List (Option (List Point))) (sets : List (Option SetRows)) (v : Value21) (id at : ℕ) (kept : SetRows) (operator : Option Frame) (old new : List Piece) (before : ℕ)
    → reference_of v ≡ Some id → IsPlaceOf world id at → pooled sets at ≡ Some kept → IsOperator operator → new ≡ old ++ record { set = at; operator = operator } ∷ [] → AreReadSets world scale mode points sets
    → AddsShown points sets (Carried operator (Joined (KeptSet world scale mode) (led_to world (v ∷ [])))) old new before (before + length kept.rows)
set_shown world scale mode points sets v id at kept operator old new before refers place there carries grown are =
    let i = some_at in
    let read : IsRead world scale mode points kept i = are at kept there some_instance in
    let own : List Triangle = triangles_at read.found kept.rows in
    let piece : Piece = record { set = at; operator = operator } in
    let same : kept_triangles points (pooled sets at) ≡ own = ap (kept_triangles points) there ∙ ap (λ (o : Option (List Point)). rows_with o kept) read.there in
    let shown : pieces_triangles points sets (piece ∷ []) ≡ map (placed_by operator) own = append-nil (piece_triangles points sets piece) ∙ ap (map (placed_by operator)) same in
    let led : led_to world (v ∷ []) ≡ i ∷ [] = led_one world v id i refers (found_at world id at some_instance place) in
    let joined : Joined (KeptSet world scale mode) (led_to world (v ∷ [])) own =
    subst (λ is. Joined (KeptSet world scale mode) is own) (sym led) (joined_one (KeptSet world scale mode) i own (read.rows.surface, read.rows.count)) in
    let long : length (pieces_triangles points sets (piece ∷ [])) ≡ length kept.rows = ap length shown ∙ length-map own (placed_by operator) ∙ length-map kept.rows (triangle_at read.found) in
    record {
      more = piece ∷ [];
      grown = grown;
      shows = (own, joined, shown);
      carried = All-cons IsCarried piece [] carries (All-nil IsCarried);
      counted = ap (λ (n : ℕ). before + n) (sym long);
    }
  where
    some_at : Instance
    some_at = get_or world at some_instance

-- carried triangles, and more of them
carried_more : (frame : Option Frame) (P Q R : List Triangle → Type 0) → ((ts us : List Triangle) → P ts → Q us → R (ts ++ us)) → (ts us : List Triangle) → Carried frame P ts → Carried frame Q us → Carried frame R (ts ++ us)
carried_more frame P Q R join ts us h k =
    (h.0 ++ k.0, join h.0 k.0 h.1 k.1, ap₂ (λ (xs ys : List Triangle). xs ++ ys) h.2 k.2 ∙ sym (map-append (placed_by frame) h.0 k.0))

-- the sets of one value more
pub sets_shown : (world : List Instance) (scale : Scale) (mode : Mode) (points : List (Option (List Point))) (sets : List (Option SetRows)) (frame : Option Frame) (given : List Value21) (v : Value21) (start old new : List Piece) (before between count : ℕ)
    → AddsShown points sets (Carried frame (Joined (KeptSet world scale mode) (led_to world given))) start old before between
    → AddsShown points sets (Carried frame (Joined (KeptSet world scale mode) (led_to world (v ∷ [])))) old new between count
    → AddsShown points sets (Carried frame (Joined (KeptSet world scale mode) (led_to world (given ++ v ∷ [])))) start new before count
sets_shown world scale mode points sets frame given v start old new before between count h k =
    let J : List Instance → List Triangle → Type 0 = Joined (KeptSet world scale mode) in
    let all = led_to world (given ++ v ∷ []) in
    let first = led_to world given in
    let last = led_to world (v ∷ []) in
    let join : (ts us : List Triangle) → J first ts → J last us → J all (ts ++ us) =
    λ ts us j l. subst (λ is. J is (ts ++ us)) (sym (led_append world given (v ∷ []))) (joined_append (KeptSet world scale mode) first last ts us j l) in
    shown_more points sets (Carried frame (J first)) (Carried frame (J last)) (Carried frame (J all)) start old new before between count (carried_more frame (J first) (J last) (J all) join) h k

pub no_sets : (world : List Instance) (scale : Scale) (mode : Mode) (frame : Option Frame) → Carried frame (Joined (KeptSet world scale mode) (led_to world [])) []
no_sets world scale mode frame = ([], refl, refl)

-- Items.

-- the sets of a mapped item, which its operator carries
pub mapped_shown : (world : List Instance) (scale : Scale) (mode : Mode) (item : Instance) (operator : ℕ) (frame : Frame) (values : List Value21) → reference_at item 1 ≡ Some operator → OperatorFrame world scale mode operator frame
    → values ≡ spelled_sets world item → (ts : List Triangle) → Carried (Some frame) (Joined (KeptSet world scale mode) (led_to world values)) ts → KeptMapped world scale mode item ts
mapped_shown world scale mode item operator frame values refers is_frame are ts h =
    let own = h.0 in
    let j : Joined (KeptSet world scale mode) (mapped_sets world item) own = subst (λ (us : List Value21). Joined (KeptSet world scale mode) (led_to world us) own) are h.1 in (
      record {
        operator = operator;
        refers = refers;
        frame = frame;
        is_frame = is_frame;
        own = own;
        of_sets = joined_first (SetSurface world scale mode) (triangle_count world) (mapped_sets world item) own j;
        all = h.2 ∙ same_map (placed_by (Some frame)) (moved frame) (λ t. refl) own;
      },
      ap length h.2 ∙ length-map own (placed_by (Some frame)) ∙ joined_length (SetSurface world scale mode) (triangle_count world) (mapped_sets world item) own j,
    )

pub mapped_item_shown : (world : List Instance) (scale : Scale) (mode : Mode) (points : List (Option (List Point))) (sets : List (Option SetRows)) (v : Value21) (i : Instance) (old new : List Piece) (before count : ℕ)
    → Some i ≡ option_and_then (look world) (reference_of v) → is_mapped_item i ≡ true → AddsShown points sets (KeptMapped world scale mode i) old new before count
    → AddsPieces world scale mode points sets (led_to world (v ∷ [])) old new before count
mapped_item_shown world scale mode points sets v i old new before count is kind h =
    let J : List Instance → List Triangle → Type 0 = Joined (KeptItem world scale mode) in
    let led = led_target world v i is in
    shown_pieces world scale mode points sets (led_to world (v ∷ [])) old new before count
    (shown_by points sets (KeptMapped world scale mode i) (J (led_to world (v ∷ []))) old new before count
    (λ ts k. subst (λ is. J is ts) (sym led) (joined_one (KeptItem world scale mode) i ts (mapped_kept world scale mode i ts kind k))) h)

set_item : (world : List Instance) (scale : Scale) (mode : Mode) (i : Instance) (ts : List Triangle) → is_mapped_item i ≡ false → Joined (KeptSet world scale mode) (i ∷ []) ts → Joined (KeptItem world scale mode) (i ∷ []) ts
set_item world scale mode i ts kind j = (j.0, j.1, set_kept world scale mode i j.0 kind j.2, j.3, j.4)

pub set_item_shown : (world : List Instance) (scale : Scale) (mode : Mode) (points : List (Option (List Point))) (sets : List (Option SetRows)) (v : Value21) (i : Instance) (old new : List Piece) (before count : ℕ)
    → Some i ≡ option_and_then (look world) (reference_of v) → is_mapped_item i ≡ false → AddsShown points sets (Carried None (Joined (KeptSet world scale mode) (led_to world (v ∷ [])))) old new before count
    → AddsPieces world scale mode points sets (led_to world (v ∷ [])) old new before count
set_item_shown world scale mode points sets v i old new before count is kind h =
    let led = led_target world v i is in
    shown_pieces world scale mode points sets (led_to world (v ∷ [])) old new before count
    (shown_by points sets (Carried None (Joined (KeptSet world scale mode) (led_to world (v ∷ [])))) (Joined (KeptItem world scale mode) (led_to world (v ∷ []))) old new before count (plain led) h)
  where
    plain : led_to world (v ∷ []) ≡ i ∷ [] → (ts : List Triangle) → Carried None (Joined (KeptSet world scale mode) (led_to world (v ∷ []))) ts → Joined (KeptItem world scale mode) (led_to world (v ∷ [])) ts
    plain led ts k =
        let same : k.0 ≡ ts = sym (k.2 ∙ placed_none k.0) in
        let one : Joined (KeptSet world scale mode) (i ∷ []) k.0 = subst (λ is. Joined (KeptSet world scale mode) is k.0) led k.1 in
        subst (Joined (KeptItem world scale mode) (led_to world (v ∷ []))) same (subst (λ is. Joined (KeptItem world scale mode) is k.0) (sym led) (set_item world scale mode i k.0 kind one))

-- Bodies.

pub among_untold : (world : List Instance) (v : Value21) → None ≡ option_and_then (look world) (reference_of v) → flat_map (items_of world) (bodies_among world (v ∷ [])) ≡ []
among_untold world v is = ap (λ is. flat_map (items_of world) (filter is_body_representation is)) (led_untold world v is)

pub among_other : (world : List Instance) (v : Value21) (i : Instance) → Some i ≡ option_and_then (look world) (reference_of v) → false ≡ is_body_representation i → flat_map (items_of world) (bodies_among world (v ∷ [])) ≡ []
among_other world v i is other = ap (λ is. flat_map (items_of world) (filter is_body_representation is)) (led_target world v i is) ∙ ap (flat_map (items_of world)) (body_one i false other)

pub among_body : (world : List Instance) (v : Value21) (i : Instance) → Some i ≡ option_and_then (look world) (reference_of v) → true ≡ is_body_representation i → items_of world i ≡ flat_map (items_of world) (bodies_among world (v ∷ []))
among_body world v i is body =
    sym (ap (λ is. flat_map (items_of world) (filter is_body_representation is)) (led_target world v i is) ∙ ap (flat_map (items_of world)) (body_one i true body) ∙ append-nil (items_of world i))

pub among_more : (world : List Instance) (given : List Value21) (v : Value21)
    → flat_map (items_of world) (bodies_among world (given ++ v ∷ [])) ≡ flat_map (items_of world) (bodies_among world given) ++ flat_map (items_of world) (bodies_among world (v ∷ []))
among_more world given v =
    ap (λ is. flat_map (items_of world) (filter is_body_representation is)) (led_append world given (v ∷ []))
    ∙ ap (flat_map (items_of world)) (filter-append is_body_representation (led_to world given) (led_to world (v ∷ [])))
    ∙ flat_map-append (items_of world) (bodies_among world given) (bodies_among world (v ∷ []))
