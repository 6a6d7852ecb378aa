-- The polygon of a face's loops, as the code makes it.
use Rattle.std.proofs.Common.{◌≡◌, ℕ, suc, ◌+◌, ◌<◌, ◌≤◌, List, [], ◌∷◌, ◌++◌, append_assoc, length, map, take, get_or, Option, Some, None, All, Vec, Global, sym, ap, ◌∙◌, arith}
use Rattle.std.specs.Option.{option_map, option_and_then}
use Rattle.std.proofs.lemmas.List.{append-nil, map-append, length-map, take_more, nil_from_length}
use Rattle.std.proofs.lemmas.List.Concat.{flat_map-append}
use Rattle.std.proofs.lemmas.List.Elements.{All-append, All-cons}
use Rattle.bim_model.specs.declared.geometry.Point.{Point}
use Rattle.bim_model.specs.Points.{IsGridPoint}
use Rattle.ear_cut.specs.declared.ears.Ear.{Ear}
use Rattle.ear_cut.specs.Areas.{point_at}
use Rattle.ear_cut.specs.Corners.{nobody}
use Rattle.ear_cut.specs.Removal.{cut_of}
use Rattle.void_bridge.specs.HoleLoops.{corner_count, IsLoop, AreLoops}
use Rattle.void_bridge.specs.Bridges.{points_at, joined_of}
use Rattle.void_bridge.proofs.JoinedCounts.{joined_count}
use Rattle.faceset.specs.FacePolygons.{ear_by, ears_by, ears_of, AreApart}
use Rattle.faceset.proofs.Loops.{flat, loops_few}
use Rattle.faceset.proofs.Held.{point_has}

abbrev pub items_of : {X : Type 0} → List (Vec X Global) → List (List X)
items_of vs = map (λ v. v.items) vs

-- one loop more
pub rings_more : (vs : List (Vec Point Global)) (i : ℕ) (v : Vec Point Global) → i < length vs → v ≡ get_or vs i v → flat (items_of (take (i + 1) vs)) ≡ flat (items_of (take i vs)) ++ v.items
rings_more vs i v lt at =
    let e : take (i + 1) vs ≡ take i vs ++ v ∷ [] = take_more vs i v lt ∙ ap (λ (u : Vec Point Global). take i vs ++ u ∷ []) (sym at) in
    ap (λ (us : List (Vec Point Global)). flat (items_of us)) e
    ∙ (ap flat (map-append (λ (u : Vec Point Global). u.items) (take i vs) (v ∷ []))
    ∙ (flat_map-append (λ (xs : List Point). xs) (items_of (take i vs)) (v.items ∷ []) ∙ ap (λ (ps : List Point). flat (items_of (take i vs)) ++ ps) (append-nil v.items)))

pub loops_added : (first old new ring : List Point) (vs : List (Vec Point Global)) (i : ℕ) (v : Vec Point Global) → i < length vs → v ≡ get_or vs i v → ring ≡ v.items → new ≡ old ++ ring
    → old ≡ first ++ flat (items_of (take i vs)) → new ≡ first ++ flat (items_of (take (i + 1) vs))
loops_added first old new ring vs i v lt at is grown before =
    grown ∙ (ap (λ (ps : List Point). old ++ ps) is ∙ (ap (λ (ps : List Point). ps ++ v.items) before
    ∙ (append_assoc first (flat (items_of (take i vs))) v.items ∙ ap (λ (ps : List Point). first ++ ps) (sym (rings_more vs i v lt at)))))

-- ---- the list of a face has so many corners, on the grid
pub joined_three : (outer : List Point) (inner : List (List Point)) (list : List ℕ) → IsLoop outer → joined_of outer inner ≡ Some list → 3 ≤ length (points_at outer inner list)
joined_three outer inner list is joined =
    let c = joined_count outer inner list joined in
    let m = length-map list (point_at (outer ++ flat inner)) in
    let t = is.three in
    omega (arith, c, m, t)

pub joined_few : (outer : List Point) (inner : List (List Point)) (list : List ℕ) → AreLoops inner → length outer + corner_count inner ≤ 1000 → joined_of outer inner ≡ Some list → length (points_at outer inner list) ≤ 65536
joined_few outer inner list are few joined =
    let c = joined_count outer inner list joined in
    let m = length-map list (point_at (outer ++ flat inner)) in
    let l = loops_few inner are in
    omega (arith, c, m, l, few)

flat_grid : (loops : List (List Point)) → AreLoops loops → All IsGridPoint (flat loops)
flat_grid [] all = λ k d lt. absurd (omega (arith, lt))
flat_grid (loop ∷ loops) all =
    All-append IsGridPoint loop (flat loops) (all 0 loop (omega arith)).in_grid (flat_grid loops (λ k d lt. all (suc k) d (omega (arith, lt))))

origin : IsGridPoint nobody.point
origin = record { x_in = search arith; y_in = search arith; z_in = search arith }

points_grid : (points : List Point) (list : List ℕ) → All IsGridPoint points → All IsGridPoint (map (point_at points) list)
points_grid points [] all = λ k d lt. absurd (omega (arith, lt))
points_grid points (place ∷ list) all = All-cons IsGridPoint (point_at points place) (map (point_at points) list) (point_has IsGridPoint origin points all place) (points_grid points list all)

pub joined_grid : (outer : List Point) (inner : List (List Point)) (list : List ℕ) → IsLoop outer → AreLoops inner → All IsGridPoint (points_at outer inner list)
joined_grid outer inner list is are = points_grid (outer ++ flat inner) list (All-append IsGridPoint outer (flat inner) is.in_grid (flat_grid inner are))

-- ---- its triangles
pub ears_are : (outer : List Point) (inner : List (List Point)) (list : List ℕ) (corners : List Point) (ears made : List Ear) → corners ≡ points_at outer inner list → cut_of corners ≡ Some ears → made ≡ map (ear_by list) ears
    → ears_by outer inner list ≡ Some made
unfolding ears_by
ears_are outer inner list corners ears made same cut are = ap (option_map (map (ear_by list))) (ap cut_of (sym same) ∙ cut) ∙ ap Some (sym are)

pub no_ears : (outer : List Point) (inner : List (List Point)) (list : List ℕ) (corners : List Point) → corners ≡ points_at outer inner list → cut_of corners ≡ None → ears_by outer inner list ≡ None
unfolding ears_by
no_ears outer inner list corners same stuck = ap (option_map (map (ear_by list))) (ap cut_of (sym same) ∙ stuck)

-- ---- of a face with inner loops
some_items : (vs : List (Vec Point Global)) → 0 < length vs → 0 < length (items_of vs)
some_items vs some = let m = length-map vs (λ (v : Vec Point Global). v.items) in omega (arith, some, m)

joined_by : (outer : List Point) (inner : List (List Point)) (list : List ℕ) (o : Option (List Ear)) → 0 < length inner → joined_of outer inner ≡ Some list → ears_by outer inner list ≡ o → ears_of outer inner ≡ o
joined_by outer [] list o some joined ears = absurd (omega (arith, some))
joined_by outer (loop ∷ loops) list o some joined ears = ap (option_and_then (ears_by outer (loop ∷ loops))) joined ∙ ears

pub joined_cut : (outer : List Point) (vs : List (Vec Point Global)) (list : List ℕ) (o : Option (List Ear)) → 0 < length vs → joined_of outer (items_of vs) ≡ Some list → ears_by outer (items_of vs) list ≡ o → ears_of outer (items_of vs) ≡ o
joined_cut outer vs list o some joined ears = joined_by outer (items_of vs) list o (some_items vs some) joined ears

together : (outer : List Point) (inner : List (List Point)) (list : List ℕ) → joined_of outer inner ≡ Some list → AreApart outer inner → ⊥
together outer [] list joined apart = apart
together outer (loop ∷ loops) list joined apart = let e : Some list ≡ None = sym joined ∙ apart in cc

pub joined_together : (outer : List Point) (vs : List (Vec Point Global)) (list : List ℕ) → joined_of outer (items_of vs) ≡ Some list → AreApart outer (items_of vs) → ⊥
joined_together outer vs list joined apart = together outer (items_of vs) list joined apart

apart_by : (outer : List Point) (inner : List (List Point)) → 0 < length inner → joined_of outer inner ≡ None → AreApart outer inner
apart_by outer [] some none = absurd (omega (arith, some))
apart_by outer (loop ∷ loops) some none = none

pub apart_are : (outer : List Point) (vs : List (Vec Point Global)) → 0 < length vs → joined_of outer (items_of vs) ≡ None → AreApart outer (items_of vs)
apart_are outer vs some none = apart_by outer (items_of vs) (some_items vs some) none

pub no_items : (vs : List (Vec Point Global)) → length vs ≡ 0 → items_of vs ≡ []
no_items vs e = ap items_of (nil_from_length vs e)
