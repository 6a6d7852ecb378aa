-- The edges of the joined list are those of the list and of the loop, and the bridge there and back.
use Rattle.std.proofs.Common.{◌≡◌, ◌∙◌, ap, sym, refl, ℕ, zero, suc, ◌+◌, ◌<◌, Bool, true, false, not, ◌||◌, ◌&&◌, cond, List, [], ◌∷◌, ◌++◌, append_assoc, length, take, drop, Option, Some, arith}
use Rattle.std.specs.Prelude.{slice_index_or, remove}
use Rattle.std.specs.List.{list_any, flat_map}
use Rattle.std.specs.Option.{option_map}
use Rattle.std.proofs.lemmas.List.{append-nil, drop_more, take-append-drop}
use Rattle.std.proofs.lemmas.List.Folds.{list_any-append}
use Rattle.ear_cut.specs.declared.polygon_view.View.{View}
use Rattle.ear_cut.specs.declared.corners.Corner.{Corner}
use Rattle.ear_cut.specs.declared.corners.Turn.{Turn}
use Rattle.ear_cut.specs.PolygonViews.{same_spot}
use Rattle.ear_cut.specs.Corners.{nobody, turn_at}
use Rattle.ear_cut.specs.Removal.{first_from}
use Rattle.void_bridge.specs.declared.bridges.Bridge.{Bridge}
use Rattle.void_bridge.specs.LoopEdges.{Segment, segment, spot_of, edges_along, edges_round, all_edges, collide}
use Rattle.void_bridge.specs.Bridges.{leads_inside, bridge_between, is_free, or_found, first_found, bridge_from, bridge_by, IsBridgeIn, joined_by}
use Rattle.void_bridge.specs.inner.Barriers.{AreSame}
use Rattle.void_bridge.proofs.Detours.{split_at, joined_way}

-- ---- tests of two lists
or_comm : (x y : Bool) → x || y ≡ y || x
or_comm true true = refl
or_comm true false = refl
or_comm false true = refl
or_comm false false = refl

-- the tests of a way there and back, of what lies between and of what comes behind
or_detour : (there back r c : Bool) → there || (r || (back || c)) ≡ c || (r || (there || (back || false)))
or_detour true back r true = refl
or_detour true back true false = refl
or_detour true back false false = refl
or_detour false back true true = refl
or_detour false back true false = refl
or_detour false true false true = refl
or_detour false true false false = refl
or_detour false false false true = refl
or_detour false false false false = refl

-- ---- lists in which the same tests find one
pub same_lists : (xs ys : List Segment) → xs ≡ ys → AreSame xs ys
same_lists xs ys e = λ test. ap (list_any test) e

same_on : (xs ys zs : List Segment) → AreSame xs ys → AreSame ys zs → AreSame xs zs
same_on xs ys zs e f = λ test. e test ∙ f test

same_append : (xs ys us vs : List Segment) → AreSame xs ys → AreSame us vs → AreSame (xs ++ us) (ys ++ vs)
same_append xs ys us vs e f = λ test.
    list_any-append test xs us
    ∙ (ap (λ (b : Bool). b || list_any test us) (e test)
    ∙ (ap (λ (b : Bool). list_any test ys || b) (f test) ∙ sym (list_any-append test ys vs)))

same_behind : (xs us vs : List Segment) → AreSame us vs → AreSame (xs ++ us) (xs ++ vs)
same_behind xs us vs f = same_append xs xs us vs (λ test. refl) f

same_swap : (xs ys : List Segment) → AreSame (xs ++ ys) (ys ++ xs)
same_swap xs ys = λ test. list_any-append test xs ys ∙ (or_comm (list_any test xs) (list_any test ys) ∙ sym (list_any-append test ys xs))

-- the first of three goes behind the second
same_second : (xs ys zs : List Segment) → AreSame (xs ++ (ys ++ zs)) (ys ++ (xs ++ zs))
same_second xs ys zs =
    same_on (xs ++ (ys ++ zs)) ((xs ++ ys) ++ zs) (ys ++ (xs ++ zs)) (same_lists (xs ++ (ys ++ zs)) ((xs ++ ys) ++ zs) (sym (append_assoc xs ys zs)))
    (same_on ((xs ++ ys) ++ zs) ((ys ++ xs) ++ zs) (ys ++ (xs ++ zs)) (same_append (xs ++ ys) (ys ++ xs) zs zs (same_swap xs ys) (λ test. refl))
    (same_lists ((ys ++ xs) ++ zs) (ys ++ (xs ++ zs)) (append_assoc ys xs zs)))

-- ---- edges along a list, in two parts
module _ (view : View) where
  abbrev edge : Corner → Corner → Segment
  edge c d = segment (spot_of view c) (spot_of view d)

  along_join : (p : Corner) (ps : List Corner) (q : Corner) (rs : List Corner) → edges_along view (p ∷ (ps ++ q ∷ rs)) ≡ edges_along view (p ∷ (ps ++ q ∷ [])) ++ edges_along view (q ∷ rs)
  along_join p [] q rs = refl
  along_join p (r ∷ ps) q rs = ap (λ (l : List Segment). edge p r ∷ l) (along_join r ps q rs)

  -- the edges of a bridge
  abbrev there_and_back : Corner → Corner → List Segment
  there_and_back p q = edge p q ∷ edge q p ∷ []

  along_detour : (p q : Corner) (ms ys : List Corner) → AreSame (edges_along view (p ∷ q ∷ (ms ++ q ∷ p ∷ ys))) (edges_along view (p ∷ ys) ++ (edges_along view (q ∷ (ms ++ q ∷ [])) ++ there_and_back p q))
  along_detour p q ms ys = λ test.
      let round = edges_along view (q ∷ (ms ++ q ∷ [])) in let behind = edges_along view (p ∷ ys) in
      ap (λ (l : List Segment). test (edge p q) || list_any test l) (along_join q ms q (p ∷ ys))
      ∙ (ap (λ (b : Bool). test (edge p q) || b) (list_any-append test round (edge q p ∷ behind))
      ∙ (or_detour (test (edge p q)) (test (edge q p)) (list_any test round) (list_any test behind)
      ∙ (ap (λ (b : Bool). list_any test behind || b) (sym (list_any-append test round (there_and_back p q)))
      ∙ sym (list_any-append test behind (round ++ there_and_back p q)))))

  -- ---- edges round a closed list
  round_detour : (xs : List Corner) (p q : Corner) (ms ys : List Corner) → AreSame (edges_round view (xs ++ p ∷ q ∷ (ms ++ q ∷ p ∷ ys))) (edges_round view (xs ++ p ∷ ys) ++ (edges_round view (q ∷ ms) ++ there_and_back p q))
  round_detour [] p q ms ys = λ test.
      ap (λ (l : List Corner). list_any test (edges_along view (p ∷ q ∷ l))) (append_assoc ms (q ∷ p ∷ ys) (p ∷ []))
      ∙ along_detour p q ms (ys ++ p ∷ []) test
  round_detour (x ∷ xs) p q ms ys = λ test.
      let first = edges_along view (x ∷ (xs ++ p ∷ [])) in let behind = edges_along view (p ∷ (ys ++ x ∷ [])) in
      let detour = edges_along view (q ∷ (ms ++ q ∷ [])) ++ there_and_back p q in
      ap (λ (l : List Corner). list_any test (edges_along view (x ∷ l))) (append_assoc xs (p ∷ q ∷ (ms ++ q ∷ p ∷ ys)) (x ∷ []))
      ∙ (ap (λ (l : List Corner). list_any test (edges_along view (x ∷ (xs ++ p ∷ q ∷ l)))) (append_assoc ms (q ∷ p ∷ ys) (x ∷ []))
      ∙ (ap (list_any test) (along_join x xs p (q ∷ (ms ++ q ∷ p ∷ (ys ++ x ∷ []))))
      ∙ (same_behind first (edges_along view (p ∷ q ∷ (ms ++ q ∷ p ∷ (ys ++ x ∷ [])))) (behind ++ detour) (along_detour p q ms (ys ++ x ∷ [])) test
      ∙ (ap (list_any test) (sym (append_assoc first behind detour))
      ∙ (ap (λ (l : List Segment). list_any test (l ++ detour)) (sym (along_join x xs p (ys ++ x ∷ [])))
      ∙ ap (λ (l : List Corner). list_any test (edges_along view (x ∷ l) ++ detour)) (sym (append_assoc xs (p ∷ ys) (x ∷ []))))))))

  round_turned : (x : Corner) (ys : List Corner) → AreSame (edges_round view (ys ++ x ∷ [])) (edges_round view (x ∷ ys))
  round_turned x [] = λ test. refl
  round_turned x (y ∷ ys) = λ test.
      ap (λ (l : List Corner). list_any test (edges_along view (y ∷ l))) (append_assoc ys (x ∷ []) (y ∷ []))
      ∙ (ap (list_any test) (along_join y ys x (y ∷ [])) ∙ same_swap (edges_along view (y ∷ (ys ++ x ∷ []))) (edge x y ∷ []) test)

  round_rotated : (xs ys : List Corner) → AreSame (edges_round view (ys ++ xs)) (edges_round view (xs ++ ys))
  round_rotated [] ys = λ test. ap (λ (l : List Corner). list_any test (edges_round view l)) (append-nil ys)
  round_rotated (x ∷ xs) ys = λ test.
      ap (λ (l : List Corner). list_any test (edges_round view l)) (sym (append_assoc ys (x ∷ []) xs))
      ∙ (round_rotated xs (ys ++ x ∷ []) test
      ∙ (ap (λ (l : List Corner). list_any test (edges_round view l)) (sym (append_assoc xs ys (x ∷ []))) ∙ round_turned x (xs ++ ys) test))

  -- ---- a loop that is put into the list
  -- the loop from its j-th corner on has its edges
  round_loop : (loop : List Corner) (j : ℕ) → j < length loop → AreSame (edges_round view (slice_index_or loop j nobody ∷ (drop (j + 1) loop ++ take j loop))) (edges_round view loop)
  round_loop loop j h = λ test.
      ap (λ (l : List Corner). list_any test (edges_round view (l ++ take j loop))) (sym (drop_more loop j nobody h))
      ∙ (round_rotated (take j loop) (drop j loop) test
      ∙ ap (λ (l : List Corner). list_any test (edges_round view l)) (take-append-drop j loop))

  -- the loops without the k-th
  without_loop : (loops : List (List Corner)) (k : ℕ) → k < length loops → AreSame (flat_map (edges_round view) loops) (edges_round view (slice_index_or loops k []) ++ flat_map (edges_round view) (remove loops k))
  without_loop [] k h = absurd (omega (arith, h))
  without_loop (loop ∷ loops) zero h = λ test. refl
  without_loop (loop ∷ loops) (suc k) h = λ test.
      let one = edges_round view (slice_index_or loops k []) in let others = flat_map (edges_round view) (remove loops k) in
      same_behind (edges_round view loop) (flat_map (edges_round view) loops) (one ++ others) (without_loop loops k (omega (arith, h))) test
      ∙ same_second (edges_round view loop) one others test

or_total : (c r b f : Bool) → (c || (r || b)) || f ≡ (c || (r || f)) || b
or_total true r b f = refl
or_total false true b f = refl
or_total false false b f = or_comm b f

abbrev bridge_edges : View → List Corner → List Corner → Bridge → List Segment
bridge_edges view current loop b = there_and_back view (slice_index_or current b.from nobody) (slice_index_or loop b.to nobody)

-- what no bridge may meet, after a bridge: what it was, and the bridge there and back
pub edges_joined : (view : View) (current : List Corner) (loops : List (List Corner)) (b : Bridge) → IsBridgeIn current loops b
    → AreSame (all_edges view (joined_by current loops b) (remove loops b.hole))
    (all_edges view current loops ++ segment (spot_of view (slice_index_or current b.from nobody)) (spot_of view (slice_index_or (slice_index_or loops b.hole []) b.to nobody))
    ∷ segment (spot_of view (slice_index_or (slice_index_or loops b.hole []) b.to nobody)) (spot_of view (slice_index_or current b.from nobody)) ∷ [])
edges_joined view current loops b w = λ test.
    let loop = slice_index_or loops b.hole [] in
    let p = slice_index_or current b.from nobody in let q = slice_index_or loop b.to nobody in
    let xs = take b.from current in let ys = drop (b.from + 1) current in let ms = drop (b.to + 1) loop ++ take b.to loop in
    let bridge = bridge_edges view current loop b in let others = flat_map (edges_round view) (remove loops b.hole) in
    let c = list_any test (edges_round view current) in let r = list_any test (edges_round view loop) in
    let round =
    ap (λ (l : List Corner). list_any test (edges_round view l)) (joined_way current loop b.from b.to w.from w.to)
    ∙ (round_detour view xs p q ms ys test
    ∙ (list_any-append test (edges_round view (xs ++ p ∷ ys)) (edges_round view (q ∷ ms) ++ bridge)
    ∙ (ap (λ (l : List Corner). list_any test (edges_round view l) || list_any test (edges_round view (q ∷ ms) ++ bridge)) (split_at current b.from nobody w.from)
    ∙ (ap (λ (x : Bool). c || x) (list_any-append test (edges_round view (q ∷ ms)) bridge)
    ∙ ap (λ (x : Bool). c || (x || list_any test bridge)) (round_loop view loop b.to w.to test))))) in
    let all = without_loop view loops b.hole w.hole test ∙ list_any-append test (edges_round view loop) others in
    list_any-append test (edges_round view (joined_by current loops b)) others
    ∙ (ap (λ (x : Bool). x || list_any test others) round
    ∙ (or_total c r (list_any test bridge) (list_any test others)
    ∙ (ap (λ (x : Bool). (c || x) || list_any test bridge) (sym all)
    ∙ (ap (λ (x : Bool). x || list_any test bridge) (sym (list_any-append test (edges_round view current) (flat_map (edges_round view) loops)))
    ∙ sym (list_any-append test (all_edges view current loops) bridge)))))

-- ---- the first bridge is found by such lists alike
free_alike : (view : View) (es fs : List Segment) (t : Turn) (c : Corner) → AreSame es fs → is_free view es t c ≡ is_free view fs t c
unfolding is_free
free_alike view es fs t c e =
    ap (λ (b : Bool). not (same_spot (spot_of view t.corner) (spot_of view c)) && (leads_inside view (spot_of view t.before) (spot_of view t.corner) (spot_of view t.after) (spot_of view c) && not b))
    (e (collide view (bridge_between view t c)))

from_alike : (test other : ℕ → Bool) (i n : ℕ) → ((k : ℕ) → test k ≡ other k) → first_from test i n ≡ first_from other i n
from_alike test other i zero h = refl
from_alike test other i (suc n) h =
    ap (λ (b : Bool). cond b (Some i) (first_from test (i + 1) n)) (h i)
    ∙ ap (λ (o : Option ℕ). cond (other i) (Some i) o) (from_alike test other (i + 1) n h)

found_alike : (find other : ℕ → Option Bridge) (i n : ℕ) → ((k : ℕ) → find k ≡ other k) → first_found find i n ≡ first_found other i n
found_alike find other i zero h = refl
found_alike find other i (suc n) h =
    ap (λ (o : Option Bridge). or_found o (first_found find (i + 1) n)) (h i)
    ∙ ap (λ (o : Option Bridge). or_found (other i) o) (found_alike find other (i + 1) n h)

pub bridge_alike : (view : View) (es fs : List Segment) (current : List Corner) (loops : List (List Corner)) → AreSame es fs → bridge_by view es current loops ≡ bridge_by view fs current loops
bridge_alike view es fs current loops e =
    let at = λ (k : ℕ). slice_index_or loops k [] in
    found_alike (λ k. first_found (bridge_from view es current (at k) k) 0 (length current)) (λ k. first_found (bridge_from view fs current (at k) k) 0 (length current)) 0 (length loops)
    (λ k. found_alike (bridge_from view es current (at k) k) (bridge_from view fs current (at k) k) 0 (length current)
    (λ i. ap (option_map (λ (j : ℕ). let b : Bridge = record { hole = k; from = i; to = j } in b))
    (from_alike (λ j. is_free view es (turn_at current i) (slice_index_or (at k) j nobody)) (λ j. is_free view fs (turn_at current i) (slice_index_or (at k) j nobody)) 0 (length (at k))
    (λ j. free_alike view es fs (turn_at current i) (slice_index_or (at k) j nobody) e))))
