-- A bridge that isn't free stays so: what is known of bridges, once a loop is put into the list.
use Rattle.std.proofs.Common.{◌≡◌, ◌∙◌, ap, sym, refl, subst, ℕ, zero, suc, ◌+◌, ◌-◌, ◌<◌, ◌≤◌, Bool, true, false, not, ◌&&◌, ◌||◌, cond, inl, inr, List, [], ◌∷◌, ◌++◌, append_assoc, length, take, drop, Option, Some, None, arith}
use Rattle.std.specs.Prelude.{slice_index_or, remove}
use Rattle.std.specs.List.{list_any}
use Rattle.std.specs.Option.{option_map}
use Rattle.std.proofs.lemmas.Bool.{cases_lt}
use Rattle.std.proofs.lemmas.Bool.Decides.{nat_tests}
use Rattle.std.proofs.lemmas.List.{length-append, length_push, length-take-le, get_or_at, get_or_past, get_or_append_left, get_or-append_right}
use Rattle.std.proofs.lemmas.List.Edits.{length-remove, get_or-remove_below, get_or-remove_above}
use Rattle.std.proofs.lemmas.List.Folds.{list_any-append}
use Rattle.ear_cut.specs.declared.polygon_view.View.{View}
use Rattle.ear_cut.specs.declared.corners.Corner.{Corner}
use Rattle.ear_cut.specs.declared.corners.Turn.{Turn}
use Rattle.ear_cut.specs.PolygonViews.{same_spot}
use Rattle.ear_cut.specs.Corners.{previous, next, nobody, turn_at}
use Rattle.ear_cut.specs.Removal.{first_from}
use Rattle.ear_cut.proofs.Search.{first_is}
use Rattle.ear_cut.proofs.Taken.{same_turn}
use Rattle.void_bridge.specs.declared.bridges.Bridge.{Bridge}
use Rattle.void_bridge.specs.LoopEdges.{Segment, spot_of, collide}
use Rattle.void_bridge.specs.Bridges.{leads_inside, bridge_between, is_free, or_found, first_found, bridge_from, IsBridgeIn, joined_at, joined_by}
use Rattle.void_bridge.specs.inner.Tried.{AreTried, ArePassed, WasTried, WasTriedFrom, WereTried}
use Rattle.void_bridge.proofs.Detours.{split_at, joined_way}
use Rattle.void_bridge.proofs.FreeBridges.{bridge}
use Rattle.void_bridge.proofs.JoinedCounts.{joined_length, parts_length}

-- ---- searches that find nothing
or_none : {A : Type 0} (x y : Option A) → or_found x y ≡ None → (x ≡ None) × (y ≡ None)
or_none (Some a) y e = absurd (cc e)
or_none None y e = (refl, e)

nothing_at : {A : Type 0} (find : ℕ → Option A) (i n j : ℕ) → first_found find i n ≡ None → i ≤ j → j < i + n → find j ≡ None
nothing_at find i zero j e f g = absurd (omega (arith, f, g))
nothing_at {A} find i (suc n) j e f g =
    let both = or_none (find i) (first_found find (i + 1) n) e in
    elim (cases_lt i j) [
      | inl l ↦ nothing_at find (i + 1) n j both.1 (omega (arith, l)) (omega (arith, g))
      | inr l ↦ let s : j ≡ i = omega (arith, f, l) in ap find s ∙ both.0
    ]

if_none : (b : Bool) (i : ℕ) (rest : Option ℕ) → cond b (Some i) rest ≡ None → (b ≡ false) × (rest ≡ None)
if_none true i rest e = absurd (cc e)
if_none false i rest e = (refl, e)

none_at : (test : ℕ → Bool) (i n j : ℕ) → first_from test i n ≡ None → i ≤ j → j < i + n → test j ≡ false
none_at test i zero j e f g = absurd (omega (arith, f, g))
none_at test i (suc n) j e f g =
    let both = if_none (test i) i (first_from test (i + 1) n) e in
    elim (cases_lt i j) [
      | inl l ↦ none_at test (i + 1) n j both.1 (omega (arith, l)) (omega (arith, g))
      | inr l ↦ let s : j ≡ i = omega (arith, f, l) in ap test s ∙ both.0
    ]

map_none : (f : ℕ → Bridge) (o : Option ℕ) → option_map f o ≡ None → o ≡ None
map_none f (Some a) e = absurd (cc e)
map_none f None e = refl

-- ---- more edges
still_blocked : (same inside blocked more : Bool) → not same && (inside && not blocked) ≡ false → not same && (inside && not (blocked || more)) ≡ false
still_blocked true inside blocked more e = refl
still_blocked false false blocked more e = refl
still_blocked false true true more e = refl
still_blocked false true false more e = absurd (cc e)

free_no_more : (view : View) (edges more : List Segment) (t : Turn) (c : Corner) → is_free view edges t c ≡ false → is_free view (edges ++ more) t c ≡ false
unfolding is_free
free_no_more view edges more t c e =
    let same = same_spot (spot_of view t.corner) (spot_of view c) in
    let inside = leads_inside view (spot_of view t.before) (spot_of view t.corner) (spot_of view t.after) (spot_of view c) in
    let test = collide view (bridge_between view t c) in
    ap (λ (b : Bool). not same && (inside && not b)) (list_any-append test edges more)
    ∙ still_blocked same inside (list_any test edges) (list_any test more) e

-- from a corner that has the same neighbours in another list
none_on : (view : View) (edges more : List Segment) (current joined loop : List Corner) (k j i m : ℕ) → turn_at joined m ≡ turn_at current i → bridge_from view edges current loop k i ≡ None → bridge_from view (edges ++ more) joined loop j m ≡ None
none_on view edges more current joined loop k j i m t e =
    let old = λ (n : ℕ). is_free view edges (turn_at current i) (slice_index_or loop n nobody) in
    let new = λ (n : ℕ). is_free view (edges ++ more) (turn_at joined m) (slice_index_or loop n nobody) in
    let none : first_from old 0 (length loop) ≡ None = map_none (bridge k i) (first_from old 0 (length loop)) e in
    let still : (n : ℕ) → n < length loop → new n ≡ false = λ n h.
    ap (λ (u : Turn). is_free view (edges ++ more) u (slice_index_or loop n nobody)) t
    ∙ free_no_more view edges more (turn_at current i) (slice_index_or loop n nobody) (none_at old 0 (length loop) n none (omega arith) (omega (arith, h))) in
    ap (option_map (bridge j m)) (sym (first_is new (length loop) None still))

-- ---- the corners of the joined list that were there before
same_front : (xs ys zs : List Corner) (p : Corner) (m : ℕ) → m ≤ length xs → slice_index_or (xs ++ p ∷ ys) m nobody ≡ slice_index_or (xs ++ p ∷ zs) m nobody
same_front [] ys zs p zero h = refl
same_front [] ys zs p (suc m) h = absurd (omega (arith, h))
same_front (x ∷ xs) ys zs p zero h = refl
same_front (x ∷ xs) ys zs p (suc m) h = same_front xs ys zs p m (omega (arith, h))

module _ (current loop : List Corner) (i j : ℕ) (h : i < length current) (k : j < length loop) where
  abbrev joined : List Corner
  joined = joined_at current i loop j

  abbrev width : ℕ
  width = length loop + 2

  corner_before : (m : ℕ) → m ≤ i → slice_index_or joined m nobody ≡ slice_index_or current m nobody
  corner_before m l =
      let p = slice_index_or current i nobody in let q = slice_index_or loop j nobody in
      let e = length-take-le i current (omega (arith, h)) in
      ap (λ (cs : List Corner). slice_index_or cs m nobody) (joined_way current loop i j h k)
      ∙ (same_front (take i current) (q ∷ ((drop (j + 1) loop ++ take j loop) ++ q ∷ p ∷ drop (i + 1) current)) (drop (i + 1) current) p m (omega (arith, l, e))
      ∙ ap (λ (cs : List Corner). slice_index_or cs m nobody) (split_at current i nobody h))

  front_length : length (take (i + 1) current ++ drop j loop ++ take j loop ++ slice_index_or loop j nobody ∷ []) ≡ i + width
  front_length =
      let q = slice_index_or loop j nobody in
      let a = take (i + 1) current in let b = drop j loop in let c = take j loop in
      let e = length-take-le (i + 1) current (omega (arith, h)) in
      let f = parts_length loop j in
      let r = length-append (a ++ b ++ c) (q ∷ []) in let s = length-append (a ++ b) c in let t = length-append a b in
      omega (arith, e, f, r, s, t)

  corner_behind : (m : ℕ) → i + width ≤ m → slice_index_or joined m nobody ≡ slice_index_or current (m - width) nobody
  unfolding joined_at
  corner_behind m l =
      let p = slice_index_or current i nobody in let q = slice_index_or loop j nobody in
      let xs = take (i + 1) current ++ drop j loop ++ take j loop ++ q ∷ [] in let ys = p ∷ drop (i + 1) current in
      let n : m - (i + width) ≡ (m - width) - i = omega (arith, l) in
      let e = length-take-le i current (omega (arith, h)) in
      ap (λ (cs : List Corner). slice_index_or cs m nobody) (append_assoc xs (p ∷ []) (drop (i + 1) current))
      ∙ (get_or-append_right xs ys (i + width) m nobody front_length l
      ∙ (ap (λ (o : ℕ). slice_index_or ys o nobody) n
      ∙ (sym (get_or-append_right (take i current) ys i (m - width) nobody e (omega (arith, l)))
      ∙ ap (λ (cs : List Corner). slice_index_or cs (m - width) nobody) (split_at current i nobody h))))

  -- ---- .. and their neighbours
  previous_is : (n m : ℕ) → 0 < m → previous n m ≡ m - 1
  previous_is n m l = grind (arith, nat_tests)

  previous_first : (n m : ℕ) → m ≡ 0 → previous n m ≡ n - 1
  previous_first n m l = grind (arith, nat_tests)

  next_is : (n m : ℕ) → m + 1 < n → next n m ≡ m + 1
  next_is n m l = grind (arith, nat_tests)

  next_last : (n m : ℕ) → m + 1 ≡ n → next n m ≡ 0
  next_last n m l = grind (arith, nat_tests)

  abbrev in_joined : ℕ → Corner
  in_joined m = slice_index_or joined m nobody

  abbrev in_current : ℕ → Corner
  in_current m = slice_index_or current m nobody

  turn_before : (m : ℕ) → m < i → turn_at joined m ≡ turn_at current m
  unfolding turn_at
  turn_before m l =
      let n = joined_length current loop i j in
      same_turn _ _ _ _ _ _
      (elim (cases_lt 0 m) [
        | inl f ↦ ap in_joined (previous_is (length joined) m f) ∙ (corner_before (m - 1) (omega (arith, l)) ∙ ap in_current (sym (previous_is (length current) m f)))
        | inr f ↦ let z : m ≡ 0 = omega (arith, f) in let w : (length joined - 1) - width ≡ length current - 1 = omega (arith, n) in
            ap in_joined (previous_first (length joined) m z) ∙ (corner_behind (length joined - 1) (omega (arith, n, h)) ∙ (ap in_current w ∙ ap in_current (sym (previous_first (length current) m z))))
      ])
      (corner_before m (omega (arith, l)))
      (ap in_joined (next_is (length joined) m (omega (arith, l, n, h))) ∙ (corner_before (m + 1) (omega (arith, l)) ∙ ap in_current (sym (next_is (length current) m (omega (arith, l, h))))))

  turn_behind : (m : ℕ) → i + width < m → m < length joined → turn_at joined m ≡ turn_at current (m - width)
  unfolding turn_at
  turn_behind m l o =
      let n = joined_length current loop i j in let x = m - width in
      same_turn _ _ _ _ _ _
      (let w : (m - 1) - width ≡ x - 1 = omega (arith, l) in
      ap in_joined (previous_is (length joined) m (omega (arith, l))) ∙ (corner_behind (m - 1) (omega (arith, l)) ∙ (ap in_current w ∙ ap in_current (sym (previous_is (length current) x (omega (arith, l)))))))
      (corner_behind m (omega (arith, l)))
      (elim (cases_lt (m + 1) (length joined)) [
        | inl f ↦ let w : (m + 1) - width ≡ x + 1 = omega (arith, l) in
            ap in_joined (next_is (length joined) m f) ∙ (corner_behind (m + 1) (omega (arith, l)) ∙ (ap in_current w ∙ ap in_current (sym (next_is (length current) x (omega (arith, f, n, l))))))
        | inr f ↦ let y : m + 1 ≡ length joined = omega (arith, f, o) in let z : x + 1 ≡ length current = omega (arith, y, n, l) in
            ap in_joined (next_last (length joined) m y) ∙ (corner_before 0 (omega arith) ∙ ap in_current (sym (next_last (length current) x z)))
      ])

-- ---- the numbers of the corners, one after another
pub none_yet : (tried : List ℕ) (from more taken : ℕ) (new : List ℕ) → new ≡ [] → WereTried tried from more taken new
none_yet tried from more taken new e =
    subst (λ (l : List ℕ). WereTried tried from more taken l) (sym e) (λ m k h. absurd (omega (arith, h)))

pub one_more : (tried : List ℕ) (from more taken : ℕ) (old new : List ℕ) (count n : ℕ) → length old ≡ n → new ≡ old ++ count ∷ [] → WereTried tried from more taken old → ((k : ℕ) → k < count → WasTriedFrom tried from more taken n k) → WereTried tried from more taken new
one_more tried from more taken old new count n e f told last =
    subst (λ (l : List ℕ). WereTried tried from more taken l) (sym f)
    (λ m k h. elim (cases_lt m n) [
      | inl l ↦ told m k (subst (λ (x : ℕ). k < x) (get_or_append_left old (count ∷ []) 0 m (omega (arith, l, e))) h)
      | inr l ↦ elim (cases_lt n m) [
        | inl o ↦ absurd (nothing_below k (subst (λ (x : ℕ). k < x) (get_or_past (old ++ count ∷ []) m 0 (omega (arith, o, e, length_push old count))) h))
        | inr o ↦ let s : n ≡ m = omega (arith, l, o) in
            subst (λ (x : ℕ). WasTriedFrom tried from more taken x k) s
            (last k (subst (λ (x : ℕ). k < x) (get_or_at old count [] 0 m (e ∙ s)) h))
      ]
    ])
  where
    nothing_below : (k : ℕ) → k < 0 → ⊥
    nothing_below k h = omega (arith, h)

-- ---- from bridge to bridge
pub nothing_tried : (view : View) (edges : List Segment) (current : List Corner) (loops : List (List Corner)) (tried : List ℕ) → tried ≡ [] → AreTried view edges current loops tried
nothing_tried view edges current loops tried e =
    subst (λ (l : List ℕ). AreTried view edges current loops l) (sym e) (λ k h i l t. absurd (omega (arith, t)))

module _ (view : View) (edges more : List Segment) (current : List Corner) (loops : List (List Corner)) (b : Bridge) (tried new : List ℕ) (w : IsBridgeIn current loops b) (known : AreTried view edges current loops tried)
    (passed : ArePassed view edges current loops b.hole) where
  abbrev put : List Corner
  put = joined_by current loops b

  -- .. to a loop that was before the one that is put in
  to_lower : (i m k : ℕ) → i < length current → turn_at put m ≡ turn_at current i → k < b.hole → bridge_from view (edges ++ more) put (slice_index_or (remove loops b.hole) k []) k m ≡ None
  to_lower i m k h t l =
      let loop = slice_index_or loops k [] in
      ap (λ (c : List Corner). bridge_from view (edges ++ more) put c k m) (get_or-remove_below loops b.hole [] k l w.hole)
      ∙ none_on view edges more current put loop k k i m t (nothing_at (bridge_from view edges current loop k) 0 (length current) i (passed k l) (omega arith) (omega (arith, h)))

  -- .. or behind it
  to_higher : (i m k : ℕ) → i < length current → turn_at put m ≡ turn_at current i → b.hole ≤ k → k + 1 < slice_index_or tried i 0 → k < length (remove loops b.hole)
      → bridge_from view (edges ++ more) put (slice_index_or (remove loops b.hole) k []) k m ≡ None
  to_higher i m k h t l o p =
      let loop = slice_index_or loops (k + 1) [] in
      let n = length-remove loops b.hole w.hole in
      ap (λ (c : List Corner). bridge_from view (edges ++ more) put c k m) (get_or-remove_above loops b.hole [] k l w.hole)
      ∙ none_on view edges more current put loop (k + 1) k i m t (known (k + 1) (omega (arith, n, p)) i h o)

  to_either : (i m k : ℕ) → i < length current → turn_at put m ≡ turn_at current i → WasTried (slice_index_or tried i 0) b.hole k → k < length (remove loops b.hole)
      → bridge_from view (edges ++ more) put (slice_index_or (remove loops b.hole) k []) k m ≡ None
  to_either i m k h t (inl l) p = to_lower i m k h t l
  to_either i m k h t (inr l) p =
      elim (cases_lt k b.hole) [
        | inl o ↦ to_lower i m k h t o
        | inr o ↦ to_higher i m k h t o l p
      ]

  still_tried : WereTried tried b.from (length (slice_index_or loops b.hole []) + 2) b.hole new → AreTried view (edges ++ more) put (remove loops b.hole) new
  still_tried told = λ k p m q t.
      let loop = slice_index_or loops b.hole [] in
      let n = joined_length current loop b.from b.to in
      elim (told m k t) [
        | inl u ↦ to_either m m k (omega (arith, u.0, w.from)) (turn_before current loop b.from b.to w.from w.to m u.0) u.1 p
        | inr u ↦ to_either (m - (length loop + 2)) m k (omega (arith, u.0, q, n)) (turn_behind current loop b.from b.to w.from w.to m u.0 q) u.1 p
      ]

-- by the list, the loops and the edges as the code names them
pub tried_bridged : (view : View) (edges grown : List Segment) (current : List Corner) (loops : List (List Corner)) (b : Bridge) (hole made : List Corner) (left : List (List Corner)) (tried new : List ℕ) (s t : Segment) (more : ℕ)
    → IsBridgeIn current loops b → AreTried view edges current loops tried → ArePassed view edges current loops b.hole → hole ≡ slice_index_or loops b.hole [] → made ≡ joined_at current b.from hole b.to → left ≡ remove loops b.hole
    → more ≡ length hole + 2 → grown ≡ (edges ++ s ∷ []) ++ t ∷ [] → WereTried tried b.from more b.hole new → AreTried view grown made left new
tried_bridged view edges grown current loops b hole made left tried new s t more w known passed e f g o p told =
    let y = f ∙ ap (λ (c : List Corner). joined_at current b.from c b.to) e in
    let z = o ∙ ap (λ (c : List Corner). length c + 2) e in
    subst (λ (es : List Segment). AreTried view es made left new) (sym (p ∙ append_assoc edges (s ∷ []) (t ∷ [])))
    (subst (λ (cs : List Corner). AreTried view (edges ++ s ∷ t ∷ []) cs left new) (sym y)
    (subst (λ (ls : List (List Corner)). AreTried view (edges ++ s ∷ t ∷ []) (joined_by current loops b) ls new) (sym g)
    (still_tried view edges (s ∷ t ∷ []) current loops b tried new w known passed
    (subst (λ (n : ℕ). WereTried tried b.from n b.hole new) z told))))
