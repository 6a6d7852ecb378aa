-- One more is kept in a pool.
use Rattle.std.proofs.Common.{◌≡◌, ℕ, zero, suc, ◌<◌, ◌≤◌, List, [], ◌∷◌, ◌++◌, length, map, get_or, set, replicate, Option, Some, None, refl, sym, ap, ◌∙◌, arith}
use Rattle.std.specs.List.{All}
use Rattle.std.proofs.lemmas.List.{get_or-set_same, get_or-set_other, get_or_append_left, get_or_push, length_push, length-set, length-map}
use Rattle.std.proofs.lemmas.Option.{slice_get-get_or}
use Rattle.walk_rows.specs.Pools.{slot_in, Pools}

-- what was kept stays where it was
slot_more : {T : Type 0} (kept : List T) (item : T) (slot : ℕ) → slot ≤ length kept → slot_in (kept ++ item ∷ []) slot ≡ slot_in kept slot
slot_more kept item zero le = refl
slot_more kept item (suc k) le =
    let lt : k < length kept = omega (arith, le) in
    let l = length_push kept item in
    slice_get-get_or (kept ++ item ∷ []) k item (omega (arith, lt, l)) ∙ ap Some (get_or_append_left kept (item ∷ []) item k lt) ∙ sym (slice_get-get_or kept k item lt)

-- the last slot says what was kept last
slot_last : {T : Type 0} (kept : List T) (item : T) → slot_in (kept ++ item ∷ []) (suc (length kept)) ≡ Some item
slot_last kept item =
    let l = length_push kept item in
    slice_get-get_or (kept ++ item ∷ []) (length kept) item (omega (arith, l)) ∙ ap Some (get_or_push kept item item (length kept) refl)

map_at : {A B : Type 0} (f : A → B) (xs : List A) (i : ℕ) (d : A) → get_or (map f xs) i (f d) ≡ f (get_or xs i d)
map_at f [] i d = refl
map_at f (x ∷ xs) zero d = refl
map_at f (x ∷ xs) (suc i) d = map_at f xs i d

below : (slots : List ℕ) (most other : ℕ) → All (λ s. s ≤ most) slots → get_or slots other 0 ≤ most
below [] most other all = omega arith
below (s ∷ slots) most zero all = all 0 0 (omega arith)
below (s ∷ slots) most (suc other) all = below slots most other (λ k d lt. all (suc k) d (omega (arith, lt)))

one_more : {T : Type 0} (kept : List T) (slots : List ℕ) (at : ℕ) (item : T) → at < length slots → All (λ s. s ≤ length kept) slots
    → Pools (map (slot_in kept) slots) (map (slot_in (kept ++ item ∷ [])) (set slots at (suc (length kept)))) at item
one_more kept slots at item lt all =
    let new = kept ++ item ∷ [] in
    let n = suc (length kept) in
    record {
      size = length-map (set slots at n) (slot_in new) ∙ length-set slots at n ∙ sym (length-map slots (slot_in kept));
      here = map_at (slot_in new) (set slots at n) at 0 ∙ ap (slot_in new) (get_or-set_same slots at n 0 lt) ∙ slot_last kept item;
      others = λ other differs.
          map_at (slot_in new) (set slots at n) other 0 ∙ ap (slot_in new) (get_or-set_other slots at other n 0 differs)
          ∙ slot_more kept item (get_or slots other 0) (below slots (length kept) other all) ∙ sym (map_at (slot_in kept) slots other 0);
    }

-- the same, where the new ones are told by equations
pub put_one : {T : Type 0} (kept new : List T) (slots : List ℕ) (at n : ℕ) (item : T) → new ≡ kept ++ item ∷ [] → n ≡ length new → at < length (map (slot_in kept) slots) → All (λ s. s ≤ length kept) slots
    → Pools (map (slot_in kept) slots) (map (slot_in new) (set slots at n)) at item
put_one kept new slots at n item e l lt all =
    let q : n ≡ length (kept ++ item ∷ []) = l ∙ ap length e in
    let p = length_push kept item in
    let long : n ≡ suc (length kept) = omega (arith, p, q) in
    let m = length-map slots (slot_in kept) in
    rw (e, long) (one_more kept slots at item (omega (arith, lt, m)) all)

-- slots of 0 say nothing
pub none_yet : {T : Type 0} (kept : List T) (places : ℕ) (slots : List ℕ) → slots ≡ replicate places 0 → map (slot_in kept) slots ≡ replicate places None
none_yet {T} kept places slots e = ap (map (slot_in kept)) e ∙ all places
  where
    all : (n : ℕ) → map (slot_in kept) (replicate n 0) ≡ replicate n None
    all zero = refl
    all (suc n) = ap (λ (xs : List (Option T)). None ∷ xs) (all n)
