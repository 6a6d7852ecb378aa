-- Heads change their places, and the instances that they tell go with them.
use Rattle.std.proofs.Common.{◌≡◌, ℕ, List, [], ◌∷◌, length, map, IsPermutation, refl, sym, ap, subst, ◌∙◌}
use Rattle.std.proofs.Math.ListN.{set, get_or, get_or-map}
use Rattle.std.proofs.lemmas.List.{length-map, map-set}
use Rattle.std.proofs.lemmas.List.Sorted.{IsPermutation-map}
use Rattle.std.specs.List.{AllZip, swap}
use Rattle.std.specs.List.Sorted.{apply_swaps, SwapsInRange}
use Rattle.p21_values.specs.declared.instance_head.Head.{Head}
use Rattle.p21_values.specs.declared.value.Instance.{Instance}
use Rattle.p21_values.specs.Tables.{Tells, Holds}
use Rattle.p21_reader.specs.declared.table.Table.{Table}
use Rattle.p21_reader.specs.Uploads.{TablesUpload}

-- two that stand at one place, and what is known of them
record Pair {A B : Type 0} (P : A → B → Type 0) : Type 0 where
  left : A
  right : B
  known : P left right

zipped : {A B : Type 0} (P : A → B → Type 0) (xs : List A) (ys : List B) → AllZip P xs ys → (ps : List (Pair P)) × (map (λ p. p.left) ps ≡ xs) × (map (λ p. p.right) ps ≡ ys)
zipped P [] [] h = ([], refl, refl)
zipped P [] (y ∷ ys) h = absurd h
zipped P (x ∷ xs) [] h = absurd h
zipped P (x ∷ xs) (y ∷ ys) h = let r = zipped P xs ys h.1 in (record { left = x; right = y; known = h.0 } ∷ r.0, ap (λ z. x ∷ z) r.1, ap (λ z. y ∷ z) r.2)

known_all : {A B : Type 0} (P : A → B → Type 0) (ps : List (Pair P)) → AllZip P (map (λ p. p.left) ps) (map (λ p. p.right) ps)
known_all P [] = tt
known_all P (p ∷ ps) = (p.known, known_all P ps)

map_swap : {A B : Type 0} (f : A → B) (xs : List A) (i j : ℕ) → map f (swap xs i j) ≡ swap (map f xs) i j
map_swap f [] i j = refl
map_swap f (d ∷ xs) i j =
    map-set f (set (d ∷ xs) i (get_or (d ∷ xs) j d)) j (get_or (d ∷ xs) i d) ∙ ap (λ z. set z j (f (get_or (d ∷ xs) i d))) (map-set f (d ∷ xs) i (get_or (d ∷ xs) j d))
    ∙ ap (λ z. set (set (map f (d ∷ xs)) i z) j (f (get_or (d ∷ xs) i d))) (sym (get_or-map f (d ∷ xs) j d))
    ∙ ap (λ z. set (set (map f (d ∷ xs)) i (get_or (map f (d ∷ xs)) j (f d))) j z) (sym (get_or-map f (d ∷ xs) i d))

map_swaps : {A B : Type 0} (f : A → B) (xs : List A) (moves : List (ℕ × ℕ)) → map f (apply_swaps xs moves) ≡ apply_swaps (map f xs) moves
map_swaps f xs [] = refl
map_swaps f xs (p ∷ moves) = map_swap f (apply_swaps xs moves) p.0 p.1 ∙ ap (λ z. swap z p.0 p.1) (map_swaps f xs moves)

moved : {A B : Type 0} (P : A → B → Type 0) (xs zs : List A) (ys : List B) → AllZip P xs ys → IsPermutation xs zs → (others : List B) × AllZip P zs others × IsPermutation ys others
moved P xs zs ys h m =
    let r = zipped P xs ys h in
    let qs : List (Pair P) = apply_swaps r.0 m.moves in
    let e : map (λ p. p.left) qs ≡ zs = map_swaps (λ p. p.left) r.0 m.moves ∙ ap (λ z. apply_swaps z m.moves) r.1 ∙ sym m.is in
    let n : length r.0 ≡ length xs = sym (length-map r.0 (λ p. p.left)) ∙ ap length r.1 in
    let q : IsPermutation r.0 qs = record { moves = m.moves; below = subst (λ k. SwapsInRange k m.moves) (sym n) m.below; is = refl } in (
      map (λ p. p.right) qs,
      subst (λ z. AllZip P z (map (λ p. p.right) qs)) e (known_all P qs),
      subst (λ z. IsPermutation z (map (λ p. p.right) qs)) r.2 (IsPermutation-map (λ p. p.right) r.0 qs q),
    )

pub holds_sorted : (bytes starts : List ℕ) (heads sorted : List Head) (found : List Instance) → Holds bytes starts heads found → IsPermutation heads sorted
    → (world : List Instance) × Holds bytes starts sorted world × IsPermutation found world
holds_sorted bytes starts heads sorted found h m = moved (Tells bytes starts) heads sorted found h m

-- their numbers are the heads'
pub same_numbers : (bytes starts : List ℕ) (heads : List Head) (found : List Instance) → Holds bytes starts heads found → map (λ (i : Instance). i.id) found ≡ map (λ (h : Head). h.id) heads
same_numbers bytes starts [] [] h = refl
same_numbers bytes starts [] (i ∷ found) h = absurd h
same_numbers bytes starts (x ∷ heads) [] h = absurd h
same_numbers bytes starts (x ∷ heads) (i ∷ found) h = ap (λ n. n ∷ map (λ (j : Instance). j.id) found) (sym h.0.number) ∙ ap (λ z. x.id ∷ z) (same_numbers bytes starts heads found h.1)

-- the instances of a table by their numbers
pub ordered : (bytes : List ℕ) (table : Table) (sorted : List Head) (t : TablesUpload bytes table) → IsPermutation table.heads.items sorted
    → (world : List Instance) × Holds bytes table.starts.items sorted world × IsPermutation t.0 world × (map (λ (i : Instance). i.id) world ≡ map (λ (h : Head). h.id) sorted)
ordered bytes table sorted t m =
    let w = holds_sorted bytes table.starts.items table.heads.items sorted t.0 t.2 m in
    (w.0, w.1, w.2, same_numbers bytes table.starts.items sorted w.0 w.1)
