-- The order of elements by their identifiers.
use Rattle.std.proofs.Common.{◌≡◌, ◌≢◌, ℕ, ◌<◌, inl, inr, true, false, List, [], ◌∷◌, length, map, rules, get_or, refl, sym, ◌∙◌, subst, arith}
use Rattle.std.proofs.lemmas.Bool.{cases_Bool}
use Rattle.std.specs.Bool.{IsTrue}
use Rattle.std.specs.List.{AllPairs}
use Rattle.std.specs.List.Sorted.{IsSortedByKey, IsPermutation}
use Rattle.std.specs.Str.{bytes_eq}
use Rattle.std.specs.Ordering.{nat_cmp, is_lt, ordering_reverse}
use Rattle.std.specs.Cmp.Lexicographic.{slice_cmp}
use Rattle.std.specs.declared.cmp.Ordering.{Ordering}
use Rattle.std.specs.declared.cmp.Ordering.TheVariants.{Less, Equal, Greater}
use Rattle.std.proofs.lemmas.Slice.Eq.{bytes_eq-Decides}
use Rattle.std.proofs.lemmas.List.{get_or-map, length-map}
use Rattle.std.proofs.lemmas.List.Sorted.{sorted_far, ranks_by, IsPermutation-map}
use Rattle.std.proofs.lemmas.Map.Keys.{IsDistinct-IsPermutation}
use Rattle.std.proofs.lemmas.Map.Made.{AllPairs-from_IsDistinct, IsDistinct-from_AllPairs}
use Rattle.std.proofs.lemmas.Cmp.{nat_list_cmp_total}
use Rattle.std.proofs.lemmas.Map.Lookups.{exact_bytes}

alike : (xs ys : List ℕ) → bytes_eq xs ys ≡ true → bytes_eq ys xs ≡ true
alike xs ys t = (bytes_eq-Decides ys xs).1 (sym ((bytes_eq-Decides xs ys).0 t))

flips : (xs ys : List ℕ) → bytes_eq xs ys ≡ bytes_eq ys xs
flips xs ys = elim (cases_Bool (bytes_eq xs ys)) [
  | inl t ↦ t ∙ sym (alike xs ys t)
  | inr f ↦ elim (cases_Bool (bytes_eq ys xs)) [
    | inl t ↦ absurd (let u = alike ys xs t in cc)
    | inr g ↦ f ∙ sym g
  ]
]

-- identifiers that differ do so in any order
keys_differ : (xs ys : List (List ℕ)) → IsPermutation xs ys → AllPairs (λ a b. a ≢ b) xs → AllPairs (λ a b. a ≢ b) ys
keys_differ xs ys p d = AllPairs-from_IsDistinct bytes_eq-Decides ys (IsDistinct-IsPermutation bytes_eq flips xs ys p (IsDistinct-from_AllPairs bytes_eq-Decides xs d))

to_keys : {X : Type 0} (key : X → List ℕ) (xs : List X) → AllPairs (λ x y. key x ≢ key y) xs → AllPairs (λ a b. a ≢ b) (map key xs)
to_keys key [] h i j d lt within same = absurd (omega arith)
to_keys key (x ∷ xs) h i j d lt within same =
    let m : j < length (x ∷ xs) = subst (λ n. j < n) (length-map (x ∷ xs) key) within in
    let n : i < length (x ∷ xs) = omega arith in
    h i j x lt m (sym (get_or-map key (x ∷ xs) i x d n) ∙ same ∙ get_or-map key (x ∷ xs) j x d m)

from_keys : {X : Type 0} (key : X → List ℕ) (xs : List X) → AllPairs (λ a b. a ≢ b) (map key xs) → AllPairs (λ x y. key x ≢ key y) xs
from_keys key xs h i j d lt within same =
    let m : j < length (map key xs) = rw (length-map xs key) within in
    let n : i < length xs = omega arith in
    h i j (key d) lt m (get_or-map key xs i d (key d) n ∙ same ∙ sym (get_or-map key xs j d (key d) within))

below : (o : Ordering) → (o ≡ Equal → ⊥) → is_lt (ordering_reverse o) ≡ false → IsTrue (is_lt o)
below Less n l = search rules
below Equal n l = absurd (n refl)
below Greater n l = cc

-- elements by rising keys, no two of which are the same, rise strictly
pub rise_strictly : {X : Type 0} (key : X → List ℕ) (xs ys : List X) → IsPermutation xs ys → IsSortedByKey key (slice_cmp nat_cmp) ys → AllPairs (λ x y. key x ≢ key y) xs
    → AllPairs (λ x y. IsTrue (is_lt (slice_cmp nat_cmp (key x) (key y)))) ys
rise_strictly key xs ys p up differ i j d lt within =
    let a = key (get_or ys i d) in
    let b = key (get_or ys j d) in
    let apart = from_keys key ys (keys_differ (map key xs) (map key ys) (IsPermutation-map key xs ys p) (to_keys key xs differ)) i j d lt within in
    let far = sorted_far (λ x y. is_lt (slice_cmp nat_cmp (key x) (key y))) (ranks_by nat_list_cmp_total key) ys up i j d (omega arith) within in
    below (slice_cmp nat_cmp a b) (λ e. apart (exact_bytes a b e)) (subst (λ o. is_lt o ≡ false) (nat_list_cmp_total.antisymm b a) far)
