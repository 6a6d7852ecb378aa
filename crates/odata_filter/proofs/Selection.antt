-- A page of the first places, ordered alone, is the page of all places in their order.
use Rattle.std.proofs.Common.{◌≡◌, ℕ, zero, suc, ◌+◌, ◌≤◌, Bool, true, false, cond, List, [], ◌∷◌, ◌++◌, inl, inr, length, get_or, take, drop, Option, Some, None, refl, ap, ◌∙◌, subst, arith}
use Rattle.std.specs.Cmp.{IsTotalOrder}
use Rattle.std.specs.List.{AllByRecursion}
use Rattle.std.specs.List.Sorted.{IsPermutation, IsSorted, IsSplitAroundBy}
use Rattle.std.specs.Ordering.{is_lt}
use Rattle.std.specs.declared.cmp.Ordering.{Ordering}
use Rattle.std.proofs.lemmas.List.{append-nil, length-drop, drop-append-le, take-append-le}
use Rattle.std.proofs.lemmas.List.Elements.{recursion_from_All, All-from_recursion}
use Rattle.std.proofs.lemmas.List.Sorted.{ranks_by, sorted_far, IsPermutation-refl, IsPermutation-trans, IsPermutation-cons, IsPermutation-middle, IsPermutation-append, All-permutation, length_permutation}
use Rattle.odata_filter.specs.Listings.{page_of}
use Rattle.odata_filter.specs.inner.PageFronts.{NoneBefore, IsEnough, IsFront}

module _ (R : ℕ → ℕ → Ordering) (o : IsTotalOrder R) where
  -- a place that doesn't come before another
  abbrev NotBefore : ℕ → ℕ → Type 0
  NotBefore x y = is_lt (R y x) ≡ false

  -- each comes before none of those in front of it
  abbrev Rises : List ℕ → Type 0
  Rises [] = Unit {0}
  Rises (x ∷ xs) = AllByRecursion (NotBefore x) xs × Rises xs

  one_way : (x y : ℕ) → is_lt (R y x) ≡ true → NotBefore y x
  one_way x y e = (ranks_by o (λ (z : ℕ). z)).one_way y x e

  chain : (x y z : ℕ) → NotBefore x y → NotBefore y z → NotBefore x z
  chain x y z h k = (ranks_by o (λ (z : ℕ). z)).chain z y x k h

  all_chain : (x y : ℕ) (zs : List ℕ) → NotBefore x y → AllByRecursion (NotBefore y) zs → AllByRecursion (NotBefore x) zs
  all_chain x y [] h all = tt
  all_chain x y (z ∷ zs) h all = (chain x y z h all.0, all_chain x y zs h all.1)

  -- a place among others that rise, behind those that come before it
  put : ℕ → List ℕ → List ℕ
  put x [] = x ∷ []
  put x (y ∷ ys) = cond (is_lt (R y x)) (y ∷ put x ys) (x ∷ (y ∷ ys))

  -- places in their order
  pub ordered : List ℕ → List ℕ
  ordered [] = []
  ordered (x ∷ xs) = put x (ordered xs)

  moves_by : (x y : ℕ) (ys : List ℕ) (b : Bool) → IsPermutation (x ∷ ys) (put x ys)
      → IsPermutation (x ∷ (y ∷ ys)) (cond b (y ∷ put x ys) (x ∷ (y ∷ ys)))
  moves_by x y ys true rest =
      IsPermutation-trans (x ∷ (y ∷ ys)) (y ∷ (x ∷ ys)) (y ∷ put x ys) (IsPermutation-middle (x ∷ []) y ys)
      (IsPermutation-cons y (x ∷ ys) (put x ys) rest)
  moves_by x y ys false rest = IsPermutation-refl (x ∷ (y ∷ ys))

  put_moves : (x : ℕ) (ys : List ℕ) → IsPermutation (x ∷ ys) (put x ys)
  unfolding put
  put_moves x [] = IsPermutation-refl (x ∷ [])
  put_moves x (y ∷ ys) = moves_by x y ys (is_lt (R y x)) (put_moves x ys)

  ordered_moves : (xs : List ℕ) → IsPermutation xs (ordered xs)
  unfolding ordered
  ordered_moves [] = IsPermutation-refl []
  ordered_moves (x ∷ xs) =
      IsPermutation-trans (x ∷ xs) (x ∷ ordered xs) (put x (ordered xs))
      (IsPermutation-cons x xs (ordered xs) (ordered_moves xs)) (put_moves x (ordered xs))

  moved_all : (P : ℕ → Type 0) (xs ys : List ℕ) → IsPermutation xs ys → AllByRecursion P xs → AllByRecursion P ys
  moved_all P xs ys p all = recursion_from_All P ys (All-permutation P xs ys p (All-from_recursion P xs all))

  rises_by : (x y : ℕ) (ys : List ℕ) (b : Bool) → is_lt (R y x) ≡ b → Rises (y ∷ ys) → Rises (put x ys)
      → Rises (cond b (y ∷ put x ys) (x ∷ (y ∷ ys)))
  rises_by x y ys true e h rest =
      (moved_all (NotBefore y) (x ∷ ys) (put x ys) (put_moves x ys) (one_way x y e, h.0), rest)
  rises_by x y ys false e h rest = ((e, all_chain x y ys e h.0), h)

  put_rises : (x : ℕ) (ys : List ℕ) → Rises ys → Rises (put x ys)
  unfolding put
  put_rises x [] h = (tt, tt)
  put_rises x (y ∷ ys) h = rises_by x y ys (is_lt (R y x)) refl h (put_rises x ys h.1)

  ordered_rises : (xs : List ℕ) → Rises (ordered xs)
  unfolding ordered
  ordered_rises [] = tt
  ordered_rises (x ∷ xs) = put_rises x (ordered xs) (ordered_rises xs)

  rises_append : (xs ys : List ℕ) → Rises xs → Rises ys → NoneBefore R xs ys → Rises (xs ++ ys)
  rises_append [] ys h k none = k
  rises_append (x ∷ xs) ys h k none = (both xs h.0, rises_append xs ys h.1 k none.1)
    where
      both : (zs : List ℕ) → AllByRecursion (NotBefore x) zs → AllByRecursion (NotBefore x) (zs ++ ys)
      both [] all = none.0
      both (z ∷ zs) all = (all.0, both zs all.1)

  sorted_rises : (xs : List ℕ) → IsSorted R xs → Rises xs
  sorted_rises [] up = tt
  sorted_rises (x ∷ xs) up = (all.1, sorted_rises xs tail)
    where
      all : AllByRecursion (NotBefore x) (x ∷ xs)
      all = recursion_from_All (NotBefore x) (x ∷ xs)
          (λ k d h. sorted_far (λ a b. is_lt (R a b)) (ranks_by o (λ (z : ℕ). z)) (x ∷ xs) up 0 k d (omega arith) h)

      tail : IsSorted R xs
      tail k d low high =
          let e : suc k + 1 ≡ suc (k + 1) = omega arith in
          subst (λ n. is_lt (R (get_or (x ∷ xs) n d) (get_or xs k d)) ≡ false) e
          (up (suc k) d (omega arith) (omega arith))

  rises_sorted : (xs : List ℕ) → Rises xs → IsSorted R xs
  rises_sorted [] h k d low high = absurd (omega arith)
  rises_sorted (x ∷ []) h k d low high = absurd (omega arith)
  rises_sorted (x ∷ (y ∷ ys)) h zero d low high = h.0.0
  rises_sorted (x ∷ (y ∷ ys)) h (suc k) d low high =
      let e : suc (k + 1) ≡ suc k + 1 = omega arith in
      subst (λ n. is_lt (R (get_or (x ∷ (y ∷ ys)) n d) (get_or (y ∷ ys) k d)) ≡ false) e
      (rises_sorted (y ∷ ys) h.1 k d (omega arith) (omega arith))

  moved_none : (xs ys us vs : List ℕ) → IsPermutation xs ys → IsPermutation us vs → NoneBefore R xs us → NoneBefore R ys vs
  moved_none xs ys us vs p q none = each ys (moved_all (λ x. AllByRecursion (NotBefore x) us) xs ys p none)
    where
      each : (zs : List ℕ) → AllByRecursion (λ x. AllByRecursion (NotBefore x) us) zs → NoneBefore R zs vs
      each [] all = tt
      each (z ∷ zs) all = (moved_all (NotBefore z) us vs q all.0, each zs all.1)

  -- the first places in their order, and behind them the others
  pub whole_order : (skip : ℕ) (top : Option ℕ) (all front sorted : List ℕ) (f : IsFront R skip top all front)
      → IsPermutation front sorted → IsSorted R sorted
      → IsPermutation all (sorted ++ ordered f.rest) × IsSorted R (sorted ++ ordered f.rest)
  whole_order skip top all front sorted f p up = (
    IsPermutation-trans all (front ++ f.rest) (sorted ++ ordered f.rest) f.kept
        (IsPermutation-append front sorted f.rest (ordered f.rest) p (ordered_moves f.rest)),
    rises_sorted (sorted ++ ordered f.rest)
        (rises_append sorted (ordered f.rest) (sorted_rises sorted up) (ordered_rises f.rest)
        (moved_none front sorted f.rest (ordered f.rest) p (ordered_moves f.rest) f.before)),
  )

  none_before : (front : List ℕ) (x : ℕ) (back : List ℕ) → AllByRecursion (λ f. NotBefore f x) front
      → AllByRecursion (NotBefore x) back → NoneBefore R front (x ∷ back)
  none_before [] x back all behind = tt
  none_before (f ∷ front) x back all behind =
      ((all.0, all_chain f x back all.0 behind), none_before front x back all.1 behind)

  -- where a list is split around a place, nothing from that place on comes before one in front of it
  pub split_front : (front : List ℕ) (x : ℕ) (back : List ℕ) → IsSplitAroundBy (λ a b. is_lt (R a b)) front x back
      → NoneBefore R front (x ∷ back)
  split_front front x back split =
      none_before front x back (recursion_from_All (λ f. NotBefore f x) front split.0)
      (recursion_from_All (NotBefore x) back split.1)

  nothing_left : (rest : List ℕ) → rest ≡ [] → ordered rest ≡ []
  unfolding ordered
  nothing_left rest e = ap ordered e

-- a page of the first ones is one of all
page_within : (skip top : ℕ) (xs ys : List ℕ) → skip + top ≤ length xs
    → page_of skip (Some top) (xs ++ ys) ≡ page_of skip (Some top) xs
page_within skip top xs ys fits =
    ap (take top) (drop-append-le skip xs ys (omega arith))
    ∙ take-append-le top (drop skip xs) ys (omega (arith, length-drop skip xs))

page_all : (skip : ℕ) (top : Option ℕ) (xs ys : List ℕ) → ys ≡ [] → page_of skip top (xs ++ ys) ≡ page_of skip top xs
page_all skip top xs ys none = ap (page_of skip top) (ap (λ l. xs ++ l) none ∙ append-nil xs)

module _ (R : ℕ → ℕ → Ordering) (o : IsTotalOrder R) where
  -- the page of the first places is that of all
  pub same_page : (skip : ℕ) (top : Option ℕ) (front rest sorted : List ℕ) → IsPermutation front sorted
      → IsEnough skip top front rest → page_of skip top (sorted ++ ordered R o rest) ≡ page_of skip top sorted
  same_page skip None front rest sorted p none =
      page_all skip None sorted (ordered R o rest) (nothing_left R o rest none)
  same_page skip (Some top) front rest sorted p (inl none) =
      page_all skip (Some top) sorted (ordered R o rest) (nothing_left R o rest none)
  same_page skip (Some top) front rest sorted p (inr fits) =
      page_within skip top sorted (ordered R o rest) (omega (arith, length_permutation front sorted p, fits))
