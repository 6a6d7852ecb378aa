-- Topics have one order, so each list of them is one.
use Rattle.std.proofs.Common.{◌≡◌, ℕ, zero, suc, ◌+◌, ◌<◌, Bool, true, false, cond, eqb, List, [], ◌∷◌, length, get_or, refl, sym, ap, ◌∙◌, subst, arith}
use Rattle.std.specs.Cmp.{IsTotalOrder}
use Rattle.std.specs.List.{sum_by, AllByRecursion}
use Rattle.std.specs.List.Sorted.{IsPermutation, IsSorted}
use Rattle.std.specs.Ordering.{MatchOrdering, nat_cmp, is_lt, ordering_then, ordering_reverse}
use Rattle.std.specs.declared.cmp.Ordering.{Ordering}
use Rattle.std.specs.declared.cmp.Ordering.TheVariants.{Less, Equal, Greater}
use Rattle.std.proofs.lemmas.Bool.{eqb-true, eqb-false, eq-eqb}
use Rattle.std.proofs.lemmas.Cmp.{ranked}
use Rattle.std.proofs.lemmas.List.Elements.{recursion_from_All}
use Rattle.std.proofs.lemmas.List.Sorted.{ranks_by, sorted_far, sum_by-IsPermutation}
use Rattle.std.proofs.lemmas.List.Sums.{sum_by-cons}
use Rattle.bcf_topics.specs.declared.topic.Topic.{Topic}
use Rattle.odata_filter.specs.declared.topic_order.OrderKey.{OrderKey}
use Rattle.odata_filter.specs.declared.listing.Listing.{Listing}
use Rattle.odata_filter.specs.Listings.{by_places, IsOrdering, IsListed, page_of, keys_of}
use Rattle.odata_filter.proofs.Ordered.{by_places_total}

-- whether a number is that one
abbrev is : ℕ → ℕ → ℕ
is z x = cond (eqb x z) 1 0

-- how often a number stands in a list
abbrev times : ℕ → List ℕ → ℕ
times z [] = 0
times z (x ∷ xs) = is z x + times z xs

times_sum : (z : ℕ) (xs : List ℕ) → times z xs ≡ sum_by (is z) xs
times_sum z [] = refl
times_sum z (x ∷ xs) = ap (λ n. is z x + n) (times_sum z xs) ∙ sym (sum_by-cons (is z) x xs)

same_times : (xs ys : List ℕ) → IsPermutation xs ys → (z : ℕ) → times z xs ≡ times z ys
same_times xs ys p z =
    times_sum z xs ∙ (sym (sum_by-IsPermutation (is z) xs ys p) ∙ sym (times_sum z ys))

times_here : (z : ℕ) (xs : List ℕ) → times z (z ∷ xs) ≡ 1 + times z xs
times_here z xs = rw (eq-eqb z z refl) refl

by_test : (P : ℕ → Type 0) (z x n : ℕ) (b : Bool) → eqb x z ≡ b → P x → (0 < n → P z) → 0 < cond b 1 0 + n → P z
by_test P z x n true e here rest h = subst P (eqb-true x z e) here
by_test P z x n false e here rest h = rest (omega arith)

-- what holds of each number of a list holds of one that stands there
holds_there : (P : ℕ → Type 0) (z : ℕ) (xs : List ℕ) → AllByRecursion P xs → 0 < times z xs → P z
holds_there P z [] all some = absurd (omega arith)
holds_there P z (x ∷ xs) all some =
    by_test P z x (times z xs) (eqb x z) refl all.0 (λ h. holds_there P z xs all.1 h) some

module _ (R : ℕ → ℕ → Ordering) (o : IsTotalOrder R) (own : (i j : ℕ) → R i j ≡ Equal → i ≡ j) where
  -- the first one of a sorted list comes behind no other
  head_least : (x : ℕ) (xs : List ℕ) → IsSorted R (x ∷ xs) → AllByRecursion (λ z. is_lt (R z x) ≡ false) (x ∷ xs)
  head_least x xs up = recursion_from_All (λ z. is_lt (R z x) ≡ false) (x ∷ xs)
      (λ k d h. sorted_far (λ a b. is_lt (R a b)) (ranks_by o (λ z. z)) (x ∷ xs) up 0 k d (omega arith) h)

  tail_sorted : (x : ℕ) (xs : List ℕ) → IsSorted R (x ∷ xs) → IsSorted R xs
  tail_sorted x xs up k d low high =
      let e : suc k + 1 ≡ suc (k + 1) = omega arith in
      subst (λ n. is_lt (R (get_or (x ∷ xs) n d) (get_or xs k d)) ≡ false) e (up (suc k) d (omega arith) (omega arith))

  tie : (x y : ℕ) (r : Ordering) → R x y ≡ r → is_lt r ≡ false → is_lt (R y x) ≡ false → x ≡ y
  tie x y Less e h k = cc
  tie x y Equal e h k = own x y e
  tie x y Greater e h k =
      let back : R y x ≡ Less = o.antisymm y x ∙ ap ordering_reverse e in
      let no : true ≡ false = sym (ap is_lt back) ∙ k in
      cc

  -- two sorted lists that have the same numbers equally often are the same
  one_sorted : (xs ys : List ℕ) → ((z : ℕ) → times z xs ≡ times z ys) → IsSorted R xs → IsSorted R ys → xs ≡ ys
  one_sorted [] [] same up vp = refl
  one_sorted [] (y ∷ ys) same up vp = absurd (omega (arith, same y, times_here y ys))
  one_sorted (x ∷ xs) [] same up vp = absurd (omega (arith, same x, times_here x xs))
  one_sorted (x ∷ xs) (y ∷ ys) same up vp =
      let low : is_lt (R y x) ≡ false =
      holds_there (λ z. is_lt (R z x) ≡ false) y (x ∷ xs) (head_least x xs up) (omega (arith, same y, times_here y ys)) in
      let high : is_lt (R x y) ≡ false =
      holds_there (λ z. is_lt (R z y) ≡ false) x (y ∷ ys) (head_least y ys vp) (omega (arith, same x, times_here x xs)) in
      let e : x ≡ y = tie x y (R x y) refl high low in
      let tails : (z : ℕ) → times z xs ≡ times z ys = λ z.
      let first : is z x ≡ is z y = ap (is z) e in
      let all : is z x + times z xs ≡ is z y + times z ys = same z in
      omega arith in
      ap (λ l. x ∷ l) (one_sorted xs ys tails (tail_sorted x xs up) (tail_sorted y ys vp)) ∙ ap (λ h. h ∷ ys) e

then_tie : (a b : Ordering) → ordering_then a b ≡ Equal → b ≡ Equal
then_tie Less b e = cc
then_tie Equal b e = e
then_tie Greater b e = cc

number_tie : (i j : ℕ) (r : Ordering) → MatchOrdering r (i < j) (i ≡ j) (j < i) → r ≡ Equal → i ≡ j
number_tie i j Less h e = cc
number_tie i j Equal h e = h
number_tie i j Greater h e = cc

-- places that tie are one
places_tie : (keys : List OrderKey) (topics : List Topic) (i j : ℕ) → by_places keys topics i j ≡ Equal → i ≡ j
unfolding by_places
places_tie keys topics i j e =
    number_tie i j (nat_cmp i j) (ranked i j (nat_cmp i j) refl) (then_tie _ (nat_cmp i j) e)

-- a list of topics is one
pub one_listing : (listing : Listing) (topics : List Topic) (ps qs : List ℕ)
    → IsListed listing topics ps → IsListed listing topics qs → ps ≡ qs
one_listing listing topics ps qs h k =
    let keys = keys_of listing.order in
    let same : h.0 ≡ k.0 = one_sorted (by_places keys topics) (by_places_total keys topics) (places_tie keys topics) h.0 k.0
    (λ z. sym (same_times _ h.0 h.1.kept z) ∙ same_times _ k.0 k.1.kept z) h.1.rises k.1.rises in
    h.2 ∙ (ap (page_of listing.skip listing.top) same ∙ sym k.2)
