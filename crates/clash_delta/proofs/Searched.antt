-- What a search by halves finds among buckets that rise, and among places that fall.
use Rattle.std.proofs.Common.{◌≡◌, ℕ, ◌+◌, ◌<◌, ◌≤◌, ◌⊎◌, inl, inr, List, length, get_or, Result, Ok, Err, refl, sym, ap, subst, arith, ◌∙◌}
use Rattle.std.specs.List.{AllPairs}
use Rattle.std.specs.List.Sorted.{IsSearchInRange, IsBinarySearchResult, IsNonDecreasingBy}
use Rattle.std.specs.Ordering.{nat_cmp, ordering_index}
use Rattle.std.specs.declared.cmp.Ordering.{Ordering}
use Rattle.std.specs.declared.cmp.Ordering.TheVariants.{Less, Equal, Greater}
use Rattle.std.proofs.lemmas.Bool.{cases_eq, cases_lt}
use Rattle.std.proofs.lemmas.Bool.Decides.{nat_tests}
use Rattle.std.proofs.lemmas.List.{get_or_default}
use Rattle.std.proofs.lemmas.Map.Lookups.{exact_unsigned}
use Rattle.bucket_grid.specs.declared.cell.Cell.{Cell}
use Rattle.bucket_grid.specs.Cells.{cell_cmp}
use Rattle.bucket_grid.proofs.Searching.{equal_cells}
use Rattle.clash_delta.specs.declared.slot.Slot.{Slot}
use Rattle.clash_delta.specs.BucketProgress.{IsBucketOf}
use Rattle.clash_delta.specs.BucketPlaces.{Rise, IsPlaceOf}
use Rattle.clash_delta.proofs.Cells.{cells_total, itself}

different : Less ≡ Equal → ⊥
different p = cc

other : Greater ≡ Equal → ⊥
other p = cc

-- orders of two cells to a third, where the first comes before the second
orders : (a b c : Cell) → cell_cmp a b ≡ Less → ordering_index (cell_cmp a c) ≤ ordering_index (cell_cmp b c)
orders a b c h = by (cell_cmp a c) (cell_cmp b c) refl refl
  where
    by : (o p : Ordering) → cell_cmp a c ≡ o → cell_cmp b c ≡ p → ordering_index o ≤ ordering_index p
    by Less p e f = omega arith
    by Equal Less e f = absurd (different (sym (cells_total.trans a b c h f) ∙ e))
    by Equal Equal e f = omega arith
    by Equal Greater e f = omega arith
    by Greater Less e f = absurd (unlike (sym (cells_total.trans a b c h f) ∙ e))
      where
        unlike : Less ≡ Greater → ⊥
        unlike p = cc
    by Greater Equal e f = absurd (unlike (sym (ap (λ k. cell_cmp a k) (sym (equal_cells b c f))) ∙ e))
      where
        unlike : cell_cmp a b ≡ Greater → ⊥
        unlike p = clash (sym h ∙ p)
          where
            clash : Less ≡ Greater → ⊥
            clash q = cc
    by Greater Greater e f = omega arith

module _ (slots : List Slot) (rise : Rise slots) (cell : Cell) where
  orders_rise : IsNonDecreasingBy (λ (s : Slot). ordering_index (cell_cmp s.cell cell)) slots
  orders_rise i j d le h = by (cases_eq i j)
    where
      by : (i ≡ j) ⊎ (i ≡ j → ⊥) → ordering_index (cell_cmp (get_or slots i d).cell cell) ≤ ordering_index (cell_cmp (get_or slots j d).cell cell)
      by (inl e) = let same = ap (λ k. ordering_index (cell_cmp (get_or slots k d).cell cell)) e in omega (arith, same)
      by (inr ne) = orders (get_or slots i d).cell (get_or slots j d).cell cell (rise i j d (omega (arith, le, ne)) h)

  pub found_at : (k : ℕ) → IsSearchInRange (Ok k) (length slots) → IsBinarySearchResult (λ (s : Slot). cell_cmp s.cell cell) slots (Ok k) → IsPlaceOf slots cell k
  found_at k within equal = record { within = within; is = λ d. equal_cells (get_or slots k d).cell cell (equal d) }

  pub found_nowhere : (k : ℕ) → IsBinarySearchResult (λ (s : Slot). cell_cmp s.cell cell) slots (Err k) → IsBucketOf slots cell → ⊥
  found_nowhere k parted bucket = by (cases_lt bucket.0 k)
    where
      here : cell_cmp (get_or slots bucket.0 bucket.1).cell cell ≡ Equal
      here = ap (λ (s : Slot). cell_cmp s.cell cell) bucket.3 ∙ ap (λ c. cell_cmp c cell) bucket.4 ∙ itself cell

      by : (bucket.0 < k) ⊎ (k ≤ bucket.0) → ⊥
      by (inl lt) = different (sym ((parted orders_rise).0 bucket.0 bucket.1 (omega arith) lt) ∙ here)
      by (inr ge) = other (sym ((parted orders_rise).1 bucket.0 bucket.1 ge bucket.2) ∙ here)

-- ---- among places that fall
module _ (places : List ℕ) (falls : AllPairs (λ (x y : ℕ). y < x) places) (place : ℕ) where
  fall : (i j d : ℕ) → i ≤ j → j < length places → get_or places j d ≤ get_or places i d
  fall i j d le h = by (cases_eq i j)
    where
      by : (i ≡ j) ⊎ (i ≡ j → ⊥) → get_or places j d ≤ get_or places i d
      by (inl e) = omega (arith, ap (λ k. get_or places k d) e)
      by (inr ne) = omega (arith, falls i j d (omega (arith, le, ne)) h)

  falling_orders : (x y : ℕ) → y ≤ x → ordering_index (nat_cmp place x) ≤ ordering_index (nat_cmp place y)
  falling_orders x y le = grind (arith, nat_tests)

  places_rise : IsNonDecreasingBy (λ y. ordering_index (nat_cmp place y)) places
  places_rise i j d le h = falling_orders (get_or places i d) (get_or places j d) (fall i j d le h)

  pub place_found : (k : ℕ) → IsSearchInRange (Ok k) (length places) → IsBinarySearchResult (λ y. nat_cmp place y) places (Ok k) → (k < length places) × (get_or places k 0 ≡ place)
  place_found k within equal = (within, sym (exact_unsigned place (get_or places k 0) (equal 0)))

  pub place_missing : (k m : ℕ) → IsBinarySearchResult (λ y. nat_cmp place y) places (Err k) → m < length places → get_or places m 0 ≡ place → ⊥
  place_missing k m parted h e = by (cases_lt m k)
    where
      here : nat_cmp place (get_or places m 0) ≡ Equal
      here = ap (nat_cmp place) e ∙ level place
        where
          level : (n : ℕ) → nat_cmp n n ≡ Equal
          level n = grind (arith, nat_tests)

      by : (m < k) ⊎ (k ≤ m) → ⊥
      by (inl lt) = different (sym ((parted places_rise).0 m 0 (omega arith) lt) ∙ here)
      by (inr ge) = other (sym ((parted places_rise).1 m 0 ge h) ∙ here)
