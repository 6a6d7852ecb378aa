-- A bucket that has got its set: its place goes out of those of the buckets that aren't done.
use Rattle.std.proofs.Common.{◌≡◌, ◌↔◌, ℕ, ◌+◌, ◌-◌, ◌<◌, ◌≤◌, Bool, true, false, not, IsTrue, List, length, get_or, map, set, Option, Some, None, IsSome, is_some, is_none, MatchOption, Result, Ok, Err, true≢false, refl, sym, ap, subst, arith, ◌∙◌}
use Rattle.std.specs.List.{AllPairs, remove, slice_get}
use Rattle.std.specs.List.Sorted.{IsSearchInRange, IsBinarySearchResult}
use Rattle.std.specs.Ordering.{nat_cmp}
use Rattle.std.proofs.lemmas.List.{get_or_default}
use Rattle.bucket_grid.specs.declared.cell.Cell.{Cell}
use Rattle.bucket_check.specs.ClashSets.{SetValue}
use Rattle.clash_delta.specs.declared.slot.Slot.{Slot}
use Rattle.clash_delta.specs.BucketProgress.{undone_cells, filled, IsBucketOf, IsDone}
use Rattle.clash_delta.specs.BucketPlaces.{Rise, IsPlaceOf, IsProgress, undone_places}
use Rattle.clash_delta.proofs.Listed.{falls, without, stands}
use Rattle.clash_delta.proofs.Searched.{place_found, place_missing}
use Rattle.clash_delta.proofs.Undone.{undone, nothing, undone_count, undone_at, done_at, not_done_at, bucket_at, one_place, fact}
use Rattle.clash_delta.proofs.Filled.{all_filled, rise_filled}

module _ (slots : List Slot) (l : List ℕ) (keeps : IsProgress slots l) (s : SetValue) (place : ℕ) (t : Slot) (at : IsPlaceOf slots s.work.cell place) (none : (d : Slot) → (get_or slots place d).set ≡ None) (cell : t.cell ≡ s.work.cell) (given : t.set ≡ Some s) where
  pub all : set slots place t ≡ map (filled s) slots
  all = all_filled slots s place t keeps.rising at none cell given

  was : undone (get_or slots place nothing) ≡ true
  was = ap is_none (none nothing)

  now : undone t ≡ false
  now = ap is_none given

  falling : AllPairs (λ (x y : ℕ). y < x) l
  falling = subst (AllPairs (λ (x y : ℕ). y < x)) (sym keeps.places) (falls undone slots)

  -- the place is found among those of the buckets that aren't done
  found : (u : List ℕ) (k : ℕ) → u ≡ l → IsSearchInRange (Ok k) (length u) → IsBinarySearchResult (λ y. nat_cmp place y) u (Ok k) → (k < length l) × (get_or l k 0 ≡ place)
  found u k e range equal =
      place_found l falling place k (subst (λ v. IsSearchInRange (Ok k) (length v)) e range) (subst (λ v. IsBinarySearchResult (λ y. nat_cmp place y) v (Ok k)) e equal)

  pub not_missing : (u : List ℕ) (k : ℕ) → u ≡ l → IsBinarySearchResult (λ y. nat_cmp place y) u (Err k) → ⊥
  not_missing u k e parted =
      let there = stands undone slots l place nothing t keeps.places at.within was now in
      place_missing l falling place k there.0 (subst (λ v. IsBinarySearchResult (λ y. nat_cmp place y) v (Err k)) e parted) there.1 there.2

  pub still : (u : List ℕ) (k : ℕ) (new : List ℕ) → u ≡ l → IsSearchInRange (Ok k) (length u) → IsBinarySearchResult (λ y. nat_cmp place y) u (Ok k) → new ≡ remove l k → IsProgress (set slots place t) new
  still u k new e range equal made =
      let f = found u k e range equal in
      record {
        rising = subst Rise (sym all) (rise_filled s slots keeps.rising);
        places = made ∙ without undone slots l place k nothing t keeps.places at.within was now f.0 f.1;
      }

  pub one_fewer : (new : List ℕ) → IsProgress (set slots place t) new → length new + 1 ≡ length l → length (undone_cells (set slots place t)) + 1 ≡ length (undone_cells slots)
  one_fewer new kept count =
      omega (arith, count, ap length kept.places, ap length keeps.places, undone_count (set slots place t), undone_count slots)

-- ---- what is told of a cell
pub bucket_told : (slots : List Slot) (cell : Cell) (o : Option ℕ) (r : Bool) → r ≡ is_some o → MatchOption o (IsBucketOf slots cell → ⊥) (IsPlaceOf slots cell) → IsTrue r ↔ IsBucketOf slots cell
bucket_told slots cell None r e never = (λ yes. absurd (true≢false (sym yes ∙ e)), λ b. absurd (never b))
bucket_told slots cell (Some k) r e at = (λ yes. bucket_at slots cell k at, λ b. e)

pub done_told : (slots : List Slot) (cell : Cell) (place : ℕ) (x : Slot) (r : Bool) → Rise slots → IsPlaceOf slots cell place → x ≡ get_or slots place x → r ≡ is_some x.set → IsTrue r ↔ IsDone slots cell
done_told slots cell place x r rise at e is = (λ yes. done_at slots cell place x at e (sym is ∙ yes), λ done. by (is_some x.set) refl done)
  where
    by : (b : Bool) → is_some x.set ≡ b → IsDone slots cell → r ≡ true
    by true h done = is ∙ h
    by false h done = absurd (not_done_at slots cell place x rise at e (ap not h) done)

-- ---- a bucket that isn't done, by its place among them
pub record IsLeft (slots : List Slot) (place : ℕ) (cell : Cell) : Type 0 where
  pub cell_is : Some cell ≡ slice_get (undone_cells slots) place
  pub bucket : IsBucketOf slots cell
  pub undone : IsDone slots cell → ⊥

pub left_inside : (slots : List Slot) (l : List ℕ) (place n at : ℕ) → IsProgress slots l → n ≡ length l → place < n → at ≡ get_or l (n - 1 - place) at → at < length slots
left_inside slots l place n at keeps e h f =
    let is : at ≡ get_or l (length l - 1 - place) 0 = f ∙ ap (λ m. get_or l (m - 1 - place) at) e ∙ get_or_default l (length l - 1 - place) at 0 (omega (arith, h, e)) in
    (undone_at slots l place at keeps.places (omega (arith, h, e)) is).within

pub left_at : (slots : List Slot) (l : List ℕ) (place n at : ℕ) (x : Slot) → IsProgress slots l → n ≡ length l → place < n → at ≡ get_or l (n - 1 - place) at → x ≡ get_or slots at x → IsLeft slots place x.cell
left_at slots l place n at x keeps e h f g =
    let is : at ≡ get_or l (length l - 1 - place) 0 = f ∙ ap (λ m. get_or l (m - 1 - place) at) e ∙ get_or_default l (length l - 1 - place) at 0 (omega (arith, h, e)) in
    let u = undone_at slots l place at keeps.places (omega (arith, h, e)) is in
    let there : IsPlaceOf slots x.cell at = record { within = u.within; is = λ d. ap (λ (s : Slot). s.cell) (get_or_default slots at d x u.within ∙ sym g) } in
    record {
      cell_is = ap (λ (s : Slot). Some s.cell) g ∙ sym (u.cell x);
      bucket = bucket_at slots x.cell at there;
      undone = not_done_at slots x.cell at x keeps.rising there g (ap (λ (s : Slot). is_none s.set) g ∙ u.none x);
    }
