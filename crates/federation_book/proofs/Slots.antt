-- The buckets of a progress: which are done, and which are to be checked.
use Rattle.std.proofs.Common.{◌≡◌, ◌<◌, ◌≤◌, ◌⊎◌, inl, inr, ℕ, zero, suc, Bool, true, false, not, ◌||◌, cond, is_none, IsSome, List, [], ◌∷◌, length, get_or, map, filter, Option, Some, None, refl, sym, ap, subst, ◌∙◌, arith, true≢false}
use Rattle.std.specs.List.{Any, AllPairs}
use Rattle.std.specs.Option.{unwrap_or}
use Rattle.std.proofs.lemmas.Bool.{cases_lt, cases_eq}
use Rattle.std.proofs.lemmas.List.{get_or-map, length-map, get_or_default}
use Rattle.bucket_grid.specs.declared.cell.Cell.{Cell}
use Rattle.bucket_check.specs.Clashes.{is_cell}
use Rattle.bucket_check.specs.ClashSets.{SetValue}
use Rattle.bucket_check.proofs.Merged.{same_cell, one_cell}
use Rattle.clash_delta.specs.declared.slot.Slot.{Slot}
use Rattle.clash_delta.specs.BucketProgress.{cells_of, undone_slots, undone_cells, filled, IsBucketOf, IsDone}
use Rattle.book_history.specs.Buckets.{is_among}
use Rattle.book_history.proofs.Listing.{Below, once}

-- a bucket of the cell that is to be checked
abbrev pub IsOpen : List Slot → Cell → Type 0
IsOpen slots cell = Any (λ (s : Slot). (s.cell ≡ cell) × (is_none s.set ≡ true)) slots

any_head : {A : Type 0} (P : A → Type 0) (x : A) (xs : List A) → P x → Any P (x ∷ xs)
any_head P x xs h = (0, x, omega arith, refl, h)

any_tail : {A : Type 0} (P : A → Type 0) (x : A) (xs : List A) → Any P xs → Any P (x ∷ xs)
any_tail P x xs h = (suc h.0, h.1, omega (arith, h.2), h.3, h.4)

any_split : {A : Type 0} (P : A → Type 0) (x : A) (xs : List A) → Any P (x ∷ xs) → P x ⊎ Any P xs
any_split {A = A} P x xs h = by h.0 h.1 h.2 h.3 h.4
  where
    by : (k : ℕ) (y : A) → k < length (x ∷ xs) → get_or (x ∷ xs) k y ≡ y → P y → P x ⊎ Any P xs
    by zero y lt e p = inl (subst P (sym e) p)
    by (suc k) y lt e p = inr (k, y, omega (arith, lt), e, p)

module _ (s : Slot) (ss : List Slot) (c : Cell) where
  abbrev P : Slot → Type 0
  P t = (t.cell ≡ c) × (is_none t.set ≡ true)

  abbrev with_head : Bool → List Cell
  with_head b = map (λ (t : Slot). t.cell) (cond b (s ∷ undone_slots ss) (undone_slots ss))

  first_or : (b : Bool) → is_none s.set ≡ true → is_cell s.cell c ≡ b → (b || is_among (undone_cells ss) c) ≡ true → (is_among (undone_cells ss) c ≡ true → IsOpen ss c) → IsOpen (s ∷ ss) c
  first_or true n i h rest = any_head P s ss (one_cell s.cell c i, n)
  first_or false n i h rest = any_tail P s ss (rest h)

  opened : (b : Bool) → is_none s.set ≡ b → is_among (with_head b) c ≡ true → (is_among (undone_cells ss) c ≡ true → IsOpen ss c) → IsOpen (s ∷ ss) c
  opened true n h rest = first_or (is_cell s.cell c) n refl h rest
  opened false n h rest = any_tail P s ss (rest h)

  or_true : (b : Bool) (rest : Bool) → rest ≡ true → (b || rest) ≡ true
  or_true true rest e = refl
  or_true false rest e = e

  among_head : (b : Bool) → is_none s.set ≡ b → is_none s.set ≡ true → s.cell ≡ c → is_among (with_head b) c ≡ true
  among_head true n e is = ap (λ t. t || is_among (undone_cells ss) c) (subst (λ d. is_cell s.cell d ≡ true) is (same_cell s.cell))
  among_head false n e is = absurd (true≢false (sym e ∙ n))

  among_tail : (b : Bool) → is_among (undone_cells ss) c ≡ true → is_among (with_head b) c ≡ true
  among_tail true h = or_true (is_cell s.cell c) (is_among (undone_cells ss) c) h
  among_tail false h = h

  among_either : P s ⊎ IsOpen ss c → (IsOpen ss c → is_among (undone_cells ss) c ≡ true) → is_among (with_head (is_none s.set)) c ≡ true
  among_either (inl p) rest = among_head (is_none s.set) refl p.1 p.0
  among_either (inr h) rest = among_tail (is_none s.set) (rest h)

-- the cells that are to be checked are those of open buckets
pub open_among : (slots : List Slot) (c : Cell) → is_among (undone_cells slots) c ≡ true → IsOpen slots c
open_among [] c e = absurd (true≢false (sym e))
open_among (s ∷ ss) c e = opened s ss c (is_none s.set) refl e (λ h. open_among ss c h)

pub among_open : (slots : List Slot) (c : Cell) → IsOpen slots c → is_among (undone_cells slots) c ≡ true
among_open [] c h = absurd (omega (arith, h.2))
among_open (s ∷ ss) c h = among_either s ss c (any_split (λ (t : Slot). (t.cell ≡ c) × (is_none t.set ≡ true)) s ss h) (λ r. among_open ss c r)

-- ---- cells that rise stand once
module _ (slots : List Slot) (rise : AllPairs Below (cells_of slots)) where
  read_cell : (k : ℕ) (s : Slot) (d : Cell) → k < length slots → get_or slots k s ≡ s → get_or (cells_of slots) k d ≡ s.cell
  read_cell k s d lt e = get_or-map (λ (t : Slot). t.cell) slots k s d lt ∙ ap (λ (t : Slot). t.cell) e

  apart : (i j : ℕ) (s t : Slot) → i < j → j < length slots → get_or slots i s ≡ s → get_or slots j t ≡ t → s.cell ≡ t.cell → ⊥
  apart i j s t lt within e f same =
      let n = length-map slots (λ (t : Slot). t.cell) in
      let below : Below s.cell t.cell = subst (λ c. Below c t.cell) (read_cell i s s.cell (omega (arith, lt, within)) e) (subst (λ c. Below (get_or (cells_of slots) i s.cell) c) (read_cell j t s.cell within f) (rise i j s.cell lt (omega (arith, n, within)))) in
      let own : Below t.cell t.cell = subst (λ c. Below c t.cell) same below in
      once t.cell t.cell own own

  one_place : (i j : ℕ) (s t : Slot) → i < length slots → j < length slots → get_or slots i s ≡ s → get_or slots j t ≡ t → s.cell ≡ t.cell → i ≡ j
  one_place i j s t a b e f same = by (cases_eq i j)
    where
      by : (i ≡ j) ⊎ (i ≡ j → ⊥) → i ≡ j
      by (inl is) = is
      by (inr ne) = order (cases_lt i j)
        where
          order : (i < j) ⊎ (j ≤ i) → i ≡ j
          order (inl lt) = absurd (apart i j s t lt b e f same)
          order (inr le) = absurd (apart j i t s (omega (arith, le, ne)) a f e (sym same))

  -- buckets of one cell are the same
  pub same_slot : (c : Cell) (a : Any (λ (s : Slot). s.cell ≡ c) slots) (b : Any (λ (s : Slot). s.cell ≡ c) slots) → a.1 ≡ b.1
  same_slot c a b =
      let at = one_place a.0 b.0 a.1 b.1 a.2 b.2 a.3 b.3 (a.4 ∙ sym b.4) in
      sym a.3 ∙ ap (λ k. get_or slots k a.1) at ∙ get_or_default slots b.0 a.1 b.1 b.2 ∙ b.3

  some_none : (o : Option SetValue) → IsSome o → is_none o ≡ true → ⊥
  some_none None s n = cc
  some_none (Some x) s n = true≢false (sym n)

  -- no bucket is done and open
  pub done_open : (c : Cell) → IsDone slots c → IsOpen slots c → ⊥
  done_open c d o =
      let same = same_slot c (d.0, d.1, d.2, d.3, d.4.0) (o.0, o.1, o.2, o.3, o.4.0) in
      some_none d.1.set d.4.1 (ap (λ (s : Slot). is_none s.set) same ∙ o.4.1)

  by_set : (c : Cell) (k : ℕ) (s : Slot) (o : Option SetValue) → s.set ≡ o → k < length slots → get_or slots k s ≡ s → s.cell ≡ c → IsDone slots c ⊎ IsOpen slots c
  by_set c k s None e lt f is = inr (k, s, lt, f, (is, ap is_none e))
  by_set c k s (Some x) e lt f is = inl (k, s, lt, f, (is, subst IsSome (sym e) refl))

  -- each is one of them
  pub done_or_open : (c : Cell) → IsBucketOf slots c → IsDone slots c ⊎ IsOpen slots c
  done_or_open c b = by_set c b.0 b.1 b.1.set refl b.2 b.3 b.4

-- ---- one more is done
module _ (set : SetValue) where
  abbrev c : Cell
  c = set.work.cell

  abbrev left : List Cell → List Cell
  left cells = filter (λ (d : Cell). not (is_cell d c)) cells

  abbrev heads : Bool → Slot → List Slot → List Cell
  heads b s ss = map (λ (t : Slot). t.cell) (cond b (filled set s ∷ undone_slots (map (filled set) ss)) (undone_slots (map (filled set) ss)))

  one_more : (s : Slot) (ss : List Slot) (o : Option SetValue) (b : Bool) → is_cell s.cell c ≡ b → undone_cells (map (filled set) ss) ≡ left (undone_cells ss)
      → heads (is_none (cond b (Some (unwrap_or o set)) o)) s ss ≡ left (map (λ (t : Slot). t.cell) (cond (is_none o) (s ∷ undone_slots ss) (undone_slots ss)))
  one_more s ss None true i h = h ∙ ap (λ t. cond (not t) (s.cell ∷ left (undone_cells ss)) (left (undone_cells ss))) (sym i)
  one_more s ss None false i h = ap (λ l. s.cell ∷ l) h ∙ ap (λ t. cond (not t) (s.cell ∷ left (undone_cells ss)) (left (undone_cells ss))) (sym i)
  one_more s ss (Some x) true i h = h
  one_more s ss (Some x) false i h = h

  -- the cells that are to be checked are all but that of the set
  pub filled_left : (slots : List Slot) → undone_cells (map (filled set) slots) ≡ left (undone_cells slots)
  filled_left [] = refl
  filled_left (s ∷ ss) = one_more s ss s.set (is_cell s.cell c) refl (filled_left ss)
