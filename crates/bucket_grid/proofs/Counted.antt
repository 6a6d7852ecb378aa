-- The cells that hold a box, listed by rising x, y and z, are as many as the product of its spans of cells.
use Rattle.std.proofs.Common.{◌≡◌, ℕ, zero, suc, ◌+◌, ◌*◌, ◌<◌, ℤ, pos, negsuc, ◌+ℤ◌, ◌-ℤ◌, ◌≤ℤ◌, int_le, Bool, true, ◌&&◌, List, [], ◌∷◌, length, refl, sym, ap, ap₂, ◌∙◌, arith}
use Rattle.std.specs.List.{All, Any, AllPairs, flat_map}
use Rattle.std.specs.declared.cmp.Ordering.TheVariants.{Less}
use Rattle.std.proofs.Math.Nat.{suc-mul, mul_assoc}
use Rattle.std.proofs.lemmas.Int.{ints}
use Rattle.std.proofs.lemmas.Bool.{and_parts, and_from}
use Rattle.std.proofs.lemmas.List.{length-append}
use Rattle.std.proofs.lemmas.List.Elements.{All-nil, All-cons, All-weaker}
use borrow.Author.Differences.{up}
use Rattle.bim_model.specs.declared.geometry.Extent.{Extent}
use Rattle.bucket_grid.specs.declared.cell.Cell.{Cell}
use Rattle.bucket_grid.specs.Cells.{first_cell, last_cell, is_in, holds, span, cell_count, cell_cmp}
use Rattle.bucket_grid.specs.BucketTable.{upto, with_x, with_y, with_z}
use Rattle.bucket_grid.specs.ElementPlaces.{IsInOrder}
use Rattle.bucket_grid.specs.GridLaws.{AreCellsOf}
use Rattle.bucket_grid.proofs.Owners.{own_step, same_cell}
use Rattle.bucket_grid.proofs.Parts.{flat_suc, flat_all, flat_any, flat_pairs}
use Rattle.bucket_grid.proofs.Tables.{less_x, less_y, less_z, further, along, above, tested}

-- so many cells along z, so many such rows along y, and so many such sheets along x
abbrev row : Cell → ℕ → List Cell
row low depth = flat_map (λ k. with_z low k ∷ []) (upto depth)

abbrev sheet : Cell → ℕ → ℕ → List Cell
sheet low width depth = flat_map (λ j. row (with_y low j) depth) (upto width)

abbrev block : Cell → ℕ → ℕ → ℕ → List Cell
block low long width depth = flat_map (λ i. sheet (with_x low i) width depth) (upto long)

abbrev at : Cell → ℕ → ℕ → ℕ → Cell
at low i j k = with_z (with_y (with_x low i) j) k

-- ---- how many they are
flat_length : {A : Type 0} (f : ℕ → List A) (m n : ℕ) → ((k : ℕ) → length (f k) ≡ m) → length (flat_map f (upto n)) ≡ n * m
flat_length f m zero h = omega arith
flat_length f m (suc n) h = ap length (flat_suc f n) ∙ length-append (flat_map f (upto n)) (f n) ∙ ap₂ (λ a b. a + b) (flat_length f m n h) (h n) ∙ sym (suc-mul n m)

row_length : (low : Cell) (depth : ℕ) → length (row low depth) ≡ depth
row_length low depth = flat_length (λ k. with_z low k ∷ []) 1 depth (λ k. refl) ∙ omega arith

block_length : (low : Cell) (long width depth : ℕ) → length (block low long width depth) ≡ long * width * depth
block_length low long width depth =
    flat_length (λ i. sheet (with_x low i) width depth) (width * depth) long
    (λ i. flat_length (λ j. row (with_y (with_x low i) j) depth) depth width (λ j. row_length (with_y (with_x low i) j) depth))
    ∙ sym (mul_assoc long width depth)

-- ---- they rise
abbrev Below : Cell → Cell → Type 0
Below c d = cell_cmp c d ≡ Less

abbrev InRow : Cell → Cell → Type 0
InRow low c = (c.x ≡ low.x) × (c.y ≡ low.y)

abbrev InSheet : Cell → Cell → Type 0
InSheet low c = c.x ≡ low.x

one : (P : Cell → Type 0) (c : Cell) → P c → All P (c ∷ [])
one P c h = All-cons P c [] h (All-nil P)

alone : (c : Cell) → AllPairs Below (c ∷ [])
alone c = λ i j d below within. absurd (omega (arith, below, within))

in_row : (low : Cell) (depth : ℕ) → All (InRow low) (row low depth)
in_row low depth = flat_all (InRow low) (λ k. with_z low k ∷ []) depth (λ k lt. one (InRow low) (with_z low k) (refl, refl))

in_sheet : (low : Cell) (width depth : ℕ) → All (InSheet low) (sheet low width depth)
in_sheet low width depth =
    flat_all (InSheet low) (λ j. row (with_y low j) depth) width
    (λ j lt. All-weaker (InRow (with_y low j)) (InSheet low) (λ c h. h.0) (row (with_y low j) depth) (in_row (with_y low j) depth))

row_rises : (low : Cell) (depth : ℕ) → AllPairs Below (row low depth)
row_rises low depth =
    flat_pairs Below (λ k c. c ≡ with_z low k) (λ k. with_z low k ∷ []) depth
    (λ j k c d lt e f.
    less_z c.x d.x c.y d.y c.z d.z (along low.x _ _ (ap (λ (t : Cell). t.x) e) (ap (λ (t : Cell). t.x) f)) (along low.y _ _ (ap (λ (t : Cell). t.y) e) (ap (λ (t : Cell). t.y) f))
    (further low.z c.z d.z j k lt (ap (λ (t : Cell). t.z) e) (ap (λ (t : Cell). t.z) f)))
    (λ k. one (λ c. c ≡ with_z low k) (with_z low k) refl)
    (λ k lt. alone (with_z low k))

sheet_rises : (low : Cell) (width depth : ℕ) → AllPairs Below (sheet low width depth)
sheet_rises low width depth =
    flat_pairs Below (λ j c. InRow (with_y low j) c) (λ j. row (with_y low j) depth) width
    (λ j k c d lt e f. less_y c.x d.x c.y d.y c.z d.z (along low.x _ _ e.0 f.0) (further low.y c.y d.y j k lt e.1 f.1))
    (λ j. in_row (with_y low j) depth)
    (λ j lt. row_rises (with_y low j) depth)

block_rises : (low : Cell) (long width depth : ℕ) → AllPairs Below (block low long width depth)
block_rises low long width depth =
    flat_pairs Below (λ i c. InSheet (with_x low i) c) (λ i. sheet (with_x low i) width depth) long
    (λ j k c d lt e f. less_x c.x d.x c.y d.y c.z d.z (further low.x c.x d.x j k lt e f))
    (λ i. in_sheet (with_x low i) width depth)
    (λ i lt. sheet_rises (with_x low i) width depth)

-- ---- each of them, and no other, holds the box
test : (a b : ℤ) → a ≤ℤ b → int_le a b ≡ true
test a b h = grind (arith, ints)

-- a number of cells on from the first is at most the last
up_to_last : (f l d : ℤ) (i : ℕ) → (l -ℤ f) ≡ d → f ≤ℤ l → i < up d + 1 → (f +ℤ pos i) ≤ℤ l
up_to_last f l (pos n) i e h lt = omega (arith, ints)
up_to_last f l (negsuc n) i e h lt = absurd (omega (arith, ints))

from_first : (f : ℤ) (i : ℕ) → f ≤ℤ (f +ℤ pos i)
from_first f i = omega (arith, ints)

on_axis : (low high : ℤ) (i : ℕ) → low ≤ℤ high → i < span low high → is_in low high (first_cell low +ℤ pos i) ≡ true
on_axis low high i o lt =
    and_from (int_le (first_cell low) (first_cell low +ℤ pos i)) (int_le (first_cell low +ℤ pos i) (last_cell high))
    (test _ _ (from_first (first_cell low) i))
    (test _ _ (up_to_last (first_cell low) (last_cell high) (last_cell high -ℤ first_cell low) i refl (own_step low high o) lt))

in_span : (f l i d : ℤ) (k : ℕ) → (l -ℤ f) ≡ d → i ≡ f +ℤ pos k → i ≤ℤ l → k < up d + 1
in_span f l i (pos n) k e g h = omega (arith, ints)
in_span f l i (negsuc n) k e g h = absurd (omega (arith, ints))

-- what holds the box on an axis is a number of cells on from the first
on_from_first : (low high i : ℤ) → is_in low high i ≡ true → (k : ℕ) × (k < span low high) × (i ≡ first_cell low +ℤ pos k)
on_from_first low high i h =
    let p = and_parts (int_le (first_cell low) i) (int_le i (last_cell high)) h in
    let k = above (first_cell low) i (i -ℤ first_cell low) refl (tested (first_cell low) i p.0) in
    (k.0, in_span (first_cell low) (last_cell high) i (last_cell high -ℤ first_cell low) k.0 refl k.1 (tested i (last_cell high) p.1), k.1)

held : (x y z : Bool) → x ≡ true → y ≡ true → z ≡ true → (x && y && z) ≡ true
held x y z a b c = and_from (x && y) z (and_from x y a b) c

module _ (box : Extent) (o : IsInOrder box) where
  abbrev low : Cell
  low = record { x = first_cell box.low.x; y = first_cell box.low.y; z = first_cell box.low.z }

  abbrev long : ℕ
  long = span box.low.x box.high.x

  abbrev width : ℕ
  width = span box.low.y box.high.y

  abbrev depth : ℕ
  depth = span box.low.z box.high.z

  all_hold : All (λ c. holds c box ≡ true) (block low long width depth)
  all_hold =
      flat_all (λ c. holds c box ≡ true) (λ i. sheet (with_x low i) width depth) long (λ i a.
      flat_all (λ c. holds c box ≡ true) (λ j. row (with_y (with_x low i) j) depth) width (λ j b.
      flat_all (λ c. holds c box ≡ true) (λ k. at low i j k ∷ []) depth (λ k d.
      one (λ c. holds c box ≡ true) (at low i j k)
      (held _ _ _ (on_axis box.low.x box.high.x i o.x a) (on_axis box.low.y box.high.y j o.y b) (on_axis box.low.z box.high.z k o.z d)))))

  none_else : (c : Cell) → holds c box ≡ true → Any (λ d. d ≡ c) (block low long width depth)
  none_else c h =
      let p = and_parts (is_in box.low.x box.high.x c.x && is_in box.low.y box.high.y c.y) (is_in box.low.z box.high.z c.z) h in
      let q = and_parts (is_in box.low.x box.high.x c.x) (is_in box.low.y box.high.y c.y) p.0 in
      let i = on_from_first box.low.x box.high.x c.x q.0 in
      let j = on_from_first box.low.y box.high.y c.y q.1 in
      let k = on_from_first box.low.z box.high.z c.z p.1 in
      let e : at low i.0 j.0 k.0 ≡ c = same_cell _ _ (sym i.2) (sym j.2) (sym k.2) in
      flat_any (λ d. d ≡ c) (λ i. sheet (with_x low i) width depth) long i.0 i.1
      (flat_any (λ d. d ≡ c) (λ m. row (with_y (with_x low i.0) m) depth) width j.0 j.1
      (flat_any (λ d. d ≡ c) (λ m. at low i.0 j.0 m ∷ []) depth k.0 k.1
      (0, at low i.0 j.0 k.0, omega arith, refl, e)))

  pub counted : (cells : List Cell) × AreCellsOf box cells × (length cells ≡ cell_count box)
  counted = (
    block low long width depth,
    record { rising = block_rises low long width depth; each = all_hold; all = none_else },
    block_length low long width depth,
  )
