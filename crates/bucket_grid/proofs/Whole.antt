-- The table of all boxes.
use Rattle.std.proofs.Common.{◌≡◌, ℕ, ◌<◌, ◌≤◌, ℤ, List, length, All, sym, subst, arith}
use Rattle.bim_model.specs.declared.geometry.Extent.{Extent}
use Rattle.bucket_grid.specs.declared.cell.Cell.{Cell}
use Rattle.bucket_grid.specs.declared.cell.TheConstants.{MOST_CELLS}
use Rattle.bucket_grid.specs.declared.lists.Span.{Span}
use Rattle.bucket_grid.specs.declared.bucket_table.Bucket.{Bucket}
use Rattle.bucket_grid.specs.Cells.{first_cell, last_cell}
use Rattle.box_lanes.specs.BoxPlaces.{box_at}
use Rattle.bucket_grid.specs.Dealt.{span_at, IsSpan, IsAmong}
use Rattle.bucket_grid.specs.BucketTable.{upto, table, AreSpans, IsTable}
use Rattle.bucket_grid.proofs.Parts.{all_upto}
use Rattle.bucket_grid.proofs.Tables.{table_is}

pub among_all : (spans : List Span) (ns : List ℕ) (count n : ℕ) → ns ≡ upto n → length spans ≡ n → count ≤ MOST_CELLS → All (IsSpan count) spans → IsAmong spans ns count
among_all spans ns count n e l few h = record {
  few = omega (arith, few);
  places = subst (All (λ i. i < length spans)) (sym e) (all_upto (λ i. i < length spans) n (λ i lt. omega (arith, lt, l)));
  spans_below = h;
}

last_below : (spans : List Span) (count n : ℕ) → length spans ≡ n → All (IsSpan count) spans → (i : ℕ) → i < n → (span_at spans i).last < count
last_below spans count n l h i lt = (h i (record { first = 0; last = 0 }) (omega (arith, l, lt))).ends

pub whole : (boxes : List Extent) (xs ys zs : List Span) (low : Cell) (lx ly lz : ℤ) (long width depth : ℕ) (ns : List ℕ) (made : List Bucket) → low.x ≡ lx → low.y ≡ ly → low.z ≡ lz
    → AreSpans lx (λ n. first_cell (box_at boxes n).low.x) (λ n. last_cell (box_at boxes n).high.x) (length boxes) xs
    → AreSpans ly (λ n. first_cell (box_at boxes n).low.y) (λ n. last_cell (box_at boxes n).high.y) (length boxes) ys
    → AreSpans lz (λ n. first_cell (box_at boxes n).low.z) (λ n. last_cell (box_at boxes n).high.z) (length boxes) zs
    → All (IsSpan long) xs → All (IsSpan width) ys → All (IsSpan depth) zs
    → ns ≡ upto (length boxes) → made ≡ table xs ys zs low long width depth ns → IsTable boxes made
whole boxes xs ys zs low lx ly lz long width depth ns made ex ey ez x y z sx sy sz e m =
    subst (IsTable boxes) (sym m) (subst (λ (l : List ℕ). IsTable boxes (table xs ys zs low long width depth l)) (sym e)
    (table_is boxes xs ys zs low long width depth
    (subst (λ l. AreSpans l (λ n. first_cell (box_at boxes n).low.x) (λ n. last_cell (box_at boxes n).high.x) (length boxes) xs) (sym ex) x)
    (subst (λ l. AreSpans l (λ n. first_cell (box_at boxes n).low.y) (λ n. last_cell (box_at boxes n).high.y) (length boxes) ys) (sym ey) y)
    (subst (λ l. AreSpans l (λ n. first_cell (box_at boxes n).low.z) (λ n. last_cell (box_at boxes n).high.z) (length boxes) zs) (sym ez) z)
    (last_below xs long (length boxes) x.length_is sx) (last_below ys width (length boxes) y.length_is sy) (last_below zs depth (length boxes) z.length_is sz)))
