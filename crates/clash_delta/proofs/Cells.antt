-- Cells in their order.
use Rattle.std.proofs.Common.{◌≡◌, ℕ, ◌+◌, ◌<◌, ℤ, List, length, get_or, Bool, true, false, refl, sym, ap, subst, arith, ◌∙◌, true≢false, ◌⊎◌, inl, inr}
use Rattle.std.proofs.lemmas.Bool.{cases_eq}
use Rattle.std.proofs.lemmas.List.{get_or_default}
use Rattle.std.specs.Cmp.{IsTotalOrder}
use Rattle.std.specs.Ordering.{int_cmp, is_lt}
use Rattle.std.specs.declared.cmp.Ordering.{Ordering}
use Rattle.std.specs.declared.cmp.Ordering.TheVariants.{Less, Equal, Greater}
use Rattle.std.proofs.lemmas.Int.{ints}
use Rattle.std.proofs.lemmas.Cmp.{int_cmp_total, on_total, then_total}
use Rattle.bucket_grid.specs.declared.cell.Cell.{Cell}
use Rattle.bucket_grid.specs.declared.bucket_table.Bucket.{Bucket}
use Rattle.bucket_grid.specs.Cells.{cell_cmp}

pub cells_total : IsTotalOrder cell_cmp
cells_total = then_total (on_total (λ (c : Cell). c.x) int_cmp_total) (then_total (on_total (λ (c : Cell). c.y) int_cmp_total) (on_total (λ (c : Cell). c.z) int_cmp_total))

pub itself : (c : Cell) → cell_cmp c c ≡ Equal
itself c = grind (arith, ints)

-- no cell is less than itself
pub not_less : (c d : Cell) → c ≡ d → cell_cmp c d ≡ Less → ⊥
not_less c d e h = different (sym h ∙ ap (λ k. cell_cmp k d) e ∙ itself d)
  where
    different : Less ≡ Equal → ⊥
    different p = cc

pub lesser : (a b c : Cell) → cell_cmp a b ≡ Less → cell_cmp b c ≡ Less → cell_cmp a c ≡ Less
lesser a b c h k = cells_total.trans a b c h k

-- one more bucket of a lower cell
pub less_more : (buckets : List Bucket) (cell : Cell) (i : ℕ) (b : Bucket) → i < length buckets → b ≡ get_or buckets i b → cell_cmp b.cell cell ≡ Less
    → ((k : ℕ) (d : Bucket) → k < i → cell_cmp (get_or buckets k d).cell cell ≡ Less) → (k : ℕ) (d : Bucket) → k < i + 1 → cell_cmp (get_or buckets k d).cell cell ≡ Less
less_more buckets cell i b h e lower before k d lt = by (cases_eq k i)
  where
    by : (k ≡ i) ⊎ (k ≡ i → ⊥) → cell_cmp (get_or buckets k d).cell cell ≡ Less
    by (inl same) = ap (λ j. cell_cmp (get_or buckets j d).cell cell) same ∙ ap (λ (x : Bucket). cell_cmp x.cell cell) (get_or_default buckets i d b h ∙ sym e) ∙ lower
    by (inr ne) = before k d (omega (arith, lt, ne))
