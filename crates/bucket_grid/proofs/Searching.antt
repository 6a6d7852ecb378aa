-- A search by halves among buckets that rise.
use Rattle.std.proofs.Common.{◌≡◌, ℕ, ◌+◌, ◌<◌, ◌≤◌, ◌⊎◌, inl, inr, ℤ, List, length, get_or, refl, sym, ap, arith, ◌∙◌}
use Rattle.std.specs.Ordering.{int_cmp, ordering_then, ordering_reverse}
use Rattle.std.specs.Cmp.{IsTotalOrder}
use Rattle.std.proofs.lemmas.Cmp.{int_cmp_total, on_total, then_total}
use Rattle.std.specs.declared.cmp.Ordering.{Ordering}
use Rattle.std.specs.declared.cmp.Ordering.TheVariants.{Less, Equal, Greater}
use Rattle.std.proofs.lemmas.Int.{ints}
use Rattle.std.proofs.lemmas.Bool.{cases_eq}
use Rattle.std.proofs.lemmas.List.{get_or_default}
use Rattle.bucket_grid.specs.declared.cell.Cell.{Cell}
use Rattle.bucket_grid.specs.declared.bucket_table.Bucket.{Bucket}
use Rattle.bucket_grid.specs.Cells.{cell_cmp}
use Rattle.bucket_grid.specs.Search.{Rise, Between}

cells_total : IsTotalOrder cell_cmp
cells_total = then_total (on_total (λ (c : Cell). c.x) int_cmp_total) (then_total (on_total (λ (c : Cell). c.y) int_cmp_total) (on_total (λ (c : Cell). c.z) int_cmp_total))

reverse_greater : (o : Ordering) → Greater ≡ ordering_reverse o → o ≡ Less
reverse_greater Less e = refl
reverse_greater Equal e = cc
reverse_greater Greater e = cc

turned : (a b : Cell) → cell_cmp a b ≡ Greater → cell_cmp b a ≡ Less
turned a b e = reverse_greater (cell_cmp b a) (sym e ∙ cells_total.antisymm a b)

pub turned_back : (a b : Cell) → cell_cmp a b ≡ Less → cell_cmp b a ≡ Greater
turned_back a b e = cells_total.antisymm b a ∙ ap ordering_reverse e

both_equal : (o p : Ordering) → ordering_then o p ≡ Equal → (o ≡ Equal) × (p ≡ Equal)
both_equal Less p e = cc
both_equal Equal p e = (refl, e)
both_equal Greater p e = cc

equal_int : (a b : ℤ) → int_cmp a b ≡ Equal → a ≡ b
equal_int a b e = grind (arith, ints)

abbrev cell : ℤ → ℤ → ℤ → Cell
cell x y z = record { x = x; y = y; z = z }

pub equal_cells : (a b : Cell) → cell_cmp a b ≡ Equal → a ≡ b
equal_cells a b e =
    let p = both_equal (int_cmp a.x b.x) (ordering_then (int_cmp a.y b.y) (int_cmp a.z b.z)) e in
    let q = both_equal (int_cmp a.y b.y) (int_cmp a.z b.z) p.1 in
    ap (λ t. cell t a.y a.z) (equal_int a.x b.x p.0) ∙ ap (λ t. cell b.x t a.z) (equal_int a.y b.y q.0) ∙ ap (λ t. cell b.x b.y t) (equal_int a.z b.z q.1)

module _ (buckets : List Bucket) (c : Cell) (rise : Rise buckets) where
  at : (m k : ℕ) (b d : Bucket) (o : Ordering) → m < length buckets → b ≡ get_or buckets m b → k ≡ m → cell_cmp b.cell c ≡ o → cell_cmp (get_or buckets k d).cell c ≡ o
  at m k b d o h e f g = ap (λ n. cell_cmp (get_or buckets n d).cell c) f ∙ ap (λ (t : Bucket). cell_cmp t.cell c) (get_or_default buckets m d b h ∙ sym e) ∙ g

  lower : (m k : ℕ) (b d : Bucket) → m < length buckets → b ≡ get_or buckets m b → k < m + 1 → cell_cmp b.cell c ≡ Less → (k ≡ m) ⊎ (k ≡ m → ⊥) → cell_cmp (get_or buckets k d).cell c ≡ Less
  lower m k b d h e l g (inl f) = at m k b d Less h e f g
  lower m k b d h e l g (inr ne) = cells_total.trans (get_or buckets k d).cell (get_or buckets m d).cell c (rise k m d (omega (arith, l, ne)) h) (at m m b d Less h e refl g)

  upper : (m k : ℕ) (b d : Bucket) → b ≡ get_or buckets m b → m ≤ k → k < length buckets → cell_cmp b.cell c ≡ Greater → (k ≡ m) ⊎ (k ≡ m → ⊥) → cell_cmp (get_or buckets k d).cell c ≡ Greater
  upper m k b d e l h g (inl f) = at m k b d Greater (omega (arith, f, h)) e f g
  upper m k b d e l h g (inr ne) =
      turned_back c (get_or buckets k d).cell (cells_total.trans c (get_or buckets m d).cell (get_or buckets k d).cell (turned (get_or buckets m d).cell c (at m m b d Greater (omega (arith, l, h)) e refl g)) (rise m k d (omega (arith, l, ne)) h))

  pub go_up : (low high m : ℕ) (b : Bucket) → Between buckets c low high → low ≤ m → m < high → b ≡ get_or buckets m b → cell_cmp b.cell c ≡ Less → Between buckets c (m + 1) high
  go_up low high m b t l h e g = record { ends = t.ends; order = omega (arith, h); below = λ k d lt. lower m k b d (omega (arith, h, t.ends)) e lt g (cases_eq k m); above = t.above }

  pub go_down : (low high m : ℕ) (b : Bucket) → Between buckets c low high → low ≤ m → m < high → b ≡ get_or buckets m b → cell_cmp b.cell c ≡ Greater → Between buckets c low m
  go_down low high m b t l h e g = record { ends = omega (arith, h, t.ends); order = l; below = t.below; above = λ k d le lt. upper m k b d e le lt g (cases_eq k m) }
