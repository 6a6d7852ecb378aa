-- The buckets of boxes are listed by rising cell: there is one such list.
use Rattle.std.proofs.Common.{◌≡◌, ℕ, zero, suc, ◌+◌, ◌<◌, ◌≤◌, ℤ, pos, negsuc, ◌+ℤ◌, ◌-ℤ◌, ◌≤ℤ◌, int_le, Bool, true, ◌&&◌, leb, List, [], ◌∷◌, length, get_or, map, filter, unsigned_abs, refl, sym, ap, ap₂, subst, arith, ◌∙◌}
use Rattle.std.specs.List.{All, Any, AllPairs, Contains, flat_map}
use Rattle.std.specs.declared.cmp.Ordering.TheVariants.{Less, Greater}
use Rattle.std.proofs.lemmas.Int.{ints}
use Rattle.std.proofs.lemmas.Bool.{and_parts, and_from, le-leb, leb-true}
use Rattle.std.proofs.lemmas.List.{get_or-map, length-map}
use Rattle.std.proofs.lemmas.List.Elements.{All-nil, All-cons, All-filter, All-weaker, All-map, All-contains, filter_passes}
use borrow.Author.Differences.{up}
use Rattle.bim_model.specs.declared.geometry.TheConstants.{GRID_LIMIT}
use Rattle.bim_model.specs.declared.geometry.Extent.{Extent}
use Rattle.box_lanes.specs.BoxPlaces.{box_at}
use Rattle.bucket_grid.specs.declared.cell.Cell.{Cell}
use Rattle.bucket_grid.specs.declared.cell.TheConstants.{GROWTH}
use Rattle.bucket_grid.specs.declared.bucket_table.Bucket.{Bucket}
use Rattle.bucket_grid.specs.Cells.{cell_of, first_cell, last_cell, span, is_in, holds, members, cell_cmp, IsBucket}
use Rattle.bucket_grid.specs.BucketTable.{upto, IsTable}
use Rattle.bucket_grid.specs.ElementPlaces.{IsGridBox}
use Rattle.bucket_grid.proofs.Owners.{cell_of_rises, same_cell}
use Rattle.bucket_grid.proofs.Parts.{flat_all, flat_any, flat_pairs, all_upto}
use Rattle.bucket_grid.proofs.Searching.{turned_back}
use Rattle.bucket_grid.proofs.Tables.{less_x, less_y, less_z, further, along, above, tested, members_upto}
use Rattle.bucket_check.proofs.Lists.{Lists, lists_filter, lists_one}
use Rattle.book_history.specs.Buckets.{cell_on, cube, cells_of_grid, buckets_among}

abbrev pub Below : Cell → Cell → Type 0
Below c d = cell_cmp c d ≡ Less

-- no cell is below one that is below it
pub once : (c d : Cell) → Below c d → Below d c → ⊥
once c d h k = differ (sym (turned_back c d h) ∙ k)
  where
    differ : Greater ≡ Less → ⊥
    differ e = cc

one : (P : Cell → Type 0) (c : Cell) → P c → All P (c ∷ [])
one P c h = All-cons P c [] h (All-nil P)

alone : (c : Cell) → AllPairs Below (c ∷ [])
alone c = λ i j d below within. absurd (omega (arith, below, within))

-- ---- the cells of a cube rise
module _ (low : ℤ) (count : ℕ) where
  abbrev row : ℕ → ℕ → List Cell
  row i j = flat_map (λ k. cell_on low i j k ∷ []) (upto count)

  abbrev sheet : ℕ → List Cell
  sheet i = flat_map (λ j. row i j) (upto count)

  abbrev InRow : ℕ → ℕ → Cell → Type 0
  InRow i j c = (c.x ≡ low +ℤ pos i) × (c.y ≡ low +ℤ pos j)

  abbrev InSheet : ℕ → Cell → Type 0
  InSheet i c = c.x ≡ low +ℤ pos i

  in_row : (i j : ℕ) → All (InRow i j) (row i j)
  in_row i j = flat_all (InRow i j) (λ k. cell_on low i j k ∷ []) count (λ k lt. one (InRow i j) (cell_on low i j k) (refl, refl))

  in_sheet : (i : ℕ) → All (InSheet i) (sheet i)
  in_sheet i = flat_all (InSheet i) (λ j. row i j) count (λ j lt. All-weaker (InRow i j) (InSheet i) (λ c h. h.0) (row i j) (in_row i j))

  row_rises : (i j : ℕ) → AllPairs Below (row i j)
  row_rises i j =
      flat_pairs Below (λ k c. c ≡ cell_on low i j k) (λ k. cell_on low i j k ∷ []) count
      (λ k l c d lt e f.
      less_z c.x d.x c.y d.y c.z d.z (along (low +ℤ pos i) _ _ (ap (λ (t : Cell). t.x) e) (ap (λ (t : Cell). t.x) f)) (along (low +ℤ pos j) _ _ (ap (λ (t : Cell). t.y) e) (ap (λ (t : Cell). t.y) f))
      (further low c.z d.z k l lt (ap (λ (t : Cell). t.z) e) (ap (λ (t : Cell). t.z) f)))
      (λ k. one (λ c. c ≡ cell_on low i j k) (cell_on low i j k) refl)
      (λ k lt. alone (cell_on low i j k))

  sheet_rises : (i : ℕ) → AllPairs Below (sheet i)
  sheet_rises i =
      flat_pairs Below (λ j c. InRow i j c) (λ j. row i j) count
      (λ j k c d lt e f. less_y c.x d.x c.y d.y c.z d.z (along (low +ℤ pos i) _ _ e.0 f.0) (further low c.y d.y j k lt e.1 f.1))
      (λ j. in_row i j)
      (λ j lt. row_rises i j)

  pub cube_rises : AllPairs Below (cube low count)
  unfolding cube
  cube_rises =
      flat_pairs Below (λ i c. InSheet i c) (λ i. sheet i) count
      (λ i k c d lt e f. less_x c.x d.x c.y d.y c.z d.z (further low c.x d.x i k lt e f))
      (λ i. in_sheet i)
      (λ i lt. sheet_rises i)

  -- a cell whose numbers lie so far on is one of them
  pub in_cube : (c : Cell) (i j k : ℕ) → i < count → j < count → k < count → c.x ≡ low +ℤ pos i → c.y ≡ low +ℤ pos j → c.z ≡ low +ℤ pos k → Any (λ d. d ≡ c) (cube low count)
  unfolding cube
  in_cube c i j k a b d e f g =
      let is : cell_on low i j k ≡ c = same_cell _ _ (sym e) (sym f) (sym g) in
      flat_any (λ d. d ≡ c) (λ m. sheet m) count i a
      (flat_any (λ d. d ≡ c) (λ m. row i m) count j b
      (flat_any (λ d. d ≡ c) (λ m. cell_on low i j m ∷ []) count k d
      (0, cell_on low i j k, omega arith, refl, is)))

contained : (c : Cell) (cells : List Cell) → Any (λ d. d ≡ c) cells → Contains cells c
contained c cells h = (h.0, h.2, subst (λ d. get_or cells h.0 d ≡ d) h.4 h.3)

-- ---- a box of the grid is held by cells of the cube alone
upper : (f l i d : ℤ) (k : ℕ) → (l -ℤ f) ≡ d → i ≡ f +ℤ pos k → i ≤ℤ l → k < up d + 1
upper f l i (pos n) k e g h = omega (arith, ints)
upper f l i (negsuc n) k e g h = absurd (omega (arith, ints))

low_in : (low : ℤ) → unsigned_abs low ≤ 8000000 → (pos 0 -ℤ pos 8000000 -ℤ pos 10000) ≤ℤ (low -ℤ pos 10000)
low_in low h = omega (arith, ints)

high_in : (high : ℤ) → unsigned_abs high ≤ 8000000 → (high +ℤ pos 10000) ≤ℤ (pos 8000000 +ℤ pos 10000)
high_in high h = omega (arith, ints)

chain : (a b c : ℤ) → a ≤ℤ b → b ≤ℤ c → a ≤ℤ c
chain a b c h k = omega (arith, ints)

on_axis : (f l low high i : ℤ) → f ≤ℤ first_cell low → last_cell high ≤ℤ l → is_in low high i ≡ true → (k : ℕ) × (k < up (l -ℤ f) + 1) × (i ≡ f +ℤ pos k)
on_axis f l low high i a b h =
    let p = and_parts (int_le (first_cell low) i) (int_le i (last_cell high)) h in
    let from = chain f (first_cell low) i a (tested (first_cell low) i p.0) in
    let to = chain i (last_cell high) l (tested i (last_cell high) p.1) b in
    let k = above f i (i -ℤ f) refl from in
    (k.0, upper f l i (l -ℤ f) k.0 refl k.1 to, k.1)

held : (c : Cell) (box : Extent) → IsGridBox box → holds c box ≡ true → Contains cells_of_grid c
held c box g h =
    let p = and_parts (is_in box.low.x box.high.x c.x && is_in box.low.y box.high.y c.y) (is_in box.low.z box.high.z c.z) h in
    let q = and_parts (is_in box.low.x box.high.x c.x) (is_in box.low.y box.high.y c.y) p.0 in
    let f = first_cell (pos 0 -ℤ GRID_LIMIT) in
    let l = last_cell GRID_LIMIT in
    let low : (n : ℤ) → unsigned_abs n ≤ 8000000 → f ≤ℤ first_cell n = λ n le. cell_of_rises (pos 0 -ℤ GRID_LIMIT -ℤ GROWTH) (n -ℤ GROWTH) (low_in n le) in
    let high : (n : ℤ) → unsigned_abs n ≤ 8000000 → last_cell n ≤ℤ l = λ n le. cell_of_rises (n +ℤ GROWTH) (GRID_LIMIT +ℤ GROWTH) (high_in n le) in
    let i = on_axis f l box.low.x box.high.x c.x (low box.low.x g.low.x_in) (high box.high.x g.high.x_in) q.0 in
    let j = on_axis f l box.low.y box.high.y c.y (low box.low.y g.low.y_in) (high box.high.y g.high.y_in) q.1 in
    let k = on_axis f l box.low.z box.high.z c.z (low box.low.z g.low.z_in) (high box.high.z g.high.z_in) p.1 in
    contained c cells_of_grid (in_cube f (span (pos 0 -ℤ GRID_LIMIT) GRID_LIMIT) c i.0 j.0 k.0 i.1 j.1 k.1 i.2 j.2 k.2)

-- a cell with members has one
member : (boxes : List Extent) (c : Cell) → 2 ≤ length (members boxes c) → (n : ℕ) × (n < length boxes) × (holds c (box_at boxes n) ≡ true)
member boxes c h =
    let p : ℕ → Bool = λ i. holds c (box_at boxes i) in
    let l = filter p (upto (length boxes)) in
    let some : 0 < length l = omega (arith, ap length (members_upto boxes c)) in
    (get_or l 0 0, All-filter p (λ i. i < length boxes) (upto (length boxes)) (all_upto (λ i. i < length boxes) (length boxes) (λ i lt. lt)) 0 0 some, filter_passes p (upto (length boxes)) 0 0 some)

bucket_held : (boxes : List Extent) (c : Cell) → All IsGridBox boxes → IsBucket boxes c → Contains cells_of_grid c
bucket_held boxes c near h = let m = member boxes c h in held c (box_at boxes m.0) (near m.0 _ m.1) m.2

lists_same : {X : Type 0} (R : X → X → Type 0) (P Q : X → Type 0) (xs : List X) → ((x : X) → P x → Q x) → ((x : X) → Q x → P x) → Lists R P xs → Lists R Q xs
lists_same R P Q xs f g l = record { rising = l.rising; each = λ x c. f x (l.each x c); all = λ x q. l.all x (g x q) }

-- the buckets of boxes of the grid are listed
pub buckets_listed : (boxes : List Extent) → All IsGridBox boxes → Lists Below (IsBucket boxes) (buckets_among boxes)
buckets_listed boxes near =
    let all : Lists Below (Contains cells_of_grid) cells_of_grid = record { rising = cube_rises _ _; each = λ c h. h; all = λ c h. h } in
    let test : Cell → Bool = λ c. leb 2 (length (members boxes c)) in
    lists_same Below (λ c. Contains cells_of_grid c × (test c ≡ true)) (IsBucket boxes) (filter test cells_of_grid)
    (λ c h. leb-true 2 (length (members boxes c)) h.1)
    (λ c h. (bucket_held boxes c near h, le-leb 2 (length (members boxes c)) h))
    (lists_filter Below (Contains cells_of_grid) test cells_of_grid all)

-- cells that rise and are exactly the buckets are their list
pub buckets_one : (boxes : List Extent) (cells : List Cell) → All IsGridBox boxes → Lists Below (IsBucket boxes) cells → cells ≡ buckets_among boxes
buckets_one boxes cells near l = lists_one Below once (IsBucket boxes) cells (buckets_among boxes) l (buckets_listed boxes near)

abbrev cells_in : List Bucket → List Cell
cells_in buckets = map (λ (b : Bucket). b.cell) buckets

mapped_rise : (buckets : List Bucket) → AllPairs (λ (b c : Bucket). cell_cmp b.cell c.cell ≡ Less) buckets → AllPairs Below (cells_in buckets)
mapped_rise buckets rise i j d below within =
    let n = length-map buckets (λ (b : Bucket). b.cell) in
    let e : Bucket = record { cell = d; members = [] } in
    let at : (k : ℕ) → k < length buckets → get_or (cells_in buckets) k d ≡ (get_or buckets k e).cell = λ k lt. get_or-map (λ (b : Bucket). b.cell) buckets k e d lt in
    ap₂ cell_cmp (at i (omega (arith, n, below, within))) (at j (omega (arith, n, within))) ∙ rise i j e below (omega (arith, n, within))

any_mapped : (buckets : List Bucket) (c : Cell) → Any (λ (b : Bucket). b.cell ≡ c) buckets → Contains (cells_in buckets) c
any_mapped buckets c h = (h.0, omega (arith, h.2, length-map buckets (λ (b : Bucket). b.cell)), get_or-map (λ (b : Bucket). b.cell) buckets h.0 h.1 c h.2 ∙ ap (λ (b : Bucket). b.cell) h.3 ∙ h.4)

-- the cells of a table of buckets are their list
pub table_cells : (boxes : List Extent) (buckets : List Bucket) → All IsGridBox boxes → IsTable boxes buckets → cells_in buckets ≡ buckets_among boxes
table_cells boxes buckets near t =
    buckets_one boxes (cells_in buckets) near (record {
      rising = mapped_rise buckets t.rising;
      each = λ c h. All-contains (IsBucket boxes) (cells_in buckets) c (All-map (IsBucket boxes) (λ (b : Bucket). b.cell) buckets t.only) h;
      all = λ c h. any_mapped buckets c (t.all c h);
    })
