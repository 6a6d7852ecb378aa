-- The table of buckets: the cells with two members or more, in their order, found by x, then y, then z.
use Rattle.std.specs.Prelude.{◌≡◌, ℕ, zero, suc, ◌<◌, ◌≤◌, nat_le, cond, ℤ, pos, ◌+ℤ◌, unsigned_abs, List, [], ◌∷◌, ◌++◌, length, filter, All, AllPairs, Any}
use Rattle.std.specs.List.{flat_map}
use Rattle.std.specs.declared.cmp.Ordering.TheVariants.{Less}
use Rattle.bim_model.specs.declared.geometry.Extent.{Extent}
use Rattle.bucket_grid.specs.declared.cell.Cell.{Cell}
use Rattle.bucket_grid.specs.declared.cell.TheConstants.{FARTHEST_CELL}
use Rattle.bucket_grid.specs.declared.lists.Span.{Span}
use Rattle.bucket_grid.specs.declared.bucket_table.Bucket.{Bucket}
use Rattle.bucket_grid.specs.Cells.{cell_cmp, members, IsBucket}
use Rattle.bucket_grid.specs.Dealt.{covers, span_at}

-- 0, 1, .. below n
abbrev pub upto : ℕ → List ℕ
upto zero = []
upto (suc n) = upto n ++ n ∷ []

-- the numbers whose span covers k
abbrev pub among : List Span → ℕ → List ℕ → List ℕ
among spans k numbers = filter (λ n. covers k (span_at spans n)) numbers

-- the cell with these members, where they are two or more
abbrev pub if_bucket : Cell → List ℕ → List Bucket
if_bucket cell numbers = cond (nat_le 2 (length numbers)) (record { cell = cell; members = numbers } ∷ []) []

-- the cell so many places on along x
abbrev pub with_x : Cell → ℕ → Cell
with_x low k = record { x = low.x +ℤ pos k; y = low.y; z = low.z }

-- .. along y
abbrev pub with_y : Cell → ℕ → Cell
with_y low k = record { x = low.x; y = low.y +ℤ pos k; z = low.z }

-- .. along z
abbrev pub with_z : Cell → ℕ → Cell
with_z low k = record { x = low.x; y = low.y; z = low.z +ℤ pos k }

-- the buckets among so many cells along z
abbrev pub column : List Span → Cell → ℕ → List ℕ → List Bucket
column zs low depth numbers = flat_map (λ k. if_bucket (with_z low k) (among zs k numbers)) (upto depth)

-- .. among so many columns along y
abbrev pub slab : List Span → List Span → Cell → ℕ → ℕ → List ℕ → List Bucket
slab ys zs low width depth numbers =
    flat_map (λ k. column zs (with_y low k) depth (among ys k numbers)) (upto width)

-- .. among so many slabs along x
abbrev pub table : List Span → List Span → List Span → Cell → ℕ → ℕ → ℕ → List ℕ → List Bucket
table xs ys zs low long width depth numbers =
    flat_map (λ k. slab ys zs (with_x low k) width depth (among xs k numbers)) (upto long)

-- a cell's number on an axis, from which others are counted
abbrev pub IsLow : ℤ → Type 0
IsLow low = unsigned_abs low ≤ unsigned_abs FARTHEST_CELL

-- the spans of all boxes on an axis, counted from low
pub record AreSpans (low : ℤ) (first last : ℕ → ℤ) (count : ℕ) (spans : List Span) : Type 0 where
  pub length_is : length spans ≡ count
  pub first_is : (i : ℕ) → i < count → low +ℤ pos (span_at spans i).first ≡ first i
  pub last_is : (i : ℕ) → i < count → low +ℤ pos (span_at spans i).last ≡ last i

-- the buckets of the boxes: the cells with two members or more, in their order, with their members
pub record IsTable (boxes : List Extent) (buckets : List Bucket) : Type 0 where
  pub rising : AllPairs (λ (b c : Bucket). cell_cmp b.cell c.cell ≡ Less) buckets
  pub each : All (λ (b : Bucket). b.members ≡ members boxes b.cell) buckets
  pub only : All (λ (b : Bucket). IsBucket boxes b.cell) buckets
  pub all : (c : Cell) → IsBucket boxes c → Any (λ (b : Bucket). b.cell ≡ c) buckets
