-- The buckets of a grid are those of its version.
use Rattle.std.proofs.Common.{◌≡◌, ◌<◌, zero, suc, ℕ, Bool, true, false, ◌||◌, List, [], ◌∷◌, length, get_or, refl, ap, subst, arith}
use Rattle.std.specs.List.{Contains}
use Rattle.bucket_grid.specs.declared.cell.Cell.{Cell}
use Rattle.bucket_grid.specs.Cells.{IsBucket}
use Rattle.bucket_grid.specs.Grids.{GridValue}
use Rattle.bucket_check.specs.Clashes.{is_cell}
use Rattle.bucket_check.proofs.Merged.{same_cell}
use Rattle.book_history.specs.VersionBoxes.{boxes_of}
use Rattle.book_history.specs.Buckets.{buckets_of, buckets_among, is_among}
use Rattle.book_history.proofs.OneGrid.{HasParts}
use Rattle.book_history.proofs.Least.{boxes_are}
use Rattle.book_history.proofs.Listing.{buckets_listed}

pub or_true : (b rest : Bool) → rest ≡ true → (b || rest) ≡ true
or_true true rest e = refl
or_true false rest e = e

among_at : (x : Cell) (xs : List Cell) (c : Cell) (k : ℕ) → k < length (x ∷ xs) → get_or (x ∷ xs) k c ≡ c → (Contains xs c → is_among xs c ≡ true) → is_among (x ∷ xs) c ≡ true
among_at x xs c zero lt e rest = ap (λ t. t || is_among xs c) (subst (λ d. is_cell x d ≡ true) e (same_cell x))
among_at x xs c (suc k) lt e rest = or_true (is_cell x c) (is_among xs c) (rest (k, omega (arith, lt), e))

pub contains_among : (cells : List Cell) (c : Cell) → Contains cells c → is_among cells c ≡ true
contains_among [] c h = absurd (omega (arith, h.1))
contains_among (x ∷ xs) c h = among_at x xs c h.0 h.1 h.2 (λ r. contains_among xs c r)

pub grid_boxes : (g : GridValue) → HasParts g → g.boxes ≡ boxes_of g.version
grid_boxes g h = boxes_are g.version g.boxes h.boxed

pub bucket_among : (g : GridValue) → HasParts g → (c : Cell) → IsBucket g.boxes c → is_among (buckets_of g.version) c ≡ true
bucket_among g h c b = contains_among (buckets_of g.version) c (subst (λ xs. Contains (buckets_among xs) c) (grid_boxes g h) ((buckets_listed g.boxes h.near).all c b))
