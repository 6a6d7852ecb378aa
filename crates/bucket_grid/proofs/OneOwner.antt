-- A version has one number of memberships, and two boxes have one owner.
use Rattle.std.proofs.Common.{◌≡◌, ℕ, ap, sym, ◌∙◌, refl}
use Rattle.std.specs.declared.cmp.Ordering.{Ordering}
use Rattle.std.specs.declared.cmp.Ordering.TheVariants.{Less, Equal, Greater}
use Rattle.bim_model.specs.declared.geometry.Extent.{Extent}
use Rattle.bim_model.specs.Snapshots.{Version}
use Rattle.bim_model.specs.Keys.{subjects_of}
use Rattle.bim_model.proofs.Unique.{extent_same}
use Rattle.bim_model.proofs.Zips.{zip_same}
use Rattle.bucket_grid.specs.declared.cell.Cell.{Cell}
use Rattle.bucket_grid.specs.Cells.{memberships, cell_cmp, IsOwner}
use Rattle.bucket_grid.specs.Subjects.{IsBoxOf}
use Rattle.bucket_grid.specs.Grids.{HasMemberships}
use Rattle.bucket_grid.proofs.Searching.{turned_back, equal_cells}

pub one_number : (version : Version) (m n : ℕ) → HasMemberships version m → HasMemberships version n → m ≡ n
one_number version m n h k =
    h.counted ∙ ap memberships (zip_same IsBoxOf (λ s x y p q. extent_same s.element.triangles x y p q) (subjects_of version.models) h.boxes k.boxes h.boxed k.boxed) ∙ sym k.counted

compared : (a b : Extent) (c d : Cell) → IsOwner c a b → IsOwner d a b → (o : Ordering) → cell_cmp c d ≡ o → c ≡ d
compared a b c d x y Less e = absurd (y.least c x.holds_a x.holds_b (turned_back c d e))
compared a b c d x y Equal e = equal_cells c d e
compared a b c d x y Greater e = absurd (x.least d y.holds_a y.holds_b e)

pub one_owner : (a b : Extent) (c d : Cell) → IsOwner c a b → IsOwner d a b → c ≡ d
one_owner a b c d x y = compared a b c d x y (cell_cmp c d) refl
