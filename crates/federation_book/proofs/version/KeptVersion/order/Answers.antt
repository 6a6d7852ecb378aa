use Rattle.std.proofs.Common.{subst, sym}
use Rattle.bucket_grid.specs.Cells.{IsBucket}
use Rattle.bucket_grid.specs.Grids.{GridValue}
use Rattle.book_history.proofs.OneGrid.{HasParts}
use Rattle.federation_book.proofs.Carrying.{bucket_from}
use Rattle.federation_book.proofs.version.KeptVersion.order.Goals as goal

pub of-requires : goal.of-requires
of-requires c =
    let v = c.self.inside in
    let h = subst HasParts c.get.ensures c.know_grid.ensures in
    subst (λ (g : GridValue). IsBucket g.boxes c.in-Some.cell) (sym c.in_ok-share-in-Some.ensures)
    (bucket_from v.grid h v.progress c.self.invariant.1 c.in-Some.cell c.in-Some.ensures.bucket)
