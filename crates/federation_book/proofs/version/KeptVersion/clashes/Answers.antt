use Rattle.std.proofs.Common.{subst, sym}
use Rattle.bucket_grid.specs.Grids.{GridValue}
use Rattle.clash_publish.specs.Merged.{AreSetsOf}
use Rattle.federation_book.proofs.version.KeptVersion.clashes.Goals as goal

pub of-requires : goal.of-requires
of-requires c =
    let g = c.self.inside.grid in
    subst (λ (x : GridValue). AreSetsOf x c.deref.result.now) (sym c.in_ok-share.ensures)
    (subst (AreSetsOf g) (sym c.deref.ensures.value) (c.in_ok-sets.ensures.right g c.self.invariant.1))
