use Rattle.std.proofs.Common.{◌↔◌, subst, ap, ◌∙◌}
use Rattle.bucket_grid.specs.declared.cell.Cell.{Cell}
use Rattle.bucket_grid.specs.Grids.{GridValue}
use Rattle.clash_delta.specs.BucketProgress.{IsDone}
use Rattle.clash_delta.specs.Carried.{IsCarried}
use Rattle.book_history.specs.Versions.{VersionState, made_after}
use Rattle.book_history.proofs.OneGrid.{HasParts}
use Rattle.federation_book.proofs.Carrying.{made_is}
use Rattle.federation_book.proofs.version.KeptVersion.next.Goals as goal

pub returns : goal.returns
returns c =
    let v = c.self.inside in
    let after = c.in_ok-grid.grid in
    let made = c.in_ok-progress.progress in
    let h = subst HasParts c.get.ensures c.know_grid.ensures in
    let k = subst HasParts c.get-2.ensures c.know_grid-2.ensures in
    let carried = subst (λ (g : GridValue). (cell : Cell) → IsDone made cell ↔ IsCarried v.progress g after cell) c.get-3.ensures c.in_ok-progress.ensures.done in
    let holds = ap (λ (g : GridValue). g.version) c.in_ok-grid.ensures ∙ c.requires in
    made_is v.grid after h k v.progress made c.self.invariant.1 c.in_ok-progress.ensures.of carried v.snapshot c.args.snapshot c.self.invariant.0 holds
    ∙ ap (λ (w : VersionState). made_after w c.args.snapshot) c.self.view_is
