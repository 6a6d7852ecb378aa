use Rattle.std.proofs.Common.{subst, ap, ◌∙◌}
use Rattle.book_history.specs.Versions.{VersionState, is_done}
use Rattle.book_history.proofs.OneGrid.{HasParts}
use Rattle.federation_book.proofs.Carrying.{done_is}
use Rattle.federation_book.proofs.version.KeptVersion.is_done.Goals as goal

pub returns : goal.returns
returns c =
    let v = c.self.inside in
    let h = subst HasParts c.get.ensures c.know_grid.ensures in
    done_is v.grid h v.progress c.self.invariant.1 v.snapshot c.self.invariant.0 c.args.cell c.is_done.result c.is_done.ensures
    ∙ ap (λ (w : VersionState). is_done w c.args.cell) c.self.view_is
