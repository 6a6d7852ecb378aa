use Rattle.std.proofs.Common.{◌≡◌, true, false, sym, ap, subst, ◌∙◌}
use Rattle.std.proofs.lemmas.Bool.{false≢true}
use Rattle.bim_model.specs.Snapshots.{Version}
use Rattle.bucket_grid.specs.Cells.{IsBucket}
use Rattle.bucket_grid.specs.Grids.{GridValue}
use Rattle.book_history.specs.Buckets.{buckets_of, is_among}
use Rattle.book_history.specs.Requests.{order_at}
use Rattle.book_history.specs.Versions.{VersionState}
use Rattle.book_history.proofs.OneGrid.{HasParts}
use Rattle.federation_book.proofs.Carrying.{bucket_from, among_of, among_none}
use Rattle.federation_book.proofs.version.KeptVersion.order_at.Goals as goal

pub returns-then-not-is_bucket : goal.returns-then-not-is_bucket
returns-then-not-is_bucket c =
    let v = c.self.inside in
    let h = subst HasParts c.get.ensures c.know_grid.ensures in
    subst (λ (x : Version). is_among (buckets_of x) c.args.cell ≡ false)
    (c.self.invariant.0 ∙ ap (λ (w : VersionState). w.content) c.self.view_is)
    (among_none v.grid h v.progress c.self.invariant.1 c.args.cell
    (λ b. false≢true (sym c.if-not-is_bucket.true ∙ c.is_bucket.ensures.1 b)))

pub of-requires : goal.of-requires
of-requires c =
    let v = c.self.inside in
    let h = subst HasParts c.get.ensures c.know_grid.ensures in
    subst (λ (g : GridValue). IsBucket g.boxes c.args.cell) (sym c.in_ok-share.ensures)
    (bucket_from v.grid h v.progress c.self.invariant.1 c.args.cell (c.is_bucket.ensures.0 c.if-not-is_bucket.false))

pub returns : goal.returns
returns c =
    let v = c.self.inside in
    let h = subst HasParts c.get.ensures c.know_grid.ensures in
    let content = c.self.invariant.0 ∙ ap (λ (w : VersionState). w.content) c.self.view_is in (
      subst (λ (x : Version). is_among (buckets_of x) c.args.cell ≡ true) content
          (among_of v.grid h v.progress c.self.invariant.1 c.args.cell (c.is_bucket.ensures.0 c.if-not-is_bucket.false)),
      c.of.ensures
          ∙ ap (λ (x : Version). order_at c.args.project c.args.version x c.args.cell)
          (ap (λ (g : GridValue). g.version) c.in_ok-share.ensures ∙ content),
    )
