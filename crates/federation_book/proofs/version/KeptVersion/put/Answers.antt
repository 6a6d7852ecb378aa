use Rattle.std.proofs.Common.{subst, sym, ap, ◌∙◌}
use Rattle.bucket_grid.specs.Cells.{IsBucket}
use Rattle.bucket_grid.specs.Grids.{GridValue}
use Rattle.bucket_check.specs.declared.bucket_work.BucketWork.{BucketWork}
use Rattle.bucket_check.specs.ClashSets.{SetValue}
use Rattle.clash_delta.specs.BucketProgress.{undone_cells}
use Rattle.book_history.specs.Versions.{VersionState, with_done}
use Rattle.book_history.proofs.OneGrid.{HasParts, one_grid}
use Rattle.federation_book.proofs.Slots.{filled_left}
use Rattle.federation_book.proofs.Carrying.{kept_as, bucket_of}
use Rattle.federation_book.proofs.version.KeptVersion.put.Goals as goal

pub put-answer-requires : goal.put-answer-requires
put-answer-requires c =
    let v = c.self.inside in
    let set = c.args.set in
    let h = subst HasParts c.get.ensures c.know_grid.ensures in
    let k = subst HasParts (c.get-3.ensures ∙ ap (λ (w : BucketWork). w.grid) (c.work.ensures ∙ ap (λ (s : SetValue). s.work) c.get-2.ensures)) c.know_grid-2.ensures in
    let one = one_grid set.work.grid v.grid k h (c.requires.content ∙ sym (ap (λ (w : VersionState). w.content) c.self.view_is) ∙ sym c.self.invariant.0) in
    record { bucket = bucket_of v.grid h v.progress c.self.invariant.1 set.work.cell (subst (λ (g : GridValue). IsBucket g.boxes set.work.cell) one c.requires.bucket) }

pub invariant_of-self : goal.invariant_of-self
invariant_of-self c =
    let v = c.self.inside in
    let set = c.args.set in
    let h = subst HasParts c.get.ensures c.know_grid.ensures in
    let k = subst HasParts (c.get-3.ensures ∙ ap (λ (w : BucketWork). w.grid) (c.work.ensures ∙ ap (λ (s : SetValue). s.work) c.get-2.ensures)) c.know_grid-2.ensures in
    let one = one_grid set.work.grid v.grid k h (c.requires.content ∙ sym (ap (λ (w : VersionState). w.content) c.self.view_is) ∙ sym c.self.invariant.0) in
    (c.self.invariant.0, c.put-answer.ensures.of v.grid c.self.invariant.1 one, c.self.invariant.2)

pub returns-clause-done : goal.returns-clause-done
returns-clause-done c =
    let v = c.self.inside in
    let cell = c.args.set.work.cell in
    ap (λ ss. kept_as v.snapshot (undone_cells ss)) c.put-answer.ensures.slots
    ∙ ap (kept_as v.snapshot) (filled_left c.args.set v.progress)
    ∙ ap (with_done cell) c.self.view_is
