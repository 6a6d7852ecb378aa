use Rattle.std.proofs.lemmas.Result.{err_from_is_err_and}
use Rattle.feed_frames.proofs.Admitted.{upload_fails, upload_admitted}
use Rattle.feed_frames.proofs.change_reading.take_upload.Goals as goal

pub returns-in_err-parts : goal.returns-in_err-parts
returns-in_err-parts c =
    let p = err_from_is_err_and c.from_residual.result c.from_residual.ensures.1 in
    rw (p.1, p.2) (upload_fails c.in_err-parts.field-0.0 _ c.in_err-parts.ensures)

pub returns : goal.returns
returns c = upload_admitted _ _ _ _ c.in_ok-parts.ensures c.upload_of.ensures
