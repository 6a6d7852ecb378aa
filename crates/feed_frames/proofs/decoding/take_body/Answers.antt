use Rattle.std.proofs.lemmas.Result.{err_from_is_err_and}
use Rattle.feed_frames.proofs.Admitted.{body_refused, body_is}
use Rattle.feed_frames.proofs.decoding.take_body.Goals as goal

pub returns-in_err-change : goal.returns-in_err-change
returns-in_err-change c =
    let p = err_from_is_err_and c.from_residual.result c.from_residual.ensures.1 in
    rw (p.1, p.2) (body_refused c.in_err-change.field-0.0 _ _ c.in_err-change.ensures)

pub returns : goal.returns
returns c = (body_is _ _ _ _ c.in_ok-change.ensures.0, c.in_ok-change.ensures.1)
