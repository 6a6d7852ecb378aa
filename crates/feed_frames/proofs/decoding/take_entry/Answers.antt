use Rattle.std.proofs.lemmas.Result.{err_from_is_err_and}
use Rattle.feed_frames.proofs.Admitted.{entry_fails, entry_admitted}
use Rattle.feed_frames.proofs.decoding.take_entry.Goals as goal

pub returns-in_err-head : goal.returns-in_err-head
returns-in_err-head c =
    let p = err_from_is_err_and c.from_residual.result c.from_residual.ensures.1 in
    rw (p.1, p.2) (entry_fails c.in_err-head.field-0.0 _ c.in_err-head.ensures)

pub returns : goal.returns
returns c = entry_admitted _ _ _ _ _ c.in_ok-head.ensures c.take_body.ensures
