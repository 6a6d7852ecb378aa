use Rattle.std.proofs.lemmas.Result.{err_from_is_err_and}
use Rattle.feed_frames.proofs.Admitted.{change_fails, change_admitted}
use Rattle.feed_frames.proofs.change_reading.take_change.Goals as goal

pub returns-in_err-kind : goal.returns-in_err-kind
returns-in_err-kind c =
    let p = err_from_is_err_and c.from_residual.result c.from_residual.ensures.1 in
    rw (p.1, p.2) (change_fails c.in_err-kind.field-0.0 _ c.in_err-kind.ensures)

pub returns : goal.returns
returns c = change_admitted _ _ _ _ _ c.in_ok-kind.ensures c.take_behind.ensures
