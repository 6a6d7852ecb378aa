use Rattle.std.proofs.lemmas.Result.{err_from_is_err_and}
use Rattle.feed_frames.proofs.Loops.{goes_on, ends, is_done}
use Rattle.feed_frames.proofs.plain_fields.items_of.Goals as goal

pub returns-in_err-item : goal.returns-in_err-item
returns-in_err-item g c =
    let p = err_from_is_err_and c.from_residual.result c.from_residual.ensures.1 in
    rw (p.1, p.2)
    (ends g.T.Field.reading c.in_err-item.field-0.0 _ _ _ _ _ c.loop-test.true c.in_err-item.ensures c.loop.invariant)

pub loop-preserved : goal.loop-preserved
loop-preserved g c =
    rw c.in_ok-push.ensures.ok
    (goes_on g.T.Field.reading _ _ _ _ _ _ _ c.loop-test.true c.in_ok-item.ensures c.loop.invariant)

pub returns : goal.returns
returns g c = is_done g.T.Field.reading _ _ _ _ _ c.loop-test.false c.loop.invariant
