use Rattle.feed_frames.proofs.Kept.{fails_utf8, passes_utf8}
use Rattle.feed_frames.proofs.base_fields.text_of.Goals as goal

pub returns-in-Ok : goal.returns-in-Ok
returns-in-Ok c = (c.in-Ok.ensures.cases.0, passes_utf8 _ c.in-Ok.ensures.cases.1)

pub returns-in-Err : goal.returns-in-Err
returns-in-Err c = fails_utf8 _ c.in-Err.ensures.cases.0
