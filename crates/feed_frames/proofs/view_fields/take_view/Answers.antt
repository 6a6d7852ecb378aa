use Rattle.feed_frames.proofs.Kept.{view_is}
use Rattle.feed_frames.proofs.view_fields.take_view.Goals as goal

pub of-requires : goal.of-requires
of-requires c = view_is _ _ _ c.are_bytes.ensures c.in_ok-body.ensures
