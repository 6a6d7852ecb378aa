use Rattle.feed_frames.proofs.Apart.{frames_apart}
use Rattle.feed_frames.proofs.laws.frames_are_apart.Goals as goal

pub returns : goal.returns
returns c = frames_apart
