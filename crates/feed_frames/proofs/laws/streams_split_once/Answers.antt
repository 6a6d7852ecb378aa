use Rattle.feed_frames.proofs.Apart.{streams_once}
use Rattle.feed_frames.proofs.laws.streams_split_once.Goals as goal

pub returns : goal.returns
returns c = streams_once
