use Rattle.std.proofs.Common.{refl}
use Rattle.feed_frames.proofs.Kept.{no_guid}
use Rattle.feed_frames.proofs.base_fields.guid_of.Goals as goal

pub returns-in-Some : goal.returns-in-Some
returns-in-Some c = (c.in-Some.ensures.chars, (c.in-Some.ensures.read.0 refl).1)

pub returns-in-None : goal.returns-in-None
returns-in-None c = no_guid _ c.requires (λ g. absurd (cc (c.in-None.ensures.read.1 g)))
