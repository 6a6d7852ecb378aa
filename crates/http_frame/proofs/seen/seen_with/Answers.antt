use Rattle.http_frame.proofs.Seeing.{front_short}
use Rattle.http_frame.proofs.seen.seen_with.Goals as goal

pub look-look-requires-clause-short : goal.look-look-requires-clause-short
look-look-requires-clause-short c = front_short c.args.bytes.now c.front_of-block.result.now c.front_of-block.ensures
