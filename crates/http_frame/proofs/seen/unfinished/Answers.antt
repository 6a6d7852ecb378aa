use Rattle.http_frame.proofs.Seeing.{unfinished_short, unfinished_full}
use Rattle.http_frame.proofs.seen.unfinished.Goals as goal

pub returns-then-bytes-lt-MOST_HEAD : goal.returns-then-bytes-lt-MOST_HEAD
returns-then-bytes-lt-MOST_HEAD c = unfinished_short c.args.bytes.now c.args.next c.if-bytes-lt-MOST_HEAD.true c.requires.none c.requires.watch

pub returns-else-bytes-lt-MOST_HEAD : goal.returns-else-bytes-lt-MOST_HEAD
returns-else-bytes-lt-MOST_HEAD c = unfinished_full c.args.bytes.now c.args.next c.if-bytes-lt-MOST_HEAD.false c.requires.none c.requires.watch.1
