use Rattle.std.proofs.Common.{◌≡◌, ◌-◌}
use Rattle.feed_frames.specs.inner.Readers.{items_at}
use Rattle.feed_frames.proofs.Loops.{with_front}
use Rattle.feed_frames.proofs.plain_fields.items_of.Given as goal

abbrev pub invariant-loop : goal.invariant-loop
invariant-loop g l =
    with_front l.items (items_at g.T.Field.reading (l.count - l.counter) l.unread)
    ≡ items_at g.T.Field.reading l.count l.fn.unread
