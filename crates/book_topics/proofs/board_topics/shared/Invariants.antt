use Rattle.std.proofs.Common.{◌≡◌, take}
use Rattle.book_topics.proofs.board_topics.shared.Given as goal

abbrev pub invariant-loop-topic : goal.invariant-loop-topic
invariant-loop-topic l = l.made.items ≡ take l.topic-index l.topics
