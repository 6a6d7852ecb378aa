use Rattle.std.proofs.Common.{◌+◌, ◌<◌, length, ap, ◌∙◌, refl, arith}
use Rattle.book_topics.specs.Boards.{BoardState}
use Rattle.book_history.specs.History.{board_of}
use Rattle.federation_book.proofs.Counted.{board_kept, count_more, made_few}
use Rattle.federation_book.proofs.state.State.topic_count.Goals as goal

pub overflow_add-count : goal.overflow_add-count
overflow_add-count c =
    let s = c.args.self.now in
    let i = c.loop-index.index in
    let within : i < length s.projects.items = omega arith in
    let board = board_kept s.projects.items s.entries.items i c.index.result.now c.requires.states within c.index.ensures in
    let part = made_few s (i + 1) c.index.result.now.board c.topic_count-count.result c.requires board c.topic_count-count.ensures.few in
    let few = c.loop-index.invariant.few in
    let projects = c.requires.few in
    omega (arith, part, few, projects, within)

pub loop-index-preserved : goal.loop-index-preserved
loop-index-preserved c =
    let s = c.args.self.now in
    let i = c.loop-index.index in
    let within : i < length s.projects.items = omega arith in
    let board = board_kept s.projects.items s.entries.items i c.index.result.now c.requires.states within c.index.ensures in
    let part = made_few s (i + 1) c.index.result.now.board c.topic_count-count.result c.requires board c.topic_count-count.ensures.few in
    let few = c.loop-index.invariant.few in
    record {
      is = count_more (λ n. length (board_of n s.entries.items).discussion.topics) i c.loop-index.count c.topic_count-count.result _ c.loop-index.invariant.is (c.topic_count-count.ensures.count ∙ ap (λ (b : BoardState). length b.discussion.topics) board) refl;
      few = omega (arith, part, few);
    }
