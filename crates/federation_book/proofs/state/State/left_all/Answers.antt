use Rattle.std.proofs.Common.{◌≡◌, ◌+◌, ◌<◌, length, ap, ◌∙◌, arith}
use Rattle.book_history.specs.History.{live_of, left_in}
use Rattle.book_history.specs.Weights.{told}
use Rattle.federation_book.proofs.Counting.{told_more, left_kept}
use Rattle.federation_book.proofs.state.State.left_all.Goals as goal

pub loop-index-preserved : goal.loop-index-preserved
loop-index-preserved c =
    let s = c.args.self.now in
    let i = c.loop-index.index in
    let p = c.index.result.now in
    let within : i < length s.projects.items = omega arith in
    let own = left_kept s.projects.items s.entries.items i p c.requires.states within c.index.ensures in
    let part : c.left_in.result ≡ told (left_in (live_of (i + 1) s.entries.items)) =
    c.left_in.ensures ∙ ap (λ vs. told (left_in vs)) c.deref.ensures.value ∙ ap told own in
    told_more (λ n. left_in (live_of n s.entries.items)) i c.loop-index.left c.left_in.result c.saturating_add-left.result c.loop-index.invariant part c.saturating_add-left.ensures
