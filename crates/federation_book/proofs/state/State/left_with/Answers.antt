use Rattle.std.proofs.Common.{◌≡◌, ◌+◌, ◌<◌, length, sym, ap, ◌∙◌, arith}
use Rattle.book_history.specs.History.{left_in}
use Rattle.book_history.specs.Refusals.{left_if}
use Rattle.book_history.specs.Weights.{told}
use Rattle.federation_book.proofs.Counting.{told_more, left_kept, if_own, if_other}
use Rattle.federation_book.proofs.state.State.left_with.Goals.{then-index-number, else-index-number}
use Rattle.federation_book.proofs.state.State.left_with.Goals as goal

pub loop-index-preserved : goal.loop-index-preserved
loop-index-preserved c x e =
    let s = c.args.self.now in
    let j = s.entries.items in
    let i = c.loop-index.index in
    let within : i < length s.projects.items = omega arith in
    let part : c.if-index-number.own ≡ told (left_if j c.args.number x (i + 1)) = elim c.if-index-number.branch [
      | then-index-number w ↦ w.own-is ∙ e ∙ ap told (sym (if_own j c.args.number x (i + 1) w.if-index-number.true))
      | else-index-number w ↦
          w.own-is ∙ w.left_in-own.ensures ∙ ap (λ vs. told (left_in vs)) w.deref.ensures.value
          ∙ ap told (left_kept s.projects.items j i w.index.result.now c.requires.states within w.index.ensures
          ∙ sym (if_other j c.args.number x (i + 1) w.if-index-number.false))
    ] in
    told_more (left_if j c.args.number x) i c.loop-index.sum c.if-index-number.own c.saturating_add-sum.result (c.loop-index.invariant x e) part c.saturating_add-sum.ensures
