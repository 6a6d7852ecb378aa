use Rattle.std.proofs.Common.{◌≡◌, ◌≤◌, ℕ, List, length, take, drop, sym, ap, ◌∙◌, subst}
use Rattle.std.specs.Prelude.{IfOk}
use Rattle.http_frame.specs.Heads.{front}
use Rattle.http_frame.specs.inner.RequestHeads.{IsSeen}
use Rattle.http_frame.specs.Watched.{IsWatch}
use Rattle.http_frame.proofs.framer_steps.seen_at.Goals as goal

pub seen_of-requires-clause-within : goal.seen_of-requires-clause-within
seen_of-requires-clause-within c =
    let here : c.tail.result.now ≡ drop c.args.at c.args.buf.now.items = c.tail.ensures ∙ ap (drop c.args.at) c.deref.ensures.value in
    subst (λ (b : List ℕ). c.args.watch.seen ≤ length (front b)) (sym here) c.requires.1

pub seen_of-requires-clause-watch : goal.seen_of-requires-clause-watch
seen_of-requires-clause-watch c =
    let here : c.tail.result.now ≡ drop c.args.at c.args.buf.now.items = c.tail.ensures ∙ ap (drop c.args.at) c.deref.ensures.value in
    subst (λ (b : List ℕ). IsWatch c.args.watch (take c.args.watch.seen (front b))) (sym here) c.requires.2

pub returns : goal.returns
returns c =
    let here : c.tail.result.now ≡ drop c.args.at c.args.buf.now.items = c.tail.ensures ∙ ap (drop c.args.at) c.deref.ensures.value in
    subst (λ (b : List ℕ). IfOk c.seen_of.result (IsSeen b)) here c.seen_of.ensures
