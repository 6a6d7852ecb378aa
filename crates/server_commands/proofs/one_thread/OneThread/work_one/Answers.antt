use Rattle.std.proofs.Common.{◌≡◌, sym, ◌∙◌, ap, subst}
use Rattle.book_history.specs.declared.replies.BookReply.{BookReply}
use Rattle.book_history.specs.declared.requests.BookRequest.TheVariants.{TakeWork, Finish}
use Rattle.book_history.specs.Requests.{without_turn}
use Rattle.book_history.specs.Legal.{IsLegal}
use Rattle.bim_session.specs.Works.{IsFoundFor}
use Rattle.server_commands.specs.inner.Turns.{ServerState, with_turn}
use Rattle.server_commands.specs.inner.BucketWork.{GivesOut}
use Rattle.server_commands.proofs.Giving.{gives_some, set_legal}
use Rattle.server_commands.proofs.one_thread.OneThread.work_one.Goals as goal

pub unreachable-requires : goal.unreachable-requires
unreachable-requires c =
    let given = gives_some c.args.self.now c.requires in
    c.in_default.not-Work given.0 (ap (λ (r : BookReply). r.body) c.in_ok-receipt.ensures.receipt.1 ∙ given.1)

pub call-requires-2 : goal.call-requires-2
call-requires-2 c =
    let s : ServerState = c.args.self.now in
    let whole : ServerState = record { settings = c.self.inside.book.settings; history = c.self.inside.book.journal; turns = c.self.inside.turns } in
    let given : GivesOut s c.in-Work.order = sym (ap (λ (r : BookReply). r.body) c.in_ok-receipt.ensures.receipt.1) ∙ c.in-Work.is in
    let found : IsFoundFor c.in-Work.order c.in_ok-set.set = subst (λ o. IsFoundFor o c.in_ok-set.set) c.in-Work.order-is c.in_ok-set.ensures.set in
    let legal = set_legal s c.in-Work.order c.in_ok-set.set given found c.in_ok-set.ensures.bucket in
    let same : with_turn (without_turn (TakeWork 0)) s ≡ whole = sym c.in_ok-receipt.ensures.receipt.2 ∙ sym c.self.view_is in
    subst (λ (x : ServerState). IsLegal x.settings x.history (Finish c.in_ok-set.set)) same legal
