use Rattle.std.proofs.Common.{◌≡◌, ◌++◌, ◌∙◌, List, length, sym, ap, ap₂, subst}
use Rattle.clash_publish.specs.declared.horizon.Horizon.{Horizon}
use Rattle.book_history.specs.declared.changes.Entry.{Entry}
use Rattle.book_history.specs.declared.limits.Settings.{Settings}
use Rattle.book_history.specs.declared.replies.BookReply.{BookReply}
use Rattle.book_history.specs.declared.replies.ReplyBody.{ReplyBody}
use Rattle.book_history.specs.History.{IsBefore, horizon_of}
use Rattle.book_history.specs.Legal.{IsLegal}
use Rattle.book_history.specs.Requests.{BookState, without_turn, added_by, body_of, outcome_of}
use Rattle.book_history.proofs.Made.{made_after}
use Rattle.federation_book.proofs.Acting.{after_call, after_none, made_same, on_err}
use Rattle.federation_book.proofs.book.Book.answer.Goals as goal

pub act_on-requires-clause-kept : goal.act_on-requires-clause-kept
act_on-requires-clause-kept c = c.self.invariant.kept

pub act_on-requires-clause-after : goal.act_on-requires-clause-after
act_on-requires-clause-after c = subst (IsBefore c.args.stamp.turn) (sym (ap (λ (b : BookState). b.journal) c.self.view_is)) c.requires.after

pub act_on-requires-clause-legal : goal.act_on-requires-clause-legal
act_on-requires-clause-legal c = subst (λ (b : BookState). IsLegal b.settings b.journal c.args.request) (sym c.self.view_is) c.requires.legal

pub invariant_of-self : goal.invariant_of-self
invariant_of-self c = record {
  kept = c.act_on.ensures.kept;
  made = made_same _ _ _ _ c.act_on.ensures.settings c.in_err-body.ensures.err c.self.invariant.made;
}

pub returns-in_err-body-clause-settings : goal.returns-in_err-body-clause-settings
returns-in_err-body-clause-settings c = c.act_on.ensures.settings ∙ ap (λ (b : BookState). b.settings) c.self.view_is

pub returns-in_err-body-clause-after : goal.returns-in_err-body-clause-after
returns-in_err-body-clause-after c =
    after_none c.args.stamp.turn c.args.self.now.journal c.act_on.new.state.entries.items c.requires.after (c.in_err-body.ensures.err ∙ ap (λ (b : BookState). b.journal) c.self.view_is)

pub returns-in_err-body-clause-err : goal.returns-in_err-body-clause-err
returns-in_err-body-clause-err c =
    on_err c.from_residual.result _
    (ap₂ (λ (s : Settings) (j : List Entry). (let r : BookState = record { settings = s; journal = j } in r)) c.act_on.ensures.settings c.in_err-body.ensures.err ∙ c.self.view_is)

pub invariant_of-self-2 : goal.invariant_of-self-2
invariant_of-self-2 c =
    let legal = subst (λ (b : BookState). IsLegal b.settings b.journal c.args.request) (sym c.self.view_is) c.requires.legal in
    record {
      kept = c.act_on.ensures.kept;
      made =
          made_same _ _ _ _ c.act_on.ensures.settings c.in_ok-body.ensures.done.added
          (made_after _ _ c.args.stamp c.args.request c.self.invariant.made c.know_built.ensures legal);
    }

pub returns-clause-added : goal.returns-clause-added
returns-clause-added c =
    subst (λ (b : BookState). c.act_on.new.state.entries.items ≡ b.journal ++ added_by b.settings b.journal c.args.stamp (without_turn c.args.request)) c.self.view_is c.in_ok-body.ensures.done.added

pub returns-clause-settings : goal.returns-clause-settings
returns-clause-settings c = c.act_on.ensures.settings ∙ ap (λ (b : BookState). b.settings) c.self.view_is

pub returns-clause-reply : goal.returns-clause-reply
returns-clause-reply c =
    let body = subst (λ (b : BookState). c.in_ok-body.body ≡ body_of b.journal (outcome_of b.settings b.journal c.args.request)) c.self.view_is c.in_ok-body.ensures.done.reply in
    let added = subst (λ (b : BookState). c.act_on.new.state.entries.items ≡ b.journal ++ added_by b.settings b.journal c.args.stamp (without_turn c.args.request)) c.self.view_is c.in_ok-body.ensures.done.added in
    let projects : length c.act_on.new.state.projects.items ≡ c.args.self.now.settings.projects = ap (λ (s : Settings). s.projects) (c.act_on.ensures.settings ∙ ap (λ (b : BookState). b.settings) c.self.view_is) in
    ap₂ (λ (b : ReplyBody) (h : Horizon). (let r : BookReply = record { body = b; horizon = h } in r)) body (c.horizon.ensures ∙ ap₂ horizon_of projects added)

pub returns-clause-after : goal.returns-clause-after
returns-clause-after c =
    after_call c.args.self.now.settings c.args.self.now.journal c.act_on.new.state.entries.items c.args.stamp (without_turn c.args.request) c.requires.after
    (subst (λ (b : BookState). c.act_on.new.state.entries.items ≡ b.journal ++ added_by b.settings b.journal c.args.stamp (without_turn c.args.request)) c.self.view_is c.in_ok-body.ensures.done.added)
