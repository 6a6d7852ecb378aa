use Rattle.std.proofs.Common.{◌≡◌, ◌++◌, ◌∙◌, refl, sym, ap, append-nil, subst}
use Rattle.std.specs.Prelude.{IfOk, OnOk}
use Rattle.book_history.specs.declared.replies.BookReply.{BookReply}
use Rattle.book_history.proofs.Ahead.{ahead_adds, ahead_told, below_adds, below_told}
use Rattle.federation_book.proofs.Acting.{after_none}
use Rattle.federation_book.proofs.book.Book.act.Goals as goal

pub returns-in-Some-clause-reply : goal.returns-in-Some-clause-reply
returns-in-Some-clause-reply c =
    c.refusal.ensures ∙ sym (ahead_told c.args.self.now.settings c.args.self.now.journal c.args.stamp c.args.call c.in-Some.fault (sym c.ahead.ensures ∙ c.in-Some.is))

pub returns-in-Some-clause-added : goal.returns-in-Some-clause-added
returns-in-Some-clause-added c =
    let h = c.args.self.now.journal in
    sym (append-nil h) ∙ ap (λ es. h ++ es) (sym (ahead_adds c.args.self.now.settings h c.args.stamp c.args.call c.in-Some.fault (sym c.ahead.ensures ∙ c.in-Some.is)))

pub returns-in-Some-clause-after : goal.returns-in-Some-clause-after
returns-in-Some-clause-after c = after_none c.args.stamp.turn c.args.self.now.journal c.args.self.now.journal c.requires.after refl

pub returns-in-None-clause-reply : goal.returns-in-None-clause-reply
returns-in-None-clause-reply c =
    subst (λ (r : BookReply). IfOk c.answer.result (λ reply. reply ≡ r))
    (sym (below_told c.args.self.now.settings c.args.self.now.journal c.args.stamp c.args.call (sym c.ahead.ensures ∙ c.in-None.is))) c.answer.ensures.reply

pub returns-in-None-clause-added : goal.returns-in-None-clause-added
returns-in-None-clause-added c =
    subst (λ es. OnOk c.answer.result (c.answer.new.self.journal ≡ c.args.self.now.journal ++ es))
    (sym (below_adds c.args.self.now.settings c.args.self.now.journal c.args.stamp c.args.call (sym c.ahead.ensures ∙ c.in-None.is))) c.answer.ensures.added
