use Rattle.std.proofs.Common.{◌≡◌, ◌∙◌, ltb, List, length, refl, sym, ap, ap₂, subst}
use Rattle.book_history.specs.declared.changes.Entry.{Entry}
use Rattle.book_history.specs.declared.limits.Settings.{Settings}
use Rattle.book_history.specs.History.{IsBefore}
use Rattle.book_history.specs.Requests.{BookState}
use Rattle.book_history.specs.AcceptedChanges.{IsBrought}
use Rattle.federation_book.proofs.Acting.{after_none, made_same, on_err}
use Rattle.federation_book.proofs.Brought.{tells_brought, made_brought, after_brought}
use Rattle.federation_book.proofs.book.Book.bring.Goals as goal

pub bring-requires-clause-kept : goal.bring-requires-clause-kept
bring-requires-clause-kept c = c.self.invariant.kept

pub bring-requires-clause-after : goal.bring-requires-clause-after
bring-requires-clause-after c =
    subst (IsBefore c.args.entry.stamp.turn) (sym (ap (λ (b : BookState). b.journal) c.self.view_is)) c.requires.after

pub invariant_of-self : goal.invariant_of-self
invariant_of-self c = record {
  kept = c.bring.ensures.kept;
  made = made_same _ _ _ _ c.bring.ensures.settings c.in_err-bring.ensures.err c.self.invariant.made;
}

pub returns-in_err-bring-clause-settings : goal.returns-in_err-bring-clause-settings
returns-in_err-bring-clause-settings c = c.bring.ensures.settings ∙ ap (λ (b : BookState). b.settings) c.self.view_is

pub returns-in_err-bring-clause-after : goal.returns-in_err-bring-clause-after
returns-in_err-bring-clause-after c =
    after_none c.args.entry.stamp.turn c.args.self.now.journal c.bring.new.state.entries.items c.requires.after
    (c.in_err-bring.ensures.err ∙ ap (λ (b : BookState). b.journal) c.self.view_is)

pub returns-in_err-bring-clause-err : goal.returns-in_err-bring-clause-err
returns-in_err-bring-clause-err c =
    on_err c.from_residual.result _
    (ap₂ (λ (s : Settings) (j : List Entry). (let r : BookState = record { settings = s; journal = j } in r)) c.bring.ensures.settings c.in_err-bring.ensures.err ∙ c.self.view_is)

pub invariant_of-self-2 : goal.invariant_of-self-2
invariant_of-self-2 c = record {
  kept = c.bring.ensures.kept;
  made =
      made_same _ _ _ _ c.bring.ensures.settings refl
      (made_brought _ _ _ c.args.entry c.requires.asked c.self.invariant.made c.in_ok-bring.ensures.brought);
}

pub returns-clause-brought : goal.returns-clause-brought
returns-clause-brought c =
    tells_brought c.args.self.now.settings c.args.self.now.journal c.bring.new.state.entries.items c.args.entry _
    (subst (λ (b : BookState). IsBrought b.settings b.journal c.args.entry c.bring.new.state.entries.items) c.self.view_is c.in_ok-bring.ensures.brought)
    (ap₂ ltb (c.len-before.ensures ∙ c.self.inside.state.entries.ok.0 ∙ ap (λ (b : BookState). length b.journal) c.self.view_is) (c.len.ensures ∙ c.bring.new.state.entries.ok.0))

pub returns-clause-settings : goal.returns-clause-settings
returns-clause-settings c = c.bring.ensures.settings ∙ ap (λ (b : BookState). b.settings) c.self.view_is

pub returns-clause-after : goal.returns-clause-after
returns-clause-after c =
    after_brought c.args.self.now.settings c.args.self.now.journal c.bring.new.state.entries.items c.args.entry c.requires.after
    (subst (λ (b : BookState). IsBrought b.settings b.journal c.args.entry c.bring.new.state.entries.items) c.self.view_is c.in_ok-bring.ensures.brought)
