use Rattle.std.proofs.Common.{◌≡◌, ◌∙◌, ltb, List, length, refl, sym, ap, ap₂, subst}
use Rattle.book_history.specs.declared.changes.Change.TheVariants as change
use Rattle.book_history.specs.declared.changes.Entry.{Entry}
use Rattle.book_history.specs.declared.limits.Settings.{Settings}
use Rattle.book_history.specs.History.{IsBefore}
use Rattle.book_history.specs.Legal.{IsGiven}
use Rattle.book_history.specs.Requests.{BookState, entry_of}
use Rattle.book_history.specs.AcceptedChanges.{IsBrought}
use Rattle.federation_book.proofs.Acting.{after_none, made_same, on_err}
use Rattle.federation_book.proofs.Brought.{tells_brought, after_brought}
use Rattle.federation_book.proofs.book.Book.bring_bucket.Goals as goal

pub bring_set-requires-clause-kept : goal.bring_set-requires-clause-kept
bring_set-requires-clause-kept c = c.self.invariant.kept

pub bring_set-requires-clause-after : goal.bring_set-requires-clause-after
bring_set-requires-clause-after c =
    subst (IsBefore c.args.stamp.turn) (sym (ap (λ (b : BookState). b.journal) c.self.view_is)) c.requires.after

pub invariant_of-self : goal.invariant_of-self
invariant_of-self c = record {
  kept = c.bring_set.ensures.kept;
  made = made_same _ _ _ _ c.bring_set.ensures.settings c.in_err-bring_set.ensures.err c.self.invariant.made;
}

pub returns-in_err-bring_set-clause-settings : goal.returns-in_err-bring_set-clause-settings
returns-in_err-bring_set-clause-settings c = c.bring_set.ensures.settings ∙ ap (λ (b : BookState). b.settings) c.self.view_is

pub returns-in_err-bring_set-clause-after : goal.returns-in_err-bring_set-clause-after
returns-in_err-bring_set-clause-after c =
    after_none c.args.stamp.turn c.args.self.now.journal c.bring_set.new.state.entries.items c.requires.after
    (c.in_err-bring_set.ensures.err ∙ ap (λ (b : BookState). b.journal) c.self.view_is)

pub returns-in_err-bring_set-clause-err : goal.returns-in_err-bring_set-clause-err
returns-in_err-bring_set-clause-err c =
    on_err c.from_residual.result _
    (ap₂ (λ (s : Settings) (j : List Entry). (let r : BookState = record { settings = s; journal = j } in r)) c.bring_set.ensures.settings c.in_err-bring_set.ensures.err ∙ c.self.view_is)

pub invariant_of-self-2 : goal.invariant_of-self-2
invariant_of-self-2 c = record {
  kept = c.bring_set.ensures.kept;
  made =
      made_same _ _ _ _ c.bring_set.ensures.settings refl (c.in_ok-bring_set.ensures.made c.self.invariant.made);
}

pub bring_set-requires-clause-given : goal.bring_set-requires-clause-given
bring_set-requires-clause-given c =
    subst (λ (b : BookState). IsGiven b.settings b.journal c.args.set.work) (sym c.self.view_is) c.requires.given

pub returns-clause-brought : goal.returns-clause-brought
returns-clause-brought c =
    let entry = entry_of c.args.stamp c.args.set.work.project (change.BucketDone c.args.set.work.version c.args.set.work.cell) in
    tells_brought c.args.self.now.settings c.args.self.now.journal c.bring_set.new.state.entries.items entry _
    (subst (λ (b : BookState). IsBrought b.settings b.journal entry c.bring_set.new.state.entries.items) c.self.view_is c.in_ok-bring_set.ensures.brought)
    (ap₂ ltb (c.len-before.ensures ∙ c.self.inside.state.entries.ok.0 ∙ ap (λ (b : BookState). length b.journal) c.self.view_is) (c.len.ensures ∙ c.bring_set.new.state.entries.ok.0))

pub returns-clause-settings : goal.returns-clause-settings
returns-clause-settings c = c.bring_set.ensures.settings ∙ ap (λ (b : BookState). b.settings) c.self.view_is

pub returns-clause-after : goal.returns-clause-after
returns-clause-after c =
    let entry = entry_of c.args.stamp c.args.set.work.project (change.BucketDone c.args.set.work.version c.args.set.work.cell) in
    after_brought c.args.self.now.settings c.args.self.now.journal c.bring_set.new.state.entries.items entry c.requires.after
    (subst (λ (b : BookState). IsBrought b.settings b.journal entry c.bring_set.new.state.entries.items) c.self.view_is c.in_ok-bring_set.ensures.brought)
