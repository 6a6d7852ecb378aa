use Rattle.std.proofs.Common.{sym, subst}
use Rattle.std.specs.Result.{OnOk}
use Rattle.book_history.specs.declared.changes.Change.{Change}
use Rattle.book_history.specs.Requests.{entry_of}
use Rattle.book_history.specs.AcceptedChanges.{IsBrought}
use Rattle.federation_book.specs.KeptProjects.{settings_of}
use Rattle.federation_book.proofs.Brought.{asked_whole}
use Rattle.federation_book.proofs.applying.bring.Goals as goal

pub returns-in-SetRules-clause-brought : goal.returns-in-SetRules-clause-brought
returns-in-SetRules-clause-brought c =
    subst (λ (d : Change). OnOk c.bring_rules.result (IsBrought (settings_of c.args.state.now) c.args.state.now.entries.items (entry_of c.args.entry.stamp c.args.entry.project d) c.bring_rules.new.state.entries.items))
    (sym c.in-SetRules.is) c.bring_rules.ensures.brought

pub bring_asked-requires-clause-asked : goal.bring_asked-requires-clause-asked
bring_asked-requires-clause-asked c =
    asked_whole c.args.entry.project c.args.entry.change c.requires.asked c.in_default.not-SetRules
