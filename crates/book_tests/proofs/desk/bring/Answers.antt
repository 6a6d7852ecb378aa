use Rattle.std.proofs.Common.{◌∙◌, sym, ap, subst}
use Rattle.bucket_check.specs.ClashSets.{SetValue}
use Rattle.book_history.specs.Legal.{IsGiven}
use Rattle.book_tests.proofs.desk.bring.Goals as goal

pub ask-requires-clause-legal : goal.ask-requires-clause-legal
ask-requires-clause-legal g c =
    subst (IsGiven c.args.book.now.settings c.args.book.now.journal) (sym (ap (λ (s : SetValue). s.work) c.in_ok-set-2.ensures ∙ c.in_ok-set.ensures.work)) c.requires.given

pub returns-clause-stays : goal.returns-clause-stays
returns-clause-stays g c = c.in_ok-ask.ensures.stays
