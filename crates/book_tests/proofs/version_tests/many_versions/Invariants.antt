use Rattle.book_history.specs.History.{IsBefore}
use Rattle.book_tests.proofs.version_tests.many_versions.Given as goal

abbrev pub invariant-loop-turn : goal.invariant-loop-turn
invariant-loop-turn g l = IsBefore l.turn l.book.journal
