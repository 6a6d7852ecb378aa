use Rattle.std.proofs.Common.{◌≡◌}
use Rattle.book_history.specs.History.{project_numbers}
use Rattle.federation_book.proofs.projects.numbers_of.Given as goal

abbrev pub invariant-loop-index : goal.invariant-loop-index
invariant-loop-index l = l.numbers ≡ project_numbers l.index
