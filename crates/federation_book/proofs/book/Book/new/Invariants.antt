use Rattle.std.proofs.Common.{◌≡◌, [], length}
use Rattle.federation_book.specs.KeptProjects.{KeepStates}
use Rattle.federation_book.proofs.book.Book.new.Given as goal

abbrev pub invariant-loop-number : goal.invariant-loop-number
invariant-loop-number l = record {
  kept : KeepStates 1 l.kept.items [];
  count : length l.kept.items ≡ l._number;
}
