use Rattle.std.proofs.Common.{◌≡◌, take}
use Rattle.book_history.specs.History.{left_in}
use Rattle.book_history.specs.Weights.{told}
use Rattle.federation_book.proofs.project.left_in.Given as goal

abbrev pub invariant-loop-version : goal.invariant-loop-version
invariant-loop-version l = l.left ≡ told (left_in (take l.version-index l.versions))
