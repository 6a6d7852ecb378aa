use Rattle.std.proofs.Common.{◌≡◌, ℕ, sum_by}
use Rattle.book_history.specs.History.{project_numbers}
use Rattle.book_history.specs.Refusals.{left_if}
use Rattle.book_history.specs.Weights.{told}
use Rattle.federation_book.proofs.state.State.left_with.Given as goal

abbrev pub invariant-loop-index : goal.invariant-loop-index
invariant-loop-index l =
    (x : ℕ) → l.fn.left ≡ told x → l.sum ≡ told (sum_by (left_if l.fn.self.entries.items l.fn.number x) (project_numbers l.index))
