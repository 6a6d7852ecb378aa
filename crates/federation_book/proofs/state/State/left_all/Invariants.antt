use Rattle.std.proofs.Common.{◌≡◌, sum_by}
use Rattle.book_history.specs.History.{live_of, left_in, project_numbers}
use Rattle.book_history.specs.Weights.{told}
use Rattle.federation_book.proofs.state.State.left_all.Given as goal

abbrev pub invariant-loop-index : goal.invariant-loop-index
invariant-loop-index l = l.left ≡ told (sum_by (λ n. left_in (live_of n l.fn.self.entries.items)) (project_numbers l.index))
