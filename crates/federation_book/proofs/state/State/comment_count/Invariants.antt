use Rattle.std.proofs.Common.{◌≡◌, ◌*◌, ◌≤◌, length, sum_by}
use Rattle.book_history.specs.History.{board_of, project_numbers}
use Rattle.federation_book.proofs.state.State.comment_count.Given as goal

abbrev pub invariant-loop-index : goal.invariant-loop-index
invariant-loop-index l = record {
  is : l.count ≡ sum_by (λ n. length (board_of n l.fn.self.entries.items).discussion.comments) (project_numbers l.index);
  few : l.count ≤ 8000000 * l.index;
}
