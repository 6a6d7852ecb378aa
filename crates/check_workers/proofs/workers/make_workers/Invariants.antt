use Rattle.std.proofs.Common.{◌≡◌, ◌+◌, ◌≤◌, vec_len, vec_capacity, map, All}
use Rattle.book_turn.specs.Passes.{new_passes}
use Rattle.check_workers.specs.Joins.{IsNewWorker, HasEach}
use Rattle.check_workers.proofs.workers.make_workers.Given as goal

abbrev pub invariant-loop-seat : goal.invariant-loop-seat
invariant-loop-seat l = record {
  left : vec_len l.passes + l.seat ≡ l.fn.first + l.fn.count;
  passes : l.passes.items ≡ new_passes l.fn.turn 0 (vec_len l.passes);
  room : l.fn.count ≤ vec_capacity l.workers;
  count : vec_len l.workers ≡ l.seat;
  new : All (λ w. IsNewWorker l.fn.turn w.pass) l.workers.items;
  numbers : HasEach (vec_len l.passes) (l.fn.first + l.fn.count) (map (λ w. w.pass.number) l.workers.items);
}
