use Rattle.std.proofs.Common.{◌≡◌, ◌++◌, ◌||◌, map, All}
use Rattle.std.specs.List.{list_any}
use Rattle.std.specs.Option.{option_or}
use Rattle.std.specs.VecDeque.{deque_len}
use Rattle.book_turn.specs.Passes.{BelongsTo}
use Rattle.check_workers.specs.Joins.{WorkerOver, ExtendsByWork, first_spent}
use Rattle.check_workers.proofs.workers.join_workers.Given as goal

abbrev pub invariant-loop-worker : goal.invariant-loop-worker
invariant-loop-worker l = record {
  own : BelongsTo l.fn.turn l.into;
  extends : ExtendsByWork l.fn.into l.into;
  over : All (λ w. WorkerOver l.fn.turn w.pass) l.workers.items;
  memory : (l.lack.memory || list_any (λ w. w.lack.memory) l.workers.items) ≡ list_any (λ w. w.lack.memory) l.fn.workers.items;
  spent : option_or l.lack.spent (first_spent (map (λ w. w.lack) l.workers.items)) ≡ first_spent (map (λ w. w.lack) l.fn.workers.items);
  numbers : l.into.numbers ++ map (λ w. w.pass.number) l.workers.items ≡ l.fn.into.numbers ++ map (λ w. w.pass.number) l.fn.workers.items;
}

abbrev pub decreases-loop-worker : goal.decreases-loop-worker
decreases-loop-worker l = deque_len l.workers
