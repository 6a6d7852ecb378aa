use Rattle.book_turn.specs.Passes.{BelongsTo}
use Rattle.book_passes.specs.Lessons.{caller_of}
use Rattle.check_workers.specs.WorkerTurns.{Teaches}
use Rattle.check_workers.proofs.work.work_loop.Given as goal

abbrev pub invariant-loop : goal.invariant-loop
invariant-loop g l = record {
  can : (goal.iterator-loop g).can_next l.iterator';
  finite : (goal.iterator-loop g).is_finite l.iterator';
  own : BelongsTo l.fn.turn l.pass;
  teaches : Teaches (caller_of l.initial.pass) (caller_of l.pass);
}
