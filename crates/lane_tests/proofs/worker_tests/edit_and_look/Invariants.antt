use Rattle.book_turn.specs.Passes.{BelongsTo}
use Rattle.lane_tests.proofs.worker_tests.edit_and_look.Given as goal

abbrev pub invariant-loop : goal.invariant-loop
invariant-loop g l = BelongsTo l.fn.turn l.pass
