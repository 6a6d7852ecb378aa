use Rattle.book_turn.specs.Passes.{IsSingle}
use Rattle.turn_tests.proofs.counter_tests.sweep.Given as goal

abbrev pub invariant-loop-steps : goal.invariant-loop-steps
invariant-loop-steps g l = IsSingle l.fn.turn l.pass
