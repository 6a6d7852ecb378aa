use Rattle.book_turn.specs.Passes.{IsSingle}
use Rattle.turn_tests.proofs.counter_tests.several.Given as goal

abbrev pub invariant-loop : goal.invariant-loop
invariant-loop g l = IsSingle l.fn.turn l.pass
