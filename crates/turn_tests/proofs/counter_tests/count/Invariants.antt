use Rattle.std.proofs.Common.{◌≡◌, ◌+◌}
use Rattle.book_turn.specs.Passes.{IsSingle, KeepsNumbers}
use Rattle.turn_tests.specs.inner.EntryCounts.{own_count}
use Rattle.turn_tests.proofs.counter_tests.count.Given as goal

abbrev pub invariant-loop-done : goal.invariant-loop-done
invariant-loop-done g l = IsSingle l.fn.turn l.pass × KeepsNumbers l.initial.pass l.pass × (own_count l.pass ≡ own_count l.initial.pass + l.done)
