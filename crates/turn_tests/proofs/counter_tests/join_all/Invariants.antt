use Rattle.std.proofs.Common.{◌≡◌, ◌+◌, All, length, vec_len}
use Rattle.book_turn.specs.Passes.{BelongsTo, IsSingle}
use Rattle.turn_tests.proofs.counter_tests.join_all.Given as goal

abbrev pub invariant-loop-other : goal.invariant-loop-other
invariant-loop-other l =
    BelongsTo l.fn.turn l.into
    × All (IsSingle l.fn.turn) l.passes.items
    × (length l.into.numbers + vec_len l.passes ≡ vec_len l.fn.passes)

abbrev pub decreases-loop-other : goal.decreases-loop-other
decreases-loop-other l = vec_len l.passes
