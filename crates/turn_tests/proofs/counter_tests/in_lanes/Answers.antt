use Rattle.std.proofs.Common.{rules, ◌≡◌, length, sym, ap, ◌∙◌}
use Rattle.book_turn.specs.Passes.{new_passes}
use Rattle.turn_tests.proofs.Counting.{new_passes_length}
use Rattle.turn_tests.proofs.counter_tests.in_lanes.Goals as goal

pub close-requires-clause-all : goal.close-requires-clause-all
close-requires-clause-all g c =
    let made : c.in_ok-turn.passes.items ≡ new_passes c.in_ok-turn.turn 0 c.args.number = search rules in
    let kept : length c.in_ok-all.all.numbers ≡ length c.in_ok-turn.passes.items = search rules in
    let all : c.in_ok-turn.turn.passes ≡ c.args.number = search rules in
    kept ∙ ap (λ l. length l) made ∙ new_passes_length _ c.in_ok-turn.turn 0 c.args.number ∙ sym all
