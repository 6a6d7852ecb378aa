use Rattle.std.proofs.Common.{rules, ◌≡◌, ◌+◌}
use Rattle.book_turn.specs.Passes.{KeepsNumbers, new_pass}
use Rattle.turn_tests.specs.inner.EntryCounts.{own_count}
use Rattle.turn_tests.proofs.Counting.{all_made}
use Rattle.turn_tests.proofs.counter_tests.in_two_threads.Goals as goal

pub returns-clause-first : goal.returns-clause-first
returns-clause-first g c =
    let new : c.in_ok-first.first ≡ new_pass c.in_ok-turn.turn 0 = search rules in
    let kept : KeepsNumbers c.in_ok-first.first c.in_ok-into.into = search rules in
    let more : own_count c.in_ok-into.into ≡ own_count c.in_ok-first.first + 100 = search rules in
    let journal : c.close.result.calls.items ≡ c.join.new.into.seen = search rules in
    all_made c.in_ok-turn.turn 0 100 c.in_ok-first.first c.in_ok-into.into c.join.new.into c.close.result.calls.items new kept more c.join.ensures.joined.own_first journal

pub returns-clause-second : goal.returns-clause-second
returns-clause-second g c =
    let new : c.in_ok-second.second ≡ new_pass c.in_ok-turn.turn 1 = search rules in
    let kept : KeepsNumbers c.in_ok-second.second c.in_ok-b.field-0 = search rules in
    let more : own_count c.in_ok-b.field-0 ≡ own_count c.in_ok-second.second + 100 = search rules in
    let journal : c.close.result.calls.items ≡ c.join.new.into.seen = search rules in
    all_made c.in_ok-turn.turn 1 100 c.in_ok-second.second c.in_ok-b.field-0 c.join.new.into c.close.result.calls.items new kept more c.join.ensures.joined.own_second journal
