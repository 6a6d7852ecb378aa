use Rattle.std.proofs.Common.{◌≡◌, ◌≤◌, ℕ, length, vec_len, vec_capacity, map, sym, ap, ◌∙◌, subst, arith}
use Rattle.book_turn.specs.NumberLists.{numbers_from}
use Rattle.book_turn.specs.Passes.{new_passes}
use Rattle.book_history.specs.declared.changes.Entry.{Entry}
use Rattle.check_workers.specs.Joins.{HasEach, AreOfLanes}
use Rattle.serve_lanes.specs.LaneSeats.{SeatsMade}
use Rattle.serve_lanes.proofs.Joining.{numbered_length, numbered_alike}
use Rattle.serve_lanes.proofs.lanes.run_lanes.Goals as goal

pub make_lanes-lanes-requires-clause-settings : goal.make_lanes-lanes-requires-clause-settings
make_lanes-lanes-requires-clause-settings g c = ap (λ (s : SeatsMade). s.settings) (c.seats.view_is ∙ c.requires.seats)

pub make_lanes-lanes-requires-clause-passes : goal.make_lanes-lanes-requires-clause-passes
make_lanes-lanes-requires-clause-passes g c =
    let count : c.seats.inside.count ≡ vec_len c.args.doors = ap (λ (s : SeatsMade). s.lanes) (c.seats.view_is ∙ c.requires.seats) in
    c.seats.invariant.3 ∙ ap (λ (n : ℕ). new_passes {E = Entry} c.seats.inside.turn 0 n) count

pub make_lanes-lanes-requires-clause-room : goal.make_lanes-lanes-requires-clause-room
make_lanes-lanes-requires-clause-room g c =
    let count : c.seats.inside.count ≡ vec_len c.args.doors = ap (λ (s : SeatsMade). s.lanes) (c.seats.view_is ∙ c.requires.seats) in
    (c.seats.invariant.6, subst (λ (n : ℕ). n ≤ vec_capacity c.seats.inside.lanes) count c.seats.invariant.7)

pub close_all-requires-clause-number : goal.close_all-requires-clause-number
close_all-requires-clause-number g c =
    let both = c.run_both-lanes in
    let count : c.seats.inside.count ≡ vec_len c.args.doors = ap (λ (s : SeatsMade). s.lanes) (c.seats.view_is ∙ c.requires.seats) in
    let lanes : length both.result.0.items ≡ vec_len c.args.doors = numbered_length (λ l. (g.D.Door.seen l.door).number) both.result.0.items (vec_len c.args.doors) (both.ensures.numbers ∙ c.make_lanes-lanes.ensures.numbers) in
    let workers : length both.result.1.items ≡ length c.seats.inside.workers.items = numbered_alike (λ w. w.pass.number) c.seats.inside.workers.items both.result.1.items both.ensures.seats in
    let own = c.seats.invariant.1 in
    omega (arith, count, lanes, workers, own, both.result.0.ok.0, both.result.1.ok.0, c.seats.inside.workers.ok.0)

pub close_all-requires-clause-settings : goal.close_all-requires-clause-settings
close_all-requires-clause-settings g c = ap (λ (s : SeatsMade). s.settings) (c.seats.view_is ∙ c.requires.seats)

pub close_all-requires-clause-room : goal.close_all-requires-clause-room
close_all-requires-clause-room g c =
    let both = c.run_both-lanes in
    let count : c.seats.inside.count ≡ vec_len c.args.doors = ap (λ (s : SeatsMade). s.lanes) (c.seats.view_is ∙ c.requires.seats) in
    let lanes : length both.result.0.items ≡ vec_len c.args.doors = numbered_length (λ l. (g.D.Door.seen l.door).number) both.result.0.items (vec_len c.args.doors) (both.ensures.numbers ∙ c.make_lanes-lanes.ensures.numbers) in
    let room = c.seats.invariant.9 in
    (c.seats.invariant.8, omega (arith, count, lanes, room, both.result.0.ok.0))

pub close_all-requires-clause-numbers : goal.close_all-requires-clause-numbers
close_all-requires-clause-numbers g c =
    let both = c.run_both-lanes in
    let lanes : length both.result.0.items ≡ vec_len c.args.doors = numbered_length (λ l. (g.D.Door.seen l.door).number) both.result.0.items (vec_len c.args.doors) (both.ensures.numbers ∙ c.make_lanes-lanes.ensures.numbers) in
    let many : vec_len c.args.doors ≡ vec_len both.result.0 = omega (arith, lanes, both.result.0.ok.0) in
    both.ensures.numbers ∙ c.make_lanes-lanes.ensures.numbers ∙ ap (λ (n : ℕ). numbers_from 0 n) many

pub close_all-requires-clause-seats : goal.close_all-requires-clause-seats
close_all-requires-clause-seats g c =
    let both = c.run_both-lanes in
    let count : c.seats.inside.count ≡ vec_len c.args.doors = ap (λ (s : SeatsMade). s.lanes) (c.seats.view_is ∙ c.requires.seats) in
    let lanes : length both.result.0.items ≡ vec_len c.args.doors = numbered_length (λ l. (g.D.Door.seen l.door).number) both.result.0.items (vec_len c.args.doors) (both.ensures.numbers ∙ c.make_lanes-lanes.ensures.numbers) in
    let many : c.seats.inside.count ≡ vec_len both.result.0 = omega (arith, count, lanes, both.result.0.ok.0) in
    subst (λ ns. HasEach (vec_len both.result.0) c.seats.inside.own.number ns) (sym both.ensures.seats)
    (subst (λ (n : ℕ). HasEach n c.seats.inside.own.number (map (λ w. w.pass.number) c.seats.inside.workers.items)) many c.seats.invariant.5)

pub returns-clause-settings : goal.returns-clause-settings
returns-clause-settings g c = c.close_all.ensures.settings ∙ ap (λ (s : SeatsMade). s.settings) (c.seats.view_is ∙ c.requires.seats)

pub returns-clause-numbers : goal.returns-clause-numbers
returns-clause-numbers g c =
    let both = c.run_both-lanes in
    let lanes : length both.result.0.items ≡ vec_len c.args.doors = numbered_length (λ l. (g.D.Door.seen l.door).number) both.result.0.items (vec_len c.args.doors) (both.ensures.numbers ∙ c.make_lanes-lanes.ensures.numbers) in
    let many : vec_len both.result.0 ≡ vec_len c.args.doors = omega (arith, lanes, both.result.0.ok.0) in
    c.close_all.ensures.numbers ∙ ap (λ (n : ℕ). numbers_from 0 n) many

pub returns-clause-entries : goal.returns-clause-entries
returns-clause-entries g c =
    let both = c.run_both-lanes in
    let lanes : length both.result.0.items ≡ vec_len c.args.doors = numbered_length (λ l. (g.D.Door.seen l.door).number) both.result.0.items (vec_len c.args.doors) (both.ensures.numbers ∙ c.make_lanes-lanes.ensures.numbers) in
    let many : vec_len both.result.0 ≡ vec_len c.args.doors = omega (arith, lanes, both.result.0.ok.0) in
    subst (λ (n : ℕ). AreOfLanes n c.close_all.result.book.journal) many c.close_all.ensures.entries
