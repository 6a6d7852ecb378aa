use Rattle.std.proofs.Common.{◌+◌, ℕ, map, sym, ap, ◌∙◌, subst}
use Rattle.check_workers.specs.Joins.{HasEach}
use Rattle.serve_lanes.proofs.lanes.Seats.new.Goals as goal

pub invariant_of-result : goal.invariant_of-result
invariant_of-result g c =
    let turn = c.in_ok-turn.ensures in
    let workers = c.in_ok-workers.ensures in (
      turn.own,
      turn.number ∙ ap (λ (n : ℕ). c.args.lanes + n) (sym workers.count),
      turn.passes ∙ ap (λ (n : ℕ). n + 1) (sym turn.number),
      workers.others,
      workers.new,
      subst (λ (n : ℕ). HasEach c.args.lanes n (map (λ w. w.pass.number) c.in_ok-workers.workers.items)) (sym turn.number) workers.numbers,
      c.in_ok-room.ensures.items,
      c.in_ok-room.ensures.capacity,
      c.in_ok-doors.ensures.items,
      c.in_ok-doors.ensures.capacity,
    )
