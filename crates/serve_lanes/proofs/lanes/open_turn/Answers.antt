use Rattle.std.proofs.Common.{◌≡◌, ◌+◌, ap, rules}
use Rattle.book_turn.specs.Passes.{new_passes}
use Rattle.book_passes.specs.Lessons.{BookPass}
use Rattle.check_workers.proofs.WorkersMade.{new_worker}
use Rattle.serve_lanes.proofs.LanesMade.{passes_opened}
use Rattle.serve_lanes.proofs.lanes.open_turn.Goals as goal

pub returns-clause-own : goal.returns-clause-own
returns-clause-own c =
    let made : c.in_ok-turn.passes.items ≡ new_passes c.in_ok-turn.turn 0 (c.args.count + 1) = search rules in
    new_worker c.in_ok-turn.turn c.args.count c.in-Some.own (passes_opened c.in_ok-turn.turn c.in_ok-turn.passes.items c.pop.new.self.items c.in-Some.own c.args.count made c.in-Some.ensures.items).1

pub returns-clause-number : goal.returns-clause-number
returns-clause-number c =
    let made : c.in_ok-turn.passes.items ≡ new_passes c.in_ok-turn.turn 0 (c.args.count + 1) = search rules in
    ap (λ (v : BookPass). v.number) (passes_opened c.in_ok-turn.turn c.in_ok-turn.passes.items c.pop.new.self.items c.in-Some.own c.args.count made c.in-Some.ensures.items).1

pub returns-clause-others : goal.returns-clause-others
returns-clause-others c =
    let made : c.in_ok-turn.passes.items ≡ new_passes c.in_ok-turn.turn 0 (c.args.count + 1) = search rules in
    (passes_opened c.in_ok-turn.turn c.in_ok-turn.passes.items c.pop.new.self.items c.in-Some.own c.args.count made c.in-Some.ensures.items).0
