use Rattle.std.proofs.Common.{ℕ, map, subst, vec_len}
use Rattle.book_turn.specs.Entries.{AllBefore}
use Rattle.check_workers.specs.Joins.{pass_of}
use Rattle.serve_lanes.proofs.Closing.{closed_served, closed_entries}
use Rattle.serve_lanes.proofs.lanes.close_all.Goals as goal

pub returns-clause-served : goal.returns-clause-served
returns-clause-served g c =
    let into = c.join_lanes-into in
    closed_served g.K.Serving.service c.args.links c.args.turn into.result.into c.join_workers.new.into c.work_out.new.pass (map g.D.Door.seen into.result.doors.items) into.result.failed into.result.lack
    into.ensures.joined c.join_workers.ensures.extends c.work_out.ensures.teaches c.close.result.journal c.close.ensures.journal

pub returns-clause-entries : goal.returns-clause-entries
returns-clause-entries g c =
    let into = c.join_lanes-into in
    closed_entries g.K.Serving.service c.args.links c.args.turn into.result.into c.join_workers.new.into c.work_out.new.pass (map g.D.Door.seen into.result.doors.items) into.result.failed into.result.lack
    into.ensures.joined c.join_workers.ensures.extends c.work_out.ensures.teaches (vec_len c.args.lanes) c.args.own.number (map (λ w. w.pass.number) c.args.workers.items) c.close.result.journal
    c.close.ensures.journal into.ensures.numbers c.join_workers.ensures.numbers into.ensures.number c.requires.seats
    (subst (λ (n : ℕ). AllBefore pass_of n c.close.result.journal) c.requires.all c.close.ensures.passes)
