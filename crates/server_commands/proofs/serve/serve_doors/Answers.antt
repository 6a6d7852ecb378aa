use Rattle.std.proofs.Common.{map}
use Rattle.server_commands.proofs.Serving.{doors_served, spent_told}
use Rattle.server_commands.proofs.serve.serve_doors.Goals as goal

pub returns-clause-served : goal.returns-clause-served
returns-clause-served g c =
    let run = c.run_lanes-served in
    doors_served c.args.counts (g.H.Host.seen c.args.host.now) (g.H.Host.seen c.close_doors.new.self) g.K.Serving.service run.result.book _ (map g.D.Door.seen run.result.doors.items) run.result.failed run.result.memory
    run.result.spent c.ended_of.result c.requires.service c.requires.count run.ensures.settings run.ensures.served run.ensures.numbers run.ensures.entries run.ensures.over
    run.ensures.failed run.ensures.memory run.ensures.turns run.ensures.work c.close_doors.ensures.host c.ended_of.ensures

pub returns-clause-spent : goal.returns-clause-spent
returns-clause-spent g c =
    let run = c.run_lanes-served in
    spent_told run.result.book run.result.failed run.result.memory run.result.spent c.ended_of.result c.ended_of.ensures
