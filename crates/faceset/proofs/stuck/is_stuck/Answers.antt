use Rattle.std.proofs.Common.{option_copied}
use Rattle.faceset.specs.FaceSets.{IsStuck}
use Rattle.faceset.proofs.Unique.{cut_unstuck}
use Rattle.faceset.proofs.Loops.{unbridged_stuck}
use Rattle.faceset.proofs.StuckFaces.{is_such, not_such, unready_unstuck}
use Rattle.faceset.proofs.stuck.is_stuck.Goals as goal

pub returns-in-Cut : goal.returns-in-Cut
returns-in-Cut c =
    let cut = rw c.in-Cut.is at c.in_ok-_triangles.ensures.outcome in
    not_such IsStuck c.args.exchange.now (option_copied c.args.numbers) c.args.points.now c.args.id c.in-Some.face c.in-Some.ensures
    (cut_unstuck (option_copied c.args.numbers) c.args.points.now c.in-Some.face c.in-Cut._triangles.items cut)

pub returns-in-Stuck : goal.returns-in-Stuck
returns-in-Stuck c =
    let stuck = rw c.in-Stuck.is at c.in_ok-_triangles.ensures.outcome in
    is_such IsStuck c.args.exchange.now (option_copied c.args.numbers) c.args.points.now c.args.id c.in-Some.face c.in-Some.ensures stuck.0

pub returns-in-Unbridged : goal.returns-in-Unbridged
returns-in-Unbridged c =
    let apart = rw c.in-Unbridged.is at c.in_ok-_triangles.ensures.outcome in
    is_such IsStuck c.args.exchange.now (option_copied c.args.numbers) c.args.points.now c.args.id c.in-Some.face c.in-Some.ensures
    (unbridged_stuck (option_copied c.args.numbers) c.args.points.now c.in-Some.face apart)

pub returns-in-Unready : goal.returns-in-Unready
returns-in-Unready c =
    let unready = rw c.in-Unready.is at c.in_ok-_triangles.ensures.outcome in
    not_such IsStuck c.args.exchange.now (option_copied c.args.numbers) c.args.points.now c.args.id c.in-Some.face c.in-Some.ensures
    (unready_unstuck (option_copied c.args.numbers) c.args.points.now c.in-Some.face unready)
