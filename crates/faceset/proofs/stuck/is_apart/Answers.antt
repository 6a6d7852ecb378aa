use Rattle.std.proofs.Common.{option_copied}
use Rattle.faceset.specs.FaceSets.{IsUnbridged}
use Rattle.faceset.proofs.Unique.{cut_unstuck}
use Rattle.faceset.proofs.Loops.{unbridged_stuck}
use Rattle.faceset.proofs.StuckFaces.{is_such, not_such, unready_unstuck}
use Rattle.faceset.proofs.stuck.is_apart.Goals as goal

pub returns-in-Cut : goal.returns-in-Cut
returns-in-Cut c =
    let cut = rw c.in-Cut.is at c.in_ok-_triangles.ensures.outcome in
    let numbers = option_copied c.args.numbers in let points = c.args.points.now in let face = c.in-Some.face in
    not_such IsUnbridged c.args.exchange.now numbers points c.args.id face c.in-Some.ensures
    (λ u. cut_unstuck numbers points face c.in-Cut._triangles.items cut (unbridged_stuck numbers points face u))

pub returns-in-Stuck : goal.returns-in-Stuck
returns-in-Stuck c =
    let stuck = rw c.in-Stuck.is at c.in_ok-_triangles.ensures.outcome in
    not_such IsUnbridged c.args.exchange.now (option_copied c.args.numbers) c.args.points.now c.args.id c.in-Some.face c.in-Some.ensures stuck.1

pub returns-in-Unbridged : goal.returns-in-Unbridged
returns-in-Unbridged c =
    let apart = rw c.in-Unbridged.is at c.in_ok-_triangles.ensures.outcome in
    is_such IsUnbridged c.args.exchange.now (option_copied c.args.numbers) c.args.points.now c.args.id c.in-Some.face c.in-Some.ensures apart

pub returns-in-Unready : goal.returns-in-Unready
returns-in-Unready c =
    let unready = rw c.in-Unready.is at c.in_ok-_triangles.ensures.outcome in
    let numbers = option_copied c.args.numbers in let points = c.args.points.now in let face = c.in-Some.face in
    not_such IsUnbridged c.args.exchange.now numbers points c.args.id face c.in-Some.ensures
    (λ u. unready_unstuck numbers points face unready (unbridged_stuck numbers points face u))
