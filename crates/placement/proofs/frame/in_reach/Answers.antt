use Rattle.std.proofs.Common.{rules, sym, subst}
use Rattle.bim_model.specs.declared.geometry.Point.{Point}
use Rattle.bim_model.specs.Models.{IsInReach}
use Rattle.placement.specs.Frames.{IsNear, point_at}
use Rattle.ifc_units.proofs.PointFacts.{same_point}
use Rattle.placement.proofs.Numbers.{narrow, reached}
use Rattle.placement.proofs.frame.in_reach.Goals as goal

pub returns-then-is_near-3 : goal.returns-then-is_near-3
returns-then-is_near-3 c =
    let x : IsNear c.args.at.x = search rules in
    let y : IsNear c.args.at.y = search rules in
    let z : IsNear c.args.at.z = search rules in
    let e = same_point _ (point_at c.args.at) (narrow c.args.at.x c.requires.x x) (narrow c.args.at.y c.requires.y y) (narrow c.args.at.z c.requires.z z) in
    (e, subst (λ (p : Point). IsInReach p) (sym e) (reached (point_at c.args.at) x y z))
