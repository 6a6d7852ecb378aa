use Rattle.std.proofs.Common.{option_copied, List, subst}
use Rattle.p21_values.specs.declared.value.Value21.{Value21}
use Rattle.bim_model.specs.Points.{IsGridPoint}
use Rattle.faceset.specs.FaceSets.{AreCorners}
use Rattle.p21_values.proofs.Turns.{ended}
use Rattle.faceset.proofs.Corners.{corners_more}
use Rattle.faceset.proofs.faces.corners_of.Goals as goal

pub loop-value-preserved : goal.loop-value-preserved
loop-value-preserved c =
    corners_more IsGridPoint (option_copied c.args.numbers) c.args.points.now c.loop-value.yielded c.loop-value.made.items c.push.new.self.items c.in-Some.value c.in-Some-corner.point
    c.requires c.in-Some-corner.ensures c.in_ok-push-in-Some-corner.ensures.items c.loop-value.invariant

pub returns : goal.returns
returns c =
    let all = ended c.args.indexes.now c.loop-value.yielded (cc) _ c.loop-value.yielded_by _ c.in-None.is c.next.ensures.steps in
    (subst (λ (indexes : List Value21). AreCorners (option_copied c.args.numbers) c.args.points.now indexes c.loop-value.made.items) all c.loop-value.invariant.0, c.loop-value.invariant.1)
