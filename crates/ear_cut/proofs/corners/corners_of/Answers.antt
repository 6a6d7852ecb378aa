use Rattle.std.proofs.Common.{◌∙◌, ap, ◌++◌, ◌∷◌, [], List, get_or}
use Rattle.ear_cut.specs.declared.corners.Corner.{Corner}
use Rattle.ear_cut.specs.Corners.{nobody}
use Rattle.ear_cut.proofs.Places.{corner, corners_more}
use Rattle.ear_cut.proofs.corners.corners_of.Goals as goal

pub loop-place-preserved : goal.loop-place-preserved
loop-place-preserved c =
    let ps = c.args.points.now in let i = c.loop-place.place in
    c.in_ok-push.ensures.items ∙ (ap (λ (cs : List Corner). cs ++ corner i (get_or ps i nobody.point) ∷ []) c.loop-place.invariant ∙ corners_more ps i nobody.point c.loop-place-test.true)
