use Rattle.std.proofs.Common.{◌∙◌, ap, ◌+◌, ◌++◌, ◌∷◌, [], List, get_or}
use Rattle.ear_cut.specs.declared.corners.Corner.{Corner}
use Rattle.ear_cut.specs.Corners.{nobody}
use Rattle.ear_cut.proofs.Places.{corner}
use Rattle.void_bridge.proofs.HolesRead.{corners_next}
use Rattle.void_bridge.proofs.hole_loops.corners_after.Goals as goal

pub loop-i-preserved : goal.loop-i-preserved
loop-i-preserved c =
    let ps = c.args.points.now in let i = c.loop-i.i in let n = c.args.first in
    c.in_ok-push.ensures.items ∙ (ap (λ (cs : List Corner). cs ++ corner (n + i) (get_or ps i nobody.point) ∷ []) c.loop-i.invariant ∙ corners_next n ps i nobody.point c.loop-i-test.true)
