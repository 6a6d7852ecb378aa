use Rattle.std.proofs.Common.{◌≡◌, ◌∙◌, ◌<◌, ◌≤◌, ap, sym, subst, ◌-◌, length, List, Option, Some, None, IfOk, MatchOption, arith}
use Rattle.bim_model.specs.declared.geometry.Point.{Point}
use Rattle.ear_cut.specs.declared.corners.Corner.{Corner}
use Rattle.ear_cut.specs.PolygonViews.{view_of}
use Rattle.ear_cut.specs.declared.ears.Ear.{Ear}
use Rattle.ear_cut.specs.Corners.{AreInGrid, corners_from}
use Rattle.ear_cut.specs.Removal.{cut_by}
use Rattle.ear_cut.proofs.Places.{length-corners}
use Rattle.ear_cut.proofs.Steps.{begun, corners_in_grid}
use Rattle.ear_cut.proofs.removal.triangles_of.Goals as goal

-- three or more
enough : (points : List Point) (left : List Corner) → left ≡ corners_from 0 points → 3 ≤ length points → 2 < length left
enough points left e h = let n = ap length e ∙ length-corners 0 points in omega (arith, n, h)

pub fan_seen-requires-clause-many : goal.fan_seen-requires-clause-many
fan_seen-requires-clause-many c = subst (λ (cs : List Corner). 2 < length cs) (sym c.deref.ensures.value) (enough c.args.corners.now c.in_ok-left.left.items c.in_ok-left.ensures c.requires.three)

pub fan_seen-requires-clause-left_in : goal.fan_seen-requires-clause-left_in
fan_seen-requires-clause-left_in c = subst (λ (cs : List Corner). AreInGrid cs) (sym c.deref.ensures.value) (corners_in_grid c.args.corners.now c.in_ok-left.left.items c.in_ok-left.ensures c.requires.in_grid)

pub clipped-requires-clause-many : goal.clipped-requires-clause-many
clipped-requires-clause-many c = enough c.args.corners.now c.in_ok-left.left.items c.in_ok-left.ensures c.requires.three

pub clipped-requires-clause-left_in : goal.clipped-requires-clause-left_in
clipped-requires-clause-left_in c = corners_in_grid c.args.corners.now c.in_ok-left.left.items c.in_ok-left.ensures c.requires.in_grid

pub returns-in-Some : goal.returns-in-Some
returns-in-Some c =
    let found = rw c.in-Some.is at c.in_ok-ears.ensures in
    begun c.args.corners.now c.view_of-view.result c.in_ok-left.left.items (c.view_of-view.ensures ∙ ap view_of c.normal_of.ensures) c.in_ok-left.ensures
    ∙ subst (λ (cs : List Corner). cut_by c.view_of-view.result (length cs - 3) cs ≡ Some c.in-Some.ears.items) c.deref.ensures.value found

pub returns-in-None : goal.returns-in-None
returns-in-None c =
    subst (λ (o : Option (List Ear)). IfOk c.clipped.result (λ found. MatchOption found (o ≡ None) (λ ears. o ≡ Some ears.items)))
    (sym (begun c.args.corners.now c.view_of-view.result c.in_ok-left.left.items (c.view_of-view.ensures ∙ ap view_of c.normal_of.ensures) c.in_ok-left.ensures)) c.clipped.ensures
