use Rattle.std.proofs.Common.{◌+◌, ◌≤◌, List, length, map, ap, sym, ◌∙◌, subst, Vec, Global, ℕ}
use Rattle.bim_model.specs.declared.geometry.Point.{Point}
use Rattle.ear_cut.specs.Areas.{point_at}
use Rattle.void_bridge.specs.HoleLoops.{IsLoop, AreLoops, corner_count}
use Rattle.faceset.specs.FacePolygons.{ears_of}
use Rattle.faceset.specs.FaceSets.{most_corners}
use Rattle.walk_rows.specs.inner.LoopRows.{inner_of}
use Rattle.walk_rows.proofs.RingsRead.{items_of}
use Rattle.walk_rows.proofs.EarRows.{ring_is, rings_are, rings_few}
use Rattle.walk_rows.proofs.face_rows.face_ears.Goals as goal

pub cut_loops-requires-clause-outer_is : goal.cut_loops-requires-clause-outer_is
cut_loops-requires-clause-outer_is c =
    let points = c.args.points.now in
    let places = c.args.places.now in
    let same = c.in_ok-outer.ensures ∙ ap (map (point_at points)) c.deref.ensures.value in
    subst (λ (ps : List Point). IsLoop ps) (sym c.deref-3.ensures.value) (ring_is points places.outer.items c.in_ok-outer.outer.items c.requires.in_grid c.requires.rings.outer same)

pub cut_loops-requires-clause-inner_are : goal.cut_loops-requires-clause-inner_are
cut_loops-requires-clause-inner_are c =
    let points = c.args.points.now in
    let places = c.args.places.now in
    let others = c.in_ok-inner.ensures ∙ ap (λ (vs : List (Vec ℕ Global)). map (map (point_at points)) (items_of vs)) c.deref-2.ensures.value in
    subst (λ (vs : List (Vec Point Global)). AreLoops (items_of vs)) (sym c.deref-4.ensures.value) (rings_are points (inner_of places) (items_of c.in_ok-inner.inner.items) c.requires.in_grid c.requires.rings.inner.three others)

pub cut_loops-requires-clause-few : goal.cut_loops-requires-clause-few
cut_loops-requires-clause-few c =
    let points = c.args.points.now in
    let places = c.args.places.now in
    let same = c.in_ok-outer.ensures ∙ ap (map (point_at points)) c.deref.ensures.value in
    let others = c.in_ok-inner.ensures ∙ ap (λ (vs : List (Vec ℕ Global)). map (map (point_at points)) (items_of vs)) c.deref-2.ensures.value in
    let few = rings_few points places.outer.items (inner_of places) c.in_ok-outer.outer.items (items_of c.in_ok-inner.inner.items) c.requires.rings.inner same others in
    subst (λ (ps : List Point). length ps + corner_count (items_of c.deref-4.result.now) ≤ most_corners) (sym c.deref-3.ensures.value)
    (subst (λ (vs : List (Vec Point Global)). length c.in_ok-outer.outer.items + corner_count (items_of vs) ≤ most_corners) (sym c.deref-4.ensures.value) few)

pub returns-in-Cut : goal.returns-in-Cut
returns-in-Cut c =
    let points = c.args.points.now in
    let places = c.args.places.now in
    let same = c.deref-3.ensures.value ∙ (c.in_ok-outer.ensures ∙ ap (map (point_at points)) c.deref.ensures.value) in
    let others = ap items_of c.deref-4.ensures.value ∙ (c.in_ok-inner.ensures ∙ ap (λ (vs : List (Vec ℕ Global)). map (map (point_at points)) (items_of vs)) c.deref-2.ensures.value) in
    let cut = rw c.in-Cut.is at c.in_ok-ears.ensures in
    ap (λ (ps : List Point). ears_of ps (map (map (point_at points)) (inner_of places))) (sym same) ∙ (ap (ears_of c.deref-3.result.now) (sym others) ∙ cut)
