use Rattle.std.proofs.Common.{◌≤◌, List, length, All, sym, ap, ◌∙◌, subst, map}
use Rattle.bim_model.specs.declared.geometry.Point.{Point}
use Rattle.bim_model.specs.Points.{IsGridPoint}
use Rattle.ear_cut.specs.declared.ears.Ear.{Ear}
use Rattle.faceset.specs.FacePolygons.{ear_by}
use Rattle.faceset.specs.inner.Cuts.{polygon_limit}
use Rattle.faceset.proofs.PolygonsMade.{items_of, joined_three, joined_few, joined_grid, ears_are, no_ears}
use Rattle.faceset.proofs.polygons.joined_ears.Goals as goal

pub ears_of_polygon-requires-clause-three : goal.ears_of_polygon-requires-clause-three
ears_of_polygon-requires-clause-three c =
    subst (λ (ps : List Point). 3 ≤ length ps) (sym (c.deref.ensures.value ∙ c.in_ok-corners.ensures)) (joined_three c.args.outer.now (items_of c.args.inner.now) c.args.list.now c.requires.outer_is c.requires.joined)

pub ears_of_polygon-requires-clause-few : goal.ears_of_polygon-requires-clause-few
ears_of_polygon-requires-clause-few c =
    subst (λ (ps : List Point). length ps ≤ polygon_limit) (sym (c.deref.ensures.value ∙ c.in_ok-corners.ensures)) (joined_few c.args.outer.now (items_of c.args.inner.now) c.args.list.now c.requires.inner_are c.requires.few c.requires.joined)

pub ears_of_polygon-requires-clause-in_grid : goal.ears_of_polygon-requires-clause-in_grid
ears_of_polygon-requires-clause-in_grid c =
    subst (λ (ps : List Point). All IsGridPoint ps) (sym (c.deref.ensures.value ∙ c.in_ok-corners.ensures)) (joined_grid c.args.outer.now (items_of c.args.inner.now) c.args.list.now c.requires.outer_is c.requires.inner_are)

pub returns-in-Some : goal.returns-in-Some
returns-in-Some c =
    let outer = c.args.outer.now in
    let inner = items_of c.args.inner.now in
    let list = c.args.list.now in
    let cut = rw c.in-Some.is at c.in_ok-ears.ensures in
    ears_are outer inner list c.deref.result.now c.in-Some.ears.items c.in_ok-ears_placed-in-Some.field-0.items (c.deref.ensures.value ∙ c.in_ok-corners.ensures) cut
    (c.in_ok-ears_placed-in-Some.ensures ∙ ap (λ (es : List Ear). map (ear_by list) es) c.deref-in-Some.ensures.value)

pub returns : goal.returns
returns c =
    let stuck = rw c.in-None.is at c.in_ok-ears.ensures in
    no_ears c.args.outer.now (items_of c.args.inner.now) c.args.list.now c.deref.result.now (c.deref.ensures.value ∙ c.in_ok-corners.ensures) stuck
