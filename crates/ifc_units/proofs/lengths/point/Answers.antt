use Rattle.std.proofs.Common.{◌≡◌, [], ◌∷◌, Some, sym, ap, ◌∙◌}
use Rattle.p21_values.specs.Values.{items_of}
use Rattle.ifc_units.proofs.PointFacts.{point_match}
use Rattle.ifc_units.proofs.lengths.point.Goals as goal

pub returns-in-Some-three : goal.returns-in-Some-three
returns-in-Some-three c =
    let t = c.in-Some-three.found in
    let items : items_of c.args.value.now ≡ Some (t.x ∷ t.y ∷ t.z ∷ []) = sym c.items.ensures ∙ c.in-Some.is ∙ ap Some c.in-Some-three.ensures in
    point_match c.args.scale c.args.mode c.args.value.now t.x t.y t.z c.point_of.result items c.point_of.ensures
