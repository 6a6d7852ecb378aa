use Rattle.std.proofs.Common.{◌≡◌, List, map, IfOk, ap, ◌++◌, ◌∙◌, Vec, Global, subst}
use Rattle.bim_model.specs.declared.geometry.Point.{Point}
use Rattle.faceset.specs.FaceSets.{triangle_of}
use Rattle.faceset.proofs.PolygonsMade.{items_of}
use Rattle.faceset.proofs.Loops.{flat}
use Rattle.faceset.proofs.faces.made_of.Goals as goal

pub returns : goal.returns
returns c =
    let loops = c.args.loops in
    let corners = c.deref-2.ensures.value ∙ (c.in_ok-add_loops.ensures ∙ ap (λ (vs : List (Vec Point Global)). loops.outer.items ++ flat (items_of vs)) c.deref.ensures.value) in
    subst (λ (cs : List Point). IfOk c.triangles_of.result (λ made. made.items ≡ map (triangle_of cs) c.args.ears.now)) corners c.triangles_of.ensures
