use Rattle.std.proofs.Common.{◌≡◌, ◌++◌, List, map, IfOk, ap, ◌∙◌, subst}
use Rattle.std.proofs.lemmas.Slice.{pushed}
use Rattle.bim_model.specs.declared.geometry.Point.{Point}
use Rattle.ear_cut.specs.Areas.{point_at}
use Rattle.faceset.proofs.Loops.{flat}
use Rattle.faceset.proofs.PolygonsMade.{items_of}
use Rattle.faceset.proofs.polygons.joined_points.Goals as goal

pub returns : goal.returns
returns c =
    let outer = pushed _ c.new-all.ensures.items c.in_ok-extend_from_slice.was c.extend_from_slice.ensures.items in
    let whole = c.deref.ensures.value ∙ (c.in_ok-add_loops.ensures ∙ ap (λ (ps : List Point). ps ++ flat (items_of c.args.inner.now)) outer) in
    subst (λ (ps : List Point). IfOk c.points_at.result (λ made. made.items ≡ map (point_at ps) c.args.list.now)) whole c.points_at.ensures
