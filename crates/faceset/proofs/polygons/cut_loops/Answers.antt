use Rattle.std.proofs.Common.{List, IfOk, sym, subst, arith}
use Rattle.bim_model.specs.declared.geometry.Point.{Point}
use Rattle.faceset.specs.FacePolygons.{IsLoopsCut}
use Rattle.faceset.proofs.PolygonsMade.{no_items}
use Rattle.faceset.proofs.polygons.cut_loops.Goals as goal

pub returns-then-inner-eq0 : goal.returns-then-inner-eq0
returns-then-inner-eq0 c =
    let none = no_items c.args.inner.now (omega (arith, c.if-inner-eq0.true)) in
    subst (λ (ls : List (List Point)). IfOk c.cut_outline.result (IsLoopsCut c.args.outer.now ls)) (sym none) c.cut_outline.ensures
