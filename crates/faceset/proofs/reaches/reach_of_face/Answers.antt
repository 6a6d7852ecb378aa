use Rattle.std.proofs.Common.{List, All, Any, subst}
use Rattle.p21_values.specs.declared.value.Value21.{Value21}
use Rattle.faceset.specs.Indexes.{PointsNowhere}
use Rattle.faceset.specs.FaceSets.{outline, spelled_loops}
use Rattle.faceset.specs.Reaches.{CountsFrom}
use Rattle.faceset.proofs.Anys.{any_right}
use Rattle.faceset.proofs.Reaching.{rows_more}
use Rattle.faceset.proofs.Rows.{held}
use Rattle.faceset.proofs.reaches.reach_of_face.Goals as goal

pub returns-in-Some-reach_of_rows : goal.returns-in-Some-reach_of_rows
returns-in-Some-reach_of_rows c =
    let face = c.args.face.now in
    let o = c.in-Some.ensures in
    let i = c.in-Some-reach_of_rows.ensures in
    let outer = subst (λ (vs : List Value21). All (CountsFrom c.in-Some.outer) vs) c.outline.ensures o.0 in
    let inner = subst (λ (vs : List Value21). All (CountsFrom c.in-Some-reach_of_rows.inner) (held vs)) c.spelled_loops.ensures i.0 in (
      rows_more (outline face) (held (spelled_loops face)) c.in-Some.outer c.in-Some-reach_of_rows.inner c.greater.result c.greater.ensures.first c.greater.ensures.second outer inner,
      c.greater.ensures.within c.args.count o.1 i.1,
    )

pub returns-in-None : goal.returns-in-None
returns-in-None c =
    let face = c.args.face.now in
    any_right (PointsNowhere c.args.count) (outline face) (held (spelled_loops face)) (subst (λ (vs : List Value21). Any (PointsNowhere c.args.count) (held vs)) c.spelled_loops.ensures c.in-None.ensures)
