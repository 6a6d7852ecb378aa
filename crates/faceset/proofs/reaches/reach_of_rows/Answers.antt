use Rattle.std.proofs.Common.{List, All, Any, map, sym, subst}
use Rattle.p21_values.specs.declared.value.Value21.{Value21}
use Rattle.p21_values.specs.Attributes.{items_in}
use Rattle.p21_values.proofs.Turns.{turn, ended}
use Rattle.faceset.specs.Indexes.{PointsNowhere}
use Rattle.faceset.specs.Reaches.{CountsFrom}
use Rattle.faceset.proofs.Anys.{any_flat, any_mapped}
use Rattle.faceset.proofs.Reaching.{rows_more}
use Rattle.faceset.proofs.Rows.{held, held_more}
use Rattle.faceset.proofs.reaches.reach_of_rows.Goals as goal

pub returns-in_default : goal.returns-in_default
returns-in_default c =
    let t = turn c.args.rows.now c.loop-row.yielded (cc) _ c.loop-row.yielded_by _ c.in-Some.is c.next.ensures.steps in
    let bad = subst (λ (vs : List Value21). Any (PointsNowhere c.args.count) vs) c.items_in.ensures c.in_default.ensures in
    any_flat (PointsNowhere c.args.count) (map items_in c.args.rows.now) (any_mapped items_in (Any (PointsNowhere c.args.count)) c.args.rows.now _ c.in-Some.row t.0 t.1 bad)

pub loop-row-preserved : goal.loop-row-preserved
loop-row-preserved c =
    let here = c.in-Some-reach_of.ensures in
    let row = subst (λ (vs : List Value21). All (CountsFrom c.in-Some-reach_of.here) vs) c.items_in.ensures here.0 in (
      subst (λ (vs : List Value21). All (CountsFrom c.greater-reach.result) vs) (sym (held_more c.loop-row.yielded c.in-Some.row))
          (rows_more (held c.loop-row.yielded) (items_in c.in-Some.row) c.loop-row.reach c.in-Some-reach_of.here c.greater-reach.result c.greater-reach.ensures.first c.greater-reach.ensures.second c.loop-row.invariant.0 row),
      c.greater-reach.ensures.within c.args.count c.loop-row.invariant.1 here.1,
    )

pub returns : goal.returns
returns c =
    let all = ended c.args.rows.now c.loop-row.yielded (cc) _ c.loop-row.yielded_by _ c.in-None.is c.next.ensures.steps in
    (subst (λ (vs : List Value21). All (CountsFrom c.loop-row.reach) (held vs)) all c.loop-row.invariant.0, c.loop-row.invariant.1)
