use Rattle.std.proofs.Common.{List, option_copied, subst}
use Rattle.p21_values.specs.declared.value.Value21.{Value21}
use Rattle.p21_values.specs.Attributes.{items_in}
use Rattle.p21_values.proofs.Turns.{turn}
use Rattle.faceset.specs.FaceSets.{AreCorners}
use Rattle.faceset.specs.inner.Cuts.{IsUnread}
use Rattle.faceset.proofs.Anys.{any_mapped}
use Rattle.faceset.proofs.Read.{loops_more}
use Rattle.faceset.proofs.faces.loops_among.Goals as goal

pub loop-row-preserved : goal.loop-row-preserved
loop-row-preserved c =
    let numbers = option_copied c.args.numbers in
    let points = c.args.points.now in
    let made = rw c.in-Some-2.is at c.in_ok-corners.ensures in
    loops_more numbers points c.loop-row.yielded c.in-Some.row c.loop-row.made.items c.push.new.self.items c.in-Some-2.corners c.in_ok-push-in-Some-2.ensures.items
    (subst (λ (vs : List Value21). AreCorners numbers points vs c.in-Some-2.corners.items) c.items_in.ensures made.0, made.1) c.loop-row.invariant

pub returns-in-None-2 : goal.returns-in-None-2
returns-in-None-2 c =
    let numbers = option_copied c.args.numbers in
    let points = c.args.points.now in
    let t = turn c.args.rows.now c.loop-row.yielded (cc) _ c.loop-row.yielded_by _ c.in-Some.is c.next.ensures.steps in
    let unread = rw c.in-None-2.is at c.in_ok-corners.ensures in
    any_mapped items_in (IsUnread numbers points) c.args.rows.now _ c.in-Some.row t.0 t.1 (subst (λ (vs : List Value21). IsUnread numbers points vs) c.items_in.ensures unread)
