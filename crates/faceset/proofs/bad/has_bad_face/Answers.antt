use Rattle.std.proofs.Common.{Any}
use Rattle.std.proofs.lemmas.Bool.{MatchBool-at_true, MatchBool-at_false}
use Rattle.faceset.specs.Indexes.{PointsNowhere}
use Rattle.faceset.specs.FaceSets.{all_corners}
use Rattle.p21_values.proofs.Turns.{turn, ended}
use Rattle.faceset.proofs.Named.{mapped_more, mapped_here, mapped_never}
use Rattle.faceset.proofs.bad.has_bad_face.Goals as goal

pub returns-then-bad-clause-bad : goal.returns-then-bad-clause-bad
returns-then-bad-clause-bad c =
    let t = turn c.args.values.now c.loop-value.yielded (cc) _ c.loop-value.yielded_by _ c.in-Some.is c.next.ensures.steps in
    mapped_here all_corners (Any (PointsNowhere c.args.count)) c.args.exchange.now c.args.values.now _ c.in-Some.value t.0 t.1
    (MatchBool-at_true _ _ c.if-bad.true c.in_ok-bad.ensures.bad)

pub loop-value-preserved : goal.loop-value-preserved
loop-value-preserved c = record {
  well =
      mapped_more all_corners (Any (PointsNowhere c.args.count)) c.args.exchange.now c.loop-value.yielded c.in-Some.value
      (MatchBool-at_false _ _ c.if-bad.false c.in_ok-bad.ensures.bad) c.loop-value.invariant.well;
  kept = c.in_ok-bad.ensures.kept;
}

pub returns-clause-bad : goal.returns-clause-bad
returns-clause-bad c =
    let all = ended c.args.values.now c.loop-value.yielded (cc) _ c.loop-value.yielded_by _ c.in-None.is c.next.ensures.steps in
    mapped_never all_corners (Any (PointsNowhere c.args.count)) c.args.exchange.now c.args.values.now c.loop-value.yielded all c.loop-value.invariant.well
