use Rattle.std.proofs.Common.{arith, All, subst}
use Rattle.faceset.specs.Reaches.{CountsFrom}
use Rattle.p21_values.proofs.Turns.{ended}
use Rattle.faceset.proofs.Reaching.{reach_more}
use Rattle.faceset.proofs.reaches.reach_of.Goals as goal

pub loop-value-preserved : goal.loop-value-preserved
loop-value-preserved c =
    let p = c.in-Some-place_of.ensures.some in (
      reach_more c.loop-value.yielded c.in-Some.value c.args.count c.in-Some-place_of.place c.loop-value.reach c.greater-reach.result p
          c.greater-reach.ensures.first c.greater-reach.ensures.second c.loop-value.invariant.0,
      c.greater-reach.ensures.within c.args.count c.loop-value.invariant.1 (let lt = p.within in omega (arith, lt)),
    )

pub returns : goal.returns
returns c =
    let all = ended c.args.values.now c.loop-value.yielded (cc) _ c.loop-value.yielded_by _ c.in-None.is c.next.ensures.steps in
    (subst (All (CountsFrom c.loop-value.reach)) all c.loop-value.invariant.0, c.loop-value.invariant.1)
