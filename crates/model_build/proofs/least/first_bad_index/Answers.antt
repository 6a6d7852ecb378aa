use Rattle.std.proofs.Common.{arith}
use Rattle.std.proofs.lemmas.Bool.{MatchBool-at_true, MatchBool-at_false}
use Rattle.std.proofs.lemmas.List.Elements.{All-more}
use Rattle.model_build.specs.FaultyInstances.{IsBadSet}
use Rattle.model_build.proofs.FirstIsLeast.{least_here, none_there}
use Rattle.model_build.proofs.least.first_bad_index.Goals as goal

pub loop-id-init : goal.loop-id-init
loop-id-init c = record { well = λ k d lt bad. omega (arith, lt); kept = c.new-learnt.ensures c.args.exchange.now }

pub returns-then-bad : goal.returns-then-bad
returns-then-bad c =
    least_here (IsBadSet c.args.exchange.now) c.args.used.now c.loop-id.id-index c.requires c.loop-id-test.true c.loop-id.invariant.well (MatchBool-at_true _ _ c.if-bad.true c.in_ok-bad.ensures.bad)

pub loop-id-preserved : goal.loop-id-preserved
loop-id-preserved c = record {
  well =
      All-more (λ k. IsBadSet c.args.exchange.now k → ⊥) c.args.used.now c.loop-id.id-index 0 c.loop-id-test.true c.loop-id.invariant.well (MatchBool-at_false _ _ c.if-bad.false c.in_ok-bad.ensures.bad);
  kept = c.in_ok-bad.ensures.kept;
}

pub returns : goal.returns
returns c = none_there (IsBadSet c.args.exchange.now) c.args.used.now c.loop-id.id-index (omega (arith, c.loop-id-test.false)) c.loop-id.invariant.well
