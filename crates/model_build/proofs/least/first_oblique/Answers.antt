use Rattle.std.proofs.Common.{get_or, arith}
use Rattle.std.proofs.lemmas.List.Elements.{All-more, Contains-get_or}
use Rattle.model_build.specs.FaultyInstances.{IsOblique}
use Rattle.model_build.proofs.FirstIsLeast.{least_here, none_there}
use Rattle.model_build.proofs.least.first_oblique.Goals as goal

pub is_oblique-requires-clause-placement : goal.is_oblique-requires-clause-placement
is_oblique-requires-clause-placement c = c.requires.placements (get_or c.args.used.now c.loop-id.id-index 0) (Contains-get_or c.args.used.now c.loop-id.id-index 0 c.loop-id-test.true)

pub is_oblique-requires-clause-operator : goal.is_oblique-requires-clause-operator
is_oblique-requires-clause-operator c = c.requires.operators (get_or c.args.used.now c.loop-id.id-index 0) (Contains-get_or c.args.used.now c.loop-id.id-index 0 c.loop-id-test.true)

pub returns-then-is_oblique : goal.returns-then-is_oblique
returns-then-is_oblique c = least_here (IsOblique c.args.exchange.now) c.args.used.now c.loop-id.id-index c.requires.rises c.loop-id-test.true c.loop-id.invariant c.if-is_oblique.ensures

pub loop-id-preserved : goal.loop-id-preserved
loop-id-preserved c = All-more (λ k. IsOblique c.args.exchange.now k → ⊥) c.args.used.now c.loop-id.id-index 0 c.loop-id-test.true c.loop-id.invariant c.if-is_oblique.ensures

pub returns : goal.returns
returns c = none_there (IsOblique c.args.exchange.now) c.args.used.now c.loop-id.id-index (omega (arith, c.loop-id-test.false)) c.loop-id.invariant
