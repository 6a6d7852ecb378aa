use Rattle.std.proofs.Common.{arith}
use Rattle.std.proofs.lemmas.Bool.{MatchBool-at_true, MatchBool-at_false}
use Rattle.std.proofs.lemmas.List.Elements.{All-more}
use Rattle.model_build.specs.inner.Outcomes.{ShowsApartSet}
use Rattle.model_build.proofs.ManyCorners.{any_here, none_any}
use Rattle.model_build.proofs.uncut_faces.some_unbridged.Goals as goal

pub returns-then-apart : goal.returns-then-apart
returns-then-apart c =
    any_here (λ k. ShowsApartSet c.args.exchange.now c.args.scale c.args.mode k c.args.face) c.args.ids.now c.loop-id.id-index c.loop-id-test.true
    (MatchBool-at_true _ _ c.if-apart.true c.in_ok-apart.ensures)

pub loop-id-preserved : goal.loop-id-preserved
loop-id-preserved c =
    All-more (λ k. ShowsApartSet c.args.exchange.now c.args.scale c.args.mode k c.args.face → ⊥) c.args.ids.now c.loop-id.id-index 0 c.loop-id-test.true c.loop-id.invariant
    (MatchBool-at_false _ _ c.if-apart.false c.in_ok-apart.ensures)

pub returns : goal.returns
returns c = none_any (λ k. ShowsApartSet c.args.exchange.now c.args.scale c.args.mode k c.args.face) c.args.ids.now c.loop-id.id-index (omega (arith, c.loop-id-test.false)) c.loop-id.invariant
