use Rattle.std.proofs.Common.{option_copied, arith}
use Rattle.std.proofs.lemmas.Bool.{MatchBool-at_true, MatchBool-at_false}
use Rattle.std.proofs.lemmas.List.Elements.{All-more}
use Rattle.faceset.specs.inner.FaceNumbers.{IsStuckFace}
use Rattle.faceset.proofs.StuckFaces.{first_least, none_at_all}
use Rattle.faceset.proofs.stuck.first_in.Goals as goal

pub returns-then-stuck : goal.returns-then-stuck
returns-then-stuck c =
    first_least (IsStuckFace c.args.exchange.now (option_copied c.args.numbers) c.args.points.now) c.args.ids.now c.loop-id.id-index c.requires.rises c.loop-id-test.true c.loop-id.invariant
    (MatchBool-at_true _ _ c.if-stuck.true c.in_ok-stuck.ensures)

pub loop-id-preserved : goal.loop-id-preserved
loop-id-preserved c =
    All-more (λ id. IsStuckFace c.args.exchange.now (option_copied c.args.numbers) c.args.points.now id → ⊥) c.args.ids.now c.loop-id.id-index 0 c.loop-id-test.true c.loop-id.invariant
    (MatchBool-at_false _ _ c.if-stuck.false c.in_ok-stuck.ensures)

pub returns : goal.returns
returns c = none_at_all (IsStuckFace c.args.exchange.now (option_copied c.args.numbers) c.args.points.now) c.args.ids.now c.loop-id.id-index (omega (arith, c.loop-id-test.false)) c.loop-id.invariant
