use Rattle.std.proofs.Common.{arith}
use Rattle.std.proofs.lemmas.List.Elements.{All-more}
use Rattle.ifc_elements.specs.Finding.{Finds}
use Rattle.model_build.specs.Faces.{HasManyCorners}
use Rattle.model_build.proofs.ManyCorners.{any_here, none_any}
use Rattle.model_build.proofs.full_faces.some_has_many_corners.Goals as goal

pub returns-then-is_full : goal.returns-then-is_full
returns-then-is_full c = any_here (λ k. Finds c.args.exchange.now k HasManyCorners) c.args.used.now c.loop-id.id-index c.loop-id-test.true c.if-is_full.ensures

pub loop-id-preserved : goal.loop-id-preserved
loop-id-preserved c = All-more (λ k. Finds c.args.exchange.now k HasManyCorners → ⊥) c.args.used.now c.loop-id.id-index 0 c.loop-id-test.true c.loop-id.invariant c.if-is_full.ensures

pub returns : goal.returns
returns c = none_any (λ k. Finds c.args.exchange.now k HasManyCorners) c.args.used.now c.loop-id.id-index (omega (arith, c.loop-id-test.false)) c.loop-id.invariant
