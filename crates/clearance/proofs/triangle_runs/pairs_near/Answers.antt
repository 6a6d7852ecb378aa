use Rattle.std.proofs.Common.{◌≤◌, length, refl, arith}
use Rattle.std.proofs.lemmas.List.Elements.{All-more}
use Rattle.bim_model.specs.declared.geometry.Triangle.{Triangle}
use Rattle.clearance.specs.Near.{NearAny}
use Rattle.tri_exact.proofs.Choice.{not_both}
use Rattle.clearance.proofs.Lists.{no_any, finished, some_any}
use Rattle.clearance.proofs.triangle_runs.pairs_near.Goals as goal

pub returns-then-any_near : goal.returns-then-any_near
returns-then-any_near c = (λ x. some_any (λ (p : Triangle). NearAny p c.args.qs.now c.args.d) c.args.ps.now c.loop-p.p-index _ c.loop-p-test.true (c.any_near.ensures.0 c.if-any_near.true), λ x. refl)

pub loop-p-preserved : goal.loop-p-preserved
loop-p-preserved c =
    All-more (λ (p : Triangle). NearAny p c.args.qs.now c.args.d → ⊥) c.args.ps.now c.loop-p.p-index _ c.loop-p-test.true c.loop-p.invariant
    (λ y. not_both c.if-any_near.false (c.any_near.ensures.1 y))

pub returns : goal.returns
returns c =
    let h : length c.args.ps.now ≤ c.loop-p.p-index = omega (arith, c.loop-p-test.false) in
    (λ x. absurd (cc x), λ y. absurd (no_any (λ (p : Triangle). NearAny p c.args.qs.now c.args.d) c.args.ps.now (finished (λ (p : Triangle). NearAny p c.args.qs.now c.args.d → ⊥) c.args.ps.now c.loop-p.p-index h c.loop-p.invariant) y))
