use Rattle.std.proofs.Common.{◌≤◌, length, refl, arith}
use Rattle.std.proofs.lemmas.List.Elements.{All-more}
use Rattle.bim_model.specs.declared.geometry.Triangle.{Triangle}
use Rattle.clearance.specs.Near.{Near}
use Rattle.tri_exact.proofs.Choice.{not_both}
use Rattle.clearance.proofs.Lists.{no_any, finished, some_any}
use Rattle.clearance.proofs.triangle_runs.list_near.Goals as goal

pub returns-then-pair_near : goal.returns-then-pair_near
returns-then-pair_near c = (λ x. some_any (λ (q : Triangle). Near c.args.p.now q c.args.d) c.args.qs.now c.loop-q.q-index _ c.loop-q-test.true (c.pair_near.ensures.0 c.if-pair_near.true), λ x. refl)

pub loop-q-preserved : goal.loop-q-preserved
loop-q-preserved c =
    All-more (λ (q : Triangle). Near c.args.p.now q c.args.d → ⊥) c.args.qs.now c.loop-q.q-index _ c.loop-q-test.true c.loop-q.invariant
    (λ y. not_both c.if-pair_near.false (c.pair_near.ensures.1 y))

pub returns : goal.returns
returns c =
    let h : length c.args.qs.now ≤ c.loop-q.q-index = omega (arith, c.loop-q-test.false) in
    (λ x. absurd (cc x), λ y. absurd (no_any (λ (q : Triangle). Near c.args.p.now q c.args.d) c.args.qs.now (finished (λ (q : Triangle). Near c.args.p.now q c.args.d → ⊥) c.args.qs.now c.loop-q.q-index h c.loop-q.invariant) y))
