use Rattle.std.proofs.Common.{◌≤◌, length, refl, arith}
use Rattle.std.proofs.lemmas.List.Elements.{All-more}
use Rattle.bim_model.specs.declared.geometry.Triangle.{Triangle}
use Rattle.tri_exact.proofs.Choice.{not_both}
use Rattle.clearance.proofs.Lists.{no_any, finished, some_any}
use Rattle.tri_pierce.specs.Piercing.{Pierces}
use Rattle.tri_pierce.proofs.piercing_lists.pierces_any.Goals as goal

pub returns-then-pierces : goal.returns-then-pierces
returns-then-pierces c = (λ x. some_any (λ (q : Triangle). Pierces c.args.p.now q) c.args.qs.now c.loop-q.q-index _ c.loop-q-test.true (c.pierces.ensures.pierce.0 c.if-pierces.true), λ x. refl)

pub loop-q-preserved : goal.loop-q-preserved
loop-q-preserved c =
    All-more (λ (q : Triangle). Pierces c.args.p.now q → ⊥) c.args.qs.now c.loop-q.q-index _ c.loop-q-test.true c.loop-q.invariant
    (λ y. not_both c.if-pierces.false (c.pierces.ensures.pierce.1 y))

pub returns : goal.returns
returns c =
    let h : length c.args.qs.now ≤ c.loop-q.q-index = omega (arith, c.loop-q-test.false) in
    (λ x. absurd (cc x), λ y. absurd (no_any (λ (q : Triangle). Pierces c.args.p.now q) c.args.qs.now (finished (λ (q : Triangle). Pierces c.args.p.now q → ⊥) c.args.qs.now c.loop-q.q-index h c.loop-q.invariant) y))
