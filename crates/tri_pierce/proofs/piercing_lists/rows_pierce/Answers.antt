use Rattle.std.proofs.Common.{◌≤◌, length, refl, arith}
use Rattle.std.proofs.lemmas.List.Elements.{All-more}
use Rattle.bim_model.specs.declared.geometry.Triangle.{Triangle}
use Rattle.tri_exact.proofs.Choice.{not_both}
use Rattle.clearance.proofs.Lists.{no_any, finished, some_any}
use Rattle.tri_pierce.specs.Piercing.{PiercesAny}
use Rattle.tri_pierce.proofs.piercing_lists.rows_pierce.Goals as goal

pub returns-then-row_pierces : goal.returns-then-row_pierces
returns-then-row_pierces c = (λ x. some_any (λ (p : Triangle). PiercesAny p c.args.qs.now) c.args.ps.now c.loop-p.p-index _ c.loop-p-test.true (c.row_pierces.ensures.0 c.if-row_pierces.true), λ x. refl)

pub loop-p-preserved : goal.loop-p-preserved
loop-p-preserved c =
    All-more (λ (p : Triangle). PiercesAny p c.args.qs.now → ⊥) c.args.ps.now c.loop-p.p-index _ c.loop-p-test.true c.loop-p.invariant
    (λ y. not_both c.if-row_pierces.false (c.row_pierces.ensures.1 y))

pub returns : goal.returns
returns c =
    let h : length c.args.ps.now ≤ c.loop-p.p-index = omega (arith, c.loop-p-test.false) in
    (λ x. absurd (cc x), λ y. absurd (no_any (λ (p : Triangle). PiercesAny p c.args.qs.now) c.args.ps.now (finished (λ (p : Triangle). PiercesAny p c.args.qs.now → ⊥) c.args.ps.now c.loop-p.p-index h c.loop-p.invariant) y))
