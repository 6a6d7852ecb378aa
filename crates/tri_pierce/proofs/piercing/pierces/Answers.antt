use Rattle.std.proofs.Common.{◌↔◌, IsTrue, false}
use Rattle.bim_model.specs.declared.geometry.Triangle.{Triangle}
use Rattle.tri_pierce.specs.Piercing.{Pierces}
use Rattle.tri_pierce.proofs.DecidedSigns.{triangles_told}
use Rattle.tri_pierce.proofs.piercing.pierces.Goals as goal

never : (p q : Triangle) → (Pierces p q → ⊥) → IsTrue false ↔ Pierces p q
never p q f = (λ x. absurd (cc x), λ x. absurd (f x))

pub returns-then-are_beside-clause-pierce : goal.returns-then-are_beside-clause-pierce
returns-then-are_beside-clause-pierce c = never c.args.p.now c.args.q.now (c.are_beside.ensures c.if-are_beside.true)

pub returns-then-are_beside-clause-value : goal.returns-then-are_beside-clause-value
returns-then-are_beside-clause-value c = triangles_told false c.args.p.now c.args.q.now (never c.args.p.now c.args.q.now (c.are_beside.ensures c.if-are_beside.true))

pub returns-clause-value : goal.returns-clause-value
returns-clause-value c = triangles_told _ c.args.p.now c.args.q.now c.test_pierces.ensures
