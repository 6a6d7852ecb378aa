use Rattle.std.proofs.Common.{◌↔◌, ℕ, IsTrue, false}
use Rattle.bim_model.specs.Points.{shape_of}
use Rattle.bim_model.specs.declared.geometry.Triangle.{Triangle}
use Rattle.bim_model.specs.declared.geometry.Extent.{Extent}
use Rattle.clearance.specs.Near.{Near}
use Rattle.clearance.specs.inner.BoxContainment.{InExtent, IsOff}
use Rattle.clearance.proofs.OffBoxes.{off_far}
use Rattle.clearance.proofs.Decided.{triangles_told}
use Rattle.clearance.proofs.triangles.near.Goals as goal

never : (p q : Triangle) (d : ℕ) (k m : Extent) → InExtent k (shape_of p) → InExtent m (shape_of q) → IsOff k m d → IsTrue false ↔ Near p q d
never p q d k m f g o = (λ x. absurd (cc x), λ x. absurd (off_far k m (shape_of p) (shape_of q) d f g o x))

pub returns-then-is_off-clause-near : goal.returns-then-is_off-clause-near
returns-then-is_off-clause-near c =
    never c.args.p.now c.args.q.now c.args.d c.extent_of.result c.extent_of-2.result c.extent_of.ensures.inside c.extent_of-2.ensures.inside (c.is_off.ensures.0 c.if-is_off.true)

pub returns-then-is_off-clause-value : goal.returns-then-is_off-clause-value
returns-then-is_off-clause-value c =
    triangles_told false c.args.p.now c.args.q.now c.args.d
    (never c.args.p.now c.args.q.now c.args.d c.extent_of.result c.extent_of-2.result c.extent_of.ensures.inside c.extent_of-2.ensures.inside (c.is_off.ensures.0 c.if-is_off.true))

pub returns-clause-value : goal.returns-clause-value
returns-clause-value c = triangles_told _ c.args.p.now c.args.q.now c.args.d c.test_near.ensures
