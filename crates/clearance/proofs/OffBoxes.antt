-- Two boxes with a gap, and the triangles in them
use Rattle.std.proofs.Common.{ℕ, inl, inr, ◌≡◌, ◌↔◌, subst}
use Rattle.bim_model.specs.declared.geometry.Extent.{Extent}
use Rattle.exact_arith.specs.Space.{Face}
use Rattle.clearance.specs.Near.{FacesNear}
use Rattle.clearance.specs.inner.BoxContainment.{InExtent, Wider, IsOff}
use Rattle.exact_arith.proofs.Order.{le_trans}
use Rattle.clearance.proofs.Spans.{sides}
use Rattle.clearance.proofs.Gaps.{far_x, far_y, far_z, near_swaps}

pub off_far : (k m : Extent) (t s : Face) (d : ℕ) → InExtent k t → InExtent m s → IsOff k m d → FacesNear t s d → ⊥
off_far k m t s d f g (inl o) near =
    elim (sides k.low.x k.high.x m.low.x m.high.x d o) [
      | inl x ↦ far_x t s d k.high.x m.low.x f.a_in.x_high f.b_in.x_high f.c_in.x_high g.a_in.x_low g.b_in.x_low g.c_in.x_low x near
      | inr x ↦ far_x s t d m.high.x k.low.x g.a_in.x_high g.b_in.x_high g.c_in.x_high f.a_in.x_low f.b_in.x_low f.c_in.x_low x (near_swaps t s d near)
    ]
off_far k m t s d f g (inr (inl o)) near =
    elim (sides k.low.y k.high.y m.low.y m.high.y d o) [
      | inl y ↦ far_y t s d k.high.y m.low.y f.a_in.y_high f.b_in.y_high f.c_in.y_high g.a_in.y_low g.b_in.y_low g.c_in.y_low y near
      | inr y ↦ far_y s t d m.high.y k.low.y g.a_in.y_high g.b_in.y_high g.c_in.y_high f.a_in.y_low f.b_in.y_low f.c_in.y_low y (near_swaps t s d near)
    ]
off_far k m t s d f g (inr (inr o)) near =
    elim (sides k.low.z k.high.z m.low.z m.high.z d o) [
      | inl z ↦ far_z t s d k.high.z m.low.z f.a_in.z_high f.b_in.z_high f.c_in.z_high g.a_in.z_low g.b_in.z_low g.c_in.z_low z near
      | inr z ↦ far_z s t d m.high.z k.low.z g.a_in.z_high g.b_in.z_high g.c_in.z_high f.a_in.z_low f.b_in.z_low f.c_in.z_low z (near_swaps t s d near)
    ]

pub widened : (k m : Extent) (t : Face) → Wider k m → InExtent k t → InExtent m t
widened k m t w b =
    record {
      a_in = record { x_low = le_trans _ _ _ w.x_low b.a_in.x_low; y_low = le_trans _ _ _ w.y_low b.a_in.y_low; z_low = le_trans _ _ _ w.z_low b.a_in.z_low; x_high = le_trans _ _ _ b.a_in.x_high w.x_high; y_high = le_trans _ _ _ b.a_in.y_high w.y_high; z_high = le_trans _ _ _ b.a_in.z_high w.z_high };
      b_in = record { x_low = le_trans _ _ _ w.x_low b.b_in.x_low; y_low = le_trans _ _ _ w.y_low b.b_in.y_low; z_low = le_trans _ _ _ w.z_low b.b_in.z_low; x_high = le_trans _ _ _ b.b_in.x_high w.x_high; y_high = le_trans _ _ _ b.b_in.y_high w.y_high; z_high = le_trans _ _ _ b.b_in.z_high w.z_high };
      c_in = record { x_low = le_trans _ _ _ w.x_low b.c_in.x_low; y_low = le_trans _ _ _ w.y_low b.c_in.y_low; z_low = le_trans _ _ _ w.z_low b.c_in.z_low; x_high = le_trans _ _ _ b.c_in.x_high w.x_high; y_high = le_trans _ _ _ b.c_in.y_high w.y_high; z_high = le_trans _ _ _ b.c_in.z_high w.z_high };
    }

-- near in other names for the faces
pub near_along : {P : Type 0} (t s p q : Face) (d : ℕ) → t ≡ p → s ≡ q → P ↔ FacesNear t s d → P ↔ FacesNear p q d
near_along {P} t s p q d e f h = subst (λ (x : Face). P ↔ FacesNear p x d) f (subst (λ (x : Face). P ↔ FacesNear x s d) e h)
