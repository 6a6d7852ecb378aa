use Rattle.std.proofs.Common.{ℤ, sym, subst}
use Rattle.exact_arith.specs.Space.{Face}
use Rattle.tri_exact.specs.Pierce.{height}
use Rattle.tri_exact.proofs.Choice.{not_both}
use Rattle.tri_pierce.specs.Piercing.{FacesPierce}
use Rattle.tri_pierce.specs.inner.LoneCorners.{face_of, Split, AreHeights}
use Rattle.tri_pierce.specs.declared.heights.Heights.{Heights}
use Rattle.tri_pierce.proofs.CornerOrders.{pierces_split, pierces_swap}
use Rattle.tri_pierce.proofs.piercing.corners_pierce.Goals as goal

-- the heights of a face that pierces are on both sides
split : (h : Heights) (t s : Face) → AreHeights h t s → FacesPierce t s → Split h.a h.b h.c
split h t s k p = subst (λ (z : ℤ). Split h.a h.b z) (sym k.c_is) (subst (λ (y : ℤ). Split h.a y (height s.c t)) (sym k.b_is) (subst (λ (x : ℤ). Split x (height s.b t) (height s.c t)) (sym k.a_is) (pierces_split t s p)))

pub returns-then-not-is_split : goal.returns-then-not-is_split
returns-then-not-is_split c = (λ x. absurd (cc x), λ p. not_both c.if-not-is_split.true (c.is_split.ensures.1 (split c.heights_over-over_t.result (face_of c.args.t) (face_of c.args.s) c.heights_over-over_t.ensures.value p)))

pub returns-then-not-is_split-2 : goal.returns-then-not-is_split-2
returns-then-not-is_split-2 c = (
  λ x. absurd (cc x),
  λ p. not_both c.if-not-is_split-2.true (c.is_split-2.ensures.1 (split c.heights_over-over_s.result (face_of c.args.s) (face_of c.args.t) c.heights_over-over_s.ensures.value (pierces_swap (face_of c.args.t) (face_of c.args.s) p))),
)
