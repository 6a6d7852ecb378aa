use Rattle.std.proofs.Common.{◌≡◌, ℕ, ℤ, inl, inr, refl, subst}
use Rattle.exact_arith.specs.Space.{Face}
use Rattle.clearance.specs.Near.{FacesNear}
use Rattle.clearance.specs.inner.Planes.{IsClear, IsPlane, IsOver}
use Rattle.clearance.specs.inner.TriangleCorners.{face_of}
use Rattle.clearance.specs.declared.planes.Plane.{Plane}
use Rattle.clearance.specs.declared.planes.Heights.{Heights}
use Rattle.tri_exact.proofs.Choice.{not_both}
use Rattle.clearance.proofs.NearTest.{near_tests, tests_near}
use Rattle.clearance.proofs.Gaps.{near_swaps}
use Rattle.clearance.proofs.Separate.{clear_far}
use Rattle.clearance.proofs.triangles.planes_near.Goals as goal

same_clear : (a b c f p q r g : ℤ) (d : ℕ) → a ≡ p → b ≡ q → c ≡ r → f ≡ g → IsClear a b c f d → IsClear p q r g d
same_clear a b c f p q r g d h i j k x =
    subst (λ (y : ℤ). IsClear p q r y d) k (subst (λ (y : ℤ). IsClear p q y f d) j (subst (λ (y : ℤ). IsClear p y c f d) i (subst (λ (y : ℤ). IsClear y b c f d) h x)))

beyond : (t s : Face) (d : ℕ) (k : Plane) (h : Heights) → IsPlane k t → IsOver h t s → IsClear h.a h.b h.c k.square d → FacesNear t s d → ⊥
beyond t s d k h p o c near = clear_far t s d (same_clear h.a h.b h.c k.square _ _ _ _ d o.a_is o.b_is o.c_is p.square_is c) near

pub returns-then-is_beyond : goal.returns-then-is_beyond
returns-then-is_beyond c = (
  λ x. absurd (cc x),
  λ x. absurd (beyond (face_of c.args.t) (face_of c.args.s) c.args.d c.args.plane_t c.heights_over-over_t.result c.requires.plane_is c.heights_over-over_t.ensures.over (c.is_beyond.ensures c.if-is_beyond.true) x),
)

pub returns-then-is_beyond-2 : goal.returns-then-is_beyond-2
returns-then-is_beyond-2 c = (
  λ x. absurd (cc x),
  λ x. absurd (beyond (face_of c.args.s) (face_of c.args.t) c.args.d c.plane_of-plane_s.result c.heights_over-over_s.result c.plane_of-plane_s.ensures c.heights_over-over_s.ensures.over (c.is_beyond-2.ensures c.if-is_beyond-2.true)
      (near_swaps (face_of c.args.t) (face_of c.args.s) c.args.d x)),
)

pub returns-then-side_near : goal.returns-then-side_near
returns-then-side_near c = (λ x. tests_near (face_of c.args.t) (face_of c.args.s) c.args.d (inr (inl (c.side_near.ensures.0 c.if-side_near.true))), λ x. refl)

pub returns-then-side_near-2 : goal.returns-then-side_near-2
returns-then-side_near-2 c = (λ x. tests_near (face_of c.args.t) (face_of c.args.s) c.args.d (inr (inr (c.side_near-2.ensures.0 c.if-side_near-2.true))), λ x. refl)

pub returns : goal.returns
returns c = (
  λ x. tests_near (face_of c.args.t) (face_of c.args.s) c.args.d (inl (c.edges_near.ensures.0 x)),
  λ x. elim (near_tests (face_of c.args.t) (face_of c.args.s) c.args.d x) [
    | inl y ↦ c.edges_near.ensures.1 y
    | inr z ↦ elim z [ inl y ↦ not_both c.if-side_near.false (c.side_near.ensures.1 y) | inr y ↦ not_both c.if-side_near-2.false (c.side_near-2.ensures.1 y) ]
  ],
)

pub returns-then-is_apart : goal.returns-then-is_apart
returns-then-is_apart c = (λ x. absurd (cc x), λ x. absurd (c.is_apart.ensures c.if-is_apart.true x))
