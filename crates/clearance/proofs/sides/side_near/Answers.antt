use Rattle.std.proofs.Common.{ℤ, pos, ◌≤ℤ◌, ◌<ℤ◌, inl, inr, refl, arith}
use Rattle.std.proofs.lemmas.Int.{ints}
use Rattle.exact_arith.specs.Space.{dot_of, normal}
use Rattle.clearance.specs.inner.TriangleCorners.{face_of}
use Rattle.tri_exact.proofs.Choice.{not_both}
use Rattle.exact_arith.proofs.Ranges.{value_kept, kept_128, renamed, at_most, above, zero_kept}
use Rattle.clearance.proofs.sides.side_near.Goals as goal
use Rattle.clearance.proofs.sides.side_near.Goals.{Else-plane-le0}

clash : (x y : ℤ) → x <ℤ y → y ≤ℤ x → ⊥
clash x y h k = omega (arith, ints)

area : (c : Else-plane-le0) → pos 0 <ℤ dot_of (normal (face_of c.args.t)) (normal (face_of c.args.t))
area c = above (renamed (kept_128 (value_kept c.args.plane.square c.requires.plane_is.square_in) tt) c.requires.plane_is.square_is) zero_kept c.if-plane-le0.false

pub returns-then-plane-le0 : goal.returns-then-plane-le0
returns-then-plane-le0 c =
    (λ x. absurd (cc x), λ x. absurd (clash (pos 0) (dot_of (normal (face_of c.args.t)) (normal (face_of c.args.t))) x.0 (at_most (renamed (kept_128 (value_kept c.args.plane.square c.requires.plane_is.square_in) tt) c.requires.plane_is.square_is) zero_kept c.if-plane-le0.true)))

pub foot_near-requires-clause-area : goal.foot_near-requires-clause-area
foot_near-requires-clause-area c = area (goal.at.foot_near-requires-clause-area c).Else-plane-le0

pub foot_near-requires-2-clause-area : goal.foot_near-requires-2-clause-area
foot_near-requires-2-clause-area c = area (goal.at.foot_near-requires-2-clause-area c).Else-plane-le0

pub foot_near-requires-3-clause-area : goal.foot_near-requires-3-clause-area
foot_near-requires-3-clause-area c = area (goal.at.foot_near-requires-3-clause-area c).Else-plane-le0

pub returns-then-edge_pierces : goal.returns-then-edge_pierces
returns-then-edge_pierces c = (λ x. (area (goal.at.returns-then-edge_pierces c).Else-plane-le0, inr (inl (c.edge_pierces.ensures.0 c.if-edge_pierces.true))), λ x. refl)

pub returns-then-edge_pierces-2 : goal.returns-then-edge_pierces-2
returns-then-edge_pierces-2 c = (λ x. (area (goal.at.returns-then-edge_pierces-2 c).Else-plane-le0, inr (inr (inl (c.edge_pierces-2.ensures.0 c.if-edge_pierces-2.true)))), λ x. refl)

pub returns-then-edge_pierces-3 : goal.returns-then-edge_pierces-3
returns-then-edge_pierces-3 c = (λ x. (area (goal.at.returns-then-edge_pierces-3 c).Else-plane-le0, inr (inr (inr (c.edge_pierces-3.ensures.0 c.if-edge_pierces-3.true)))), λ x. refl)

pub returns-then-foot_near : goal.returns-then-foot_near
returns-then-foot_near c = (λ x. (area (goal.at.returns-then-foot_near c).Else-plane-le0, inl (inl (c.foot_near.ensures.0 c.if-foot_near.true))), λ x. refl)

pub returns-then-foot_near-2 : goal.returns-then-foot_near-2
returns-then-foot_near-2 c = (λ x. (area (goal.at.returns-then-foot_near-2 c).Else-plane-le0, inl (inr (inl (c.foot_near-2.ensures.0 c.if-foot_near-2.true)))), λ x. refl)

pub returns : goal.returns
returns c = (
  λ x. (area (goal.at.returns c).Else-plane-le0, inl (inr (inr (c.foot_near-3.ensures.0 x)))),
  λ x. elim x.1 [
    | inl f ↦ elim f [
      | inl y ↦ not_both c.if-foot_near.false (c.foot_near.ensures.1 y)
      | inr g ↦ elim g [ inl y ↦ not_both c.if-foot_near-2.false (c.foot_near-2.ensures.1 y) | inr y ↦ c.foot_near-3.ensures.1 y ]
    ]
    | inr f ↦ elim f [
      | inl y ↦ not_both c.if-edge_pierces.false (c.edge_pierces.ensures.1 y)
      | inr g ↦ elim g [ inl y ↦ not_both c.if-edge_pierces-2.false (c.edge_pierces-2.ensures.1 y) | inr y ↦ not_both c.if-edge_pierces-3.false (c.edge_pierces-3.ensures.1 y) ]
    ]
  ],
)
