use Rattle.std.proofs.Common.{inl, inr, refl}
use Rattle.tri_exact.specs.GridVectors.{at, face_at}
use Rattle.tri_exact.proofs.Choice.{any_three, not_both}
use Rattle.tri_exact.proofs.CrossTest.{meets_tests, tests_meet}
use Rattle.tri_exact.proofs.crossing.segment_crosses.Goals as goal

pub returns-then-edge_pierces : goal.returns-then-edge_pierces
returns-then-edge_pierces c = (λ x. tests_meet (at c.args.p) (at c.args.q) (face_at c.args.a c.args.b c.args.c) c.requires.area (inl (c.edge_pierces.ensures.0 c.if-edge_pierces.true)), λ x. refl)

pub returns-then-point_face_within : goal.returns-then-point_face_within
returns-then-point_face_within c = (λ x. tests_meet (at c.args.p) (at c.args.q) (face_at c.args.a c.args.b c.args.c) c.requires.area (inr (inl (inl (c.point_face_within.ensures.0 c.if-point_face_within.true)))), λ x. refl)

pub returns-then-point_face_within-2 : goal.returns-then-point_face_within-2
returns-then-point_face_within-2 c = (λ x. tests_meet (at c.args.p) (at c.args.q) (face_at c.args.a c.args.b c.args.c) c.requires.area (inr (inl (inr (c.point_face_within-2.ensures.0 c.if-point_face_within-2.true)))), λ x. refl)

pub returns : goal.returns
returns c =
    let e = any_three c.any_of.ensures c.edge_edge_within-first.ensures c.edge_edge_within-second.ensures c.edge_edge_within-third.ensures in (
      λ x. tests_meet (at c.args.p) (at c.args.q) (face_at c.args.a c.args.b c.args.c) c.requires.area (inr (inr (e.0 x))),
      λ x. elim (meets_tests (at c.args.p) (at c.args.q) (face_at c.args.a c.args.b c.args.c) c.requires.area x) [
        | inl y ↦ not_both c.if-edge_pierces.false (c.edge_pierces.ensures.1 y)
        | inr z ↦ elim z [
          | inl y ↦ elim y [ inl f ↦ not_both c.if-point_face_within.false (c.point_face_within.ensures.1 f) | inr f ↦ not_both c.if-point_face_within-2.false (c.point_face_within-2.ensures.1 f) ]
          | inr y ↦ e.1 y
        ]
      ],
    )
