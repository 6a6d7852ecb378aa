use Rattle.std.proofs.Common.{◌≡◌, ◌↔◌, pos, ◌*ℤ◌, subst}
use Rattle.exact_arith.specs.Space.{Vector}
use Rattle.tri_exact.specs.GridVectors.{at}
use Rattle.tri_exact.specs.Foot.{Inside}
use Rattle.clearance.specs.inner.TriangleCorners.{face_of}
use Rattle.tri_exact.proofs.Choice.{not_both}
use Rattle.tri_exact.proofs.FootTest.{foot_yes, foot_no}
use Rattle.exact_arith.proofs.Ranges.{value_kept, kept_128, renamed, squares_kept}
use Rattle.clearance.proofs.sides.foot_near.Goals as goal

inside_is : {P : Type 0} {e u r e' u' r' : Vector} → e ≡ e' → u ≡ u' → r ≡ r' → P ↔ Inside e u r → P ↔ Inside e' u' r'
inside_is {P} {e} {u} {r} {e'} {u'} {r'} f g h q =
    subst (λ (x : Vector). P ↔ Inside e' u' x) h (subst (λ (x : Vector). P ↔ Inside e' x r) g (subst (λ (x : Vector). P ↔ Inside x u r) f q))

pub returns-then-is_low : goal.returns-then-is_low
returns-then-is_low c =
    let h = renamed (kept_128 (value_kept c.args.height c.requires.height_in) tt) c.requires.height_is in
    let f = renamed (kept_128 (value_kept c.args.plane.square c.requires.plane_is.square_in) tt) c.requires.plane_is.square_is in
    let low = squares_kept (pos c.args.d *ℤ pos c.args.d) h f c.is_low.ensures in
    let q = inside_is c.requires.plane_is.edge_is c.requires.plane_is.side_is c.difference.ensures c.is_inside.ensures in (
      λ x. let i = q.0 x in foot_yes (at c.args.p) (face_of c.args.t) c.args.d (record { area = c.requires.area; a_in = i.a_in; b_in = i.b_in; c_in = i.c_in; low = low.0 c.if-is_low.true }),
      λ w. let g = foot_no (at c.args.p) (face_of c.args.t) c.args.d c.requires.area w in q.1 (record { a_in = g.a_in; b_in = g.b_in; c_in = g.c_in }),
    )

pub returns : goal.returns
returns c =
    let h = renamed (kept_128 (value_kept c.args.height c.requires.height_in) tt) c.requires.height_is in
    let f = renamed (kept_128 (value_kept c.args.plane.square c.requires.plane_is.square_in) tt) c.requires.plane_is.square_is in
    let low = squares_kept (pos c.args.d *ℤ pos c.args.d) h f c.is_low.ensures in
    (λ x. absurd (cc x), λ w. not_both c.if-is_low.false (low.1 (foot_no (at c.args.p) (face_of c.args.t) c.args.d c.requires.area w).low))
