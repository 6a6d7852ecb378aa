use Rattle.std.proofs.Common.{◌≡◌, ◌↔◌, pos, ◌*ℤ◌, ◌∙◌, ap, subst}
use Rattle.exact_arith.specs.Space.{Vector, minus, cross_of}
use Rattle.tri_exact.specs.GridVectors.{at, face_at, straight}
use Rattle.tri_exact.specs.Foot.{Inside, square_of, height_of}
use Rattle.exact_arith.proofs.Ranges.{Kept, value_kept, kept_128, in_128, renamed, squares_kept}
use Rattle.tri_exact.proofs.Choice.{not_both, both_products}
use Rattle.tri_exact.proofs.FootTest.{foot_yes, foot_no}
use Rattle.tri_exact.proofs.point_face.point_face_within.Goals as goal
use Rattle.tri_exact.proofs.point_face.point_face_within.Goals.{After-height}

cross_same : (a b p q : Vector) → a ≡ p → b ≡ q → cross_of a b ≡ cross_of p q
cross_same a b p q e f = ap (λ (v : Vector). cross_of v b) e ∙ ap (λ (v : Vector). cross_of p v) f

module _ (c : After-height) where
  normal_same : straight c.normal_to-normal.result ≡ cross_of (minus (at c.args.b) (at c.args.a)) (minus (at c.args.c) (at c.args.a))
  normal_same = c.normal_to-normal.ensures ∙ cross_same _ _ _ _ c.difference-edge.ensures c.difference-side.ensures

  height_kept : Kept (in_128 c.height.result) (height_of (minus (at c.args.b) (at c.args.a)) (minus (at c.args.c) (at c.args.a)) (minus (at c.args.p) (at c.args.a))) 24576000000000000000000
  height_kept = renamed (kept_128 (value_kept c.height.result c.height.ensures.small) tt) (c.height.ensures.value ∙ both_products _ _ _ _ c.difference-way.ensures normal_same)

  square_kept : Kept (in_128 c.square-square.result) (square_of (minus (at c.args.b) (at c.args.a)) (minus (at c.args.c) (at c.args.a))) 786432000000000000000000000000
  square_kept = renamed (kept_128 (value_kept c.square-square.result c.square-square.ensures.small) tt) (c.square-square.ensures.value ∙ both_products _ _ _ _ normal_same normal_same)

inside_is : {P : Type 0} {e u r e' u' r' : Vector} → e ≡ e' → u ≡ u' → r ≡ r' → P ↔ Inside e u r → P ↔ Inside e' u' r'
inside_is {P} {e} {u} {r} {e'} {u'} {r'} f g h q =
    subst (λ (x : Vector). P ↔ Inside e' u' x) h (subst (λ (x : Vector). P ↔ Inside e' x r) g (subst (λ (x : Vector). P ↔ Inside x u r) f q))

pub returns-then-is_low : goal.returns-then-is_low
returns-then-is_low c =
    let k = (goal.at.returns-then-is_low c).After-height in
    let t = face_at c.args.a c.args.b c.args.c in
    let low = squares_kept (pos c.args.d *ℤ pos c.args.d) (height_kept k) (square_kept k) c.is_low.ensures in
    let q = inside_is c.difference-edge.ensures c.difference-side.ensures c.difference-way.ensures c.is_inside.ensures in (
      λ x. let i = q.0 x in foot_yes (at c.args.p) t c.args.d (record { area = c.requires.area; a_in = i.a_in; b_in = i.b_in; c_in = i.c_in; low = low.0 c.if-is_low.true }),
      λ w. let g = foot_no (at c.args.p) t c.args.d c.requires.area w in q.1 (record { a_in = g.a_in; b_in = g.b_in; c_in = g.c_in }),
    )

pub returns : goal.returns
returns c =
    let k = (goal.at.returns c).After-height in
    let low = squares_kept (pos c.args.d *ℤ pos c.args.d) (height_kept k) (square_kept k) c.is_low.ensures in
    (λ x. absurd (cc x), λ w. not_both c.if-is_low.false (low.1 (foot_no (at c.args.p) (face_at c.args.a c.args.b c.args.c) c.args.d c.requires.area w).low))
