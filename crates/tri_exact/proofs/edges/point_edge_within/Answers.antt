use Rattle.std.proofs.Common.{◌≡◌, ◌↔◌, ℕ, ℤ, pos, ◌*ℤ◌, ◌∙◌, to_z, ◌*◌, ◌≤◌, subst, arith}
use mir.Syntax.{w64}
use Rattle.exact_arith.specs.Space.{minus, dot_of}
use Rattle.tri_exact.specs.GridVectors.{at}
use Rattle.tri_exact.specs.Edges.{Beside}
use Rattle.exact_arith.proofs.Ranges.{Kept, value_kept, value_kept_64, natural_kept_64, product_kept, difference_kept, sum_kept, kept_64, fits_64, test_kept, in_64, renamed, at_most, above, zero_kept}
use Rattle.tri_exact.proofs.PointEdge.{start_exact, end_exact, inside_exact}
use Rattle.tri_exact.proofs.Choice.{both_products}
use Rattle.tri_exact.proofs.edges.point_edge_within.Goals as goal
use Rattle.tri_exact.proofs.edges.point_edge_within.Goals.{After-scalar-gap}

-- the numbers that the code computes
share_kept : (c : After-scalar-gap) → Kept (in_64 c.scalar-share.result) (dot_of (minus (at c.args.p) (at c.args.a)) (minus (at c.args.b) (at c.args.a))) 768000000000000
share_kept c = renamed (value_kept_64 c.scalar-share.result c.scalar-share.ensures.small tt) (c.scalar-share.ensures.value ∙ both_products _ _ _ _ c.difference-way.ensures c.difference-edge.ensures)

length_kept : (c : After-scalar-gap) → Kept (in_64 c.scalar-length.result) (dot_of (minus (at c.args.b) (at c.args.a)) (minus (at c.args.b) (at c.args.a))) 768000000000000
length_kept c = renamed (value_kept_64 c.scalar-length.result c.scalar-length.ensures.small tt) (c.scalar-length.ensures.value ∙ both_products _ _ _ _ c.difference-edge.ensures c.difference-edge.ensures)

gap_kept : (c : After-scalar-gap) → Kept (in_64 c.scalar-gap.result) (dot_of (minus (at c.args.p) (at c.args.a)) (minus (at c.args.p) (at c.args.a))) 768000000000000
gap_kept c = renamed (value_kept_64 c.scalar-gap.result c.scalar-gap.ensures.small tt) (c.scalar-gap.ensures.value ∙ both_products _ _ _ _ c.difference-way.ensures c.difference-way.ensures)

bound_kept : (d : ℕ) → d ≤ 10000 → Kept (in_64 (to_z w64 d *ℤ to_z w64 d)) (pos d *ℤ pos d) (10000 * 10000)
bound_kept d h = kept_64 (product_kept (natural_kept_64 d h tt) (natural_kept_64 d h tt)) tt

two : Kept (pos 2) (pos 2) 2
two = value_kept (pos 2) (omega arith)

pub overflow_mul-bound : goal.overflow_mul-bound
overflow_mul-bound c = fits_64 (product_kept (natural_kept_64 c.args.d c.requires.d_in tt) (natural_kept_64 c.args.d c.requires.d_in tt)) tt

pub returns-then-share-le0 : goal.returns-then-share-le0
returns-then-share-le0 c =
    let k = (goal.at.returns-then-share-le0 c).After-scalar-gap in
    test_kept (gap_kept k) (bound_kept c.args.d c.requires.d_in) (start_exact (at c.args.p) (at c.args.a) (at c.args.b) c.args.d (at_most (share_kept k) zero_kept c.if-share-le0.true))

pub overflow_sub-result : goal.overflow_sub-result
overflow_sub-result c =
    let k = (goal.at.overflow_sub-result c).After-scalar-gap in
    fits_64 (difference_kept (gap_kept k) (kept_64 (product_kept two (share_kept k)) tt)) tt

pub overflow_add-result : goal.overflow_add-result
overflow_add-result c =
    let k = (goal.at.overflow_add-result c).After-scalar-gap in
    fits_64 (sum_kept (kept_64 (difference_kept (gap_kept k) (kept_64 (product_kept two (share_kept k)) tt)) tt) (length_kept k)) tt

pub returns-then-length-share : goal.returns-then-length-share
returns-then-length-share c =
    let k = (goal.at.returns-then-length-share c).After-scalar-gap in
    test_kept (kept_64 (sum_kept (kept_64 (difference_kept (gap_kept k) (kept_64 (product_kept two (share_kept k)) tt)) tt) (length_kept k)) tt) (bound_kept c.args.d c.requires.d_in)
    (end_exact (at c.args.p) (at c.args.a) (at c.args.b) c.args.d (at_most (length_kept k) (share_kept k) c.if-length-share.true))

beside_is : {P : Type 0} {l w s m l' w' s' : ℤ} → l ≡ l' → w ≡ w' → s ≡ s' → P ↔ Beside l w s m → P ↔ Beside l' w' s' m
beside_is {P} {l} {w} {s} {m} {l'} {w'} {s'} e f g q =
    subst (λ (x : ℤ). P ↔ Beside l' w' x m) g (subst (λ (x : ℤ). P ↔ Beside l' x s m) f (subst (λ (x : ℤ). P ↔ Beside x w s m) e q))

pub returns : goal.returns
returns c =
    let k = (goal.at.returns c).After-scalar-gap in
    let f = above (share_kept k) zero_kept c.if-share-le0.false in
    let g = above (length_kept k) (share_kept k) c.if-length-share.false in
    let q = beside_is (length_kept k).same (gap_kept k).same (share_kept k).same c.is_beside.ensures in
    let e = inside_exact (at c.args.p) (at c.args.a) (at c.args.b) c.args.d f g in
    (λ x. e.0 (q.0 x).low, λ w. q.1 (record { starts = f; ends = g; low = e.1 w }))
