use Rattle.std.proofs.Common.{◌≡◌, arith, ℤ, pos, ◌+ℤ◌, ◌-ℤ◌, ◌*ℤ◌, ◌≤ℤ◌, ◌<ℤ◌, ◌≤◌, unsigned_abs, ◌∙◌, ap, sym, refl, subst, [], ◌∷◌}
use Rattle.std.proofs.lemmas.Int.{ints}
use Rattle.exact_arith.specs.Space.{Vector, dot_of}
use Rattle.tri_exact.specs.GridVectors.{at}
use Rattle.tri_exact.specs.Foot.{square_of, along_of, across_of}
use Rattle.exact_arith.proofs.Ring.{ring, ◌⊖◌, ◌⊗◌}
use Rattle.exact_arith.proofs.Triples.{spot, scalar, crossed}
use Rattle.exact_arith.proofs.Order.{square_nonneg}
use Rattle.tri_exact.proofs.FootTest.{binet_first, binet_second}
use Rattle.exact_arith.proofs.Ranges.{Kept, value_kept, sum_kept, kept_128, in_128, renamed, less, not_less, at_most, above, zero_kept, squares_kept, fits_128, abs_mul, same_64, difference_of_products}
use Rattle.tri_exact.proofs.edges.is_crossing.Goals as goal
use Rattle.tri_exact.proofs.edges.is_crossing.Goals.{After-minor-square, After-minor-along, After-minor-across}

lagrange : (e u : Vector) → square_of e u ≡ dot_of e e *ℤ dot_of u u -ℤ dot_of e u *ℤ dot_of e u
lagrange e u =
    ring (e.x ∷ e.y ∷ e.z ∷ u.x ∷ u.y ∷ u.z ∷ []) (scalar (crossed (spot 0) (spot 3)) (crossed (spot 0) (spot 3))) (scalar (spot 0) (spot 0) ⊗ scalar (spot 3) (spot 3) ⊖ scalar (spot 0) (spot 3) ⊗ scalar (spot 0) (spot 3)) refl

square_kept : (c : After-minor-square) → Kept (in_128 c.minor-square.result) (square_of (at c.args.edge) (at c.args.side)) 1179648000000000000000000000000
square_kept c =
    let s = same_64 c.scalar-slant.result c.scalar-slant.ensures.small tt ∙ c.scalar-slant.ensures.value in
    renamed (kept_128 (value_kept c.minor-square.result c.minor-square.ensures.small) tt)
    (c.minor-square.ensures.value ∙ difference_of_products _ _ _ _ _ _ _ _ (same_64 c.args.length c.requires.length_in tt ∙ c.requires.length_is) (same_64 c.args.span c.requires.span_in tt ∙ c.requires.span_is) s s ∙ sym (lagrange (at c.args.edge) (at c.args.side)))

along_kept : (c : After-minor-along) → Kept (in_128 c.minor-along.result) (along_of (at c.args.edge) (at c.args.side) (at c.args.way)) 1179648000000000000000000000000
along_kept c =
    renamed (kept_128 (value_kept c.minor-along.result c.minor-along.ensures.small) tt)
    (c.minor-along.ensures.value ∙ difference_of_products _ _ _ _ _ _ _ _ (same_64 c.args.share c.requires.share_in tt ∙ c.requires.share_is) (same_64 c.args.span c.requires.span_in tt ∙ c.requires.span_is) (same_64 c.args.part c.requires.part_in tt ∙ c.requires.part_is) (same_64 c.scalar-slant.result c.scalar-slant.ensures.small tt ∙ c.scalar-slant.ensures.value) ∙ sym (binet_first (at c.args.edge) (at c.args.side) (at c.args.way)))

across_kept : (c : After-minor-across) → Kept (in_128 c.minor-across.result) (across_of (at c.args.edge) (at c.args.side) (at c.args.way)) 1179648000000000000000000000000
across_kept c =
    renamed (kept_128 (value_kept c.minor-across.result c.minor-across.ensures.small) tt)
    (c.minor-across.ensures.value ∙ difference_of_products _ _ _ _ _ _ _ _ (same_64 c.args.part c.requires.part_in tt ∙ c.requires.part_is) (same_64 c.args.length c.requires.length_in tt ∙ c.requires.length_is) (same_64 c.args.share c.requires.share_in tt ∙ c.requires.share_is) (same_64 c.scalar-slant.result c.scalar-slant.ensures.small tt ∙ c.scalar-slant.ensures.value) ∙ sym (binet_second (at c.args.edge) (at c.args.side) (at c.args.way)))

clash : (x y : ℤ) → x <ℤ y → y ≤ℤ x → ⊥
clash x y h k = omega (arith, ints)

-- a square that is above 0 is at most the product that it is subtracted from
tight : (s p b : ℤ) → pos 0 <ℤ s → s ≡ p -ℤ b *ℤ b → unsigned_abs p ≤ 589824000000000000000000000000 → unsigned_abs s ≤ 786432000000000000000000000000
tight s p b h e k = let z = square_nonneg b in omega (arith, ints)

pub returns-then-square-le0 : goal.returns-then-square-le0
returns-then-square-le0 c =
    let k = (goal.at.returns-then-square-le0 c).After-minor-square in
    (λ x. absurd (cc x), λ w. absurd (clash (pos 0) (square_of (at c.args.edge) (at c.args.side)) w.slanted (at_most (square_kept k) zero_kept c.if-square-le0.true)))

pub returns-then-along-lt0 : goal.returns-then-along-lt0
returns-then-along-lt0 c =
    let k = (goal.at.returns-then-along-lt0 c).After-minor-along in
    (λ x. absurd (cc x), λ w. absurd (clash (along_of (at c.args.edge) (at c.args.side) (at c.args.way)) (pos 0) (less (along_kept k) zero_kept c.if-along-lt0.true) w.along_in))

pub returns-then-square-along : goal.returns-then-square-along
returns-then-square-along c =
    let k = (goal.at.returns-then-square-along c).After-minor-along in
    let j = (goal.at.returns-then-square-along c).After-minor-square in
    (λ x. absurd (cc x), λ w. absurd (clash (square_of (at c.args.edge) (at c.args.side)) (along_of (at c.args.edge) (at c.args.side) (at c.args.way)) (less (square_kept j) (along_kept k) c.if-square-along.true) w.along_end))

pub returns-then-across-gt0 : goal.returns-then-across-gt0
returns-then-across-gt0 c =
    let k = (goal.at.returns-then-across-gt0 c).After-minor-across in
    (λ x. absurd (cc x), λ w. absurd (clash (pos 0) (across_of (at c.args.edge) (at c.args.side) (at c.args.way)) (less zero_kept (across_kept k) c.if-across-gt0.true) w.across_in))

pub overflow_add-square : goal.overflow_add-square
overflow_add-square c =
    let k = (goal.at.overflow_add-square c).After-minor-across in
    let j = (goal.at.overflow_add-square c).After-minor-square in
    fits_128 (sum_kept (square_kept j) (across_kept k)) tt

pub returns-then-square-across-lt0 : goal.returns-then-square-across-lt0
returns-then-square-across-lt0 c =
    let k = (goal.at.returns-then-square-across-lt0 c).After-minor-across in
    let j = (goal.at.returns-then-square-across-lt0 c).After-minor-square in
    (λ x. absurd (cc x), λ w. absurd (clash (square_of (at c.args.edge) (at c.args.side) +ℤ across_of (at c.args.edge) (at c.args.side) (at c.args.way)) (pos 0) (less (kept_128 (sum_kept (square_kept j) (across_kept k)) tt) zero_kept c.if-square-across-lt0.true) w.across_end))

pub is_low-requires-clause-square_in : goal.is_low-requires-clause-square_in
is_low-requires-clause-square_in c =
    let j = (goal.at.is_low-requires-clause-square_in c).After-minor-square in
    let big = kept_128 (value_kept j.minor-square.result j.minor-square.ensures.small) tt in
    subst (λ (x : ℤ). unsigned_abs x ≤ 786432000000000000000000000000) (sym big.same)
    (tight j.minor-square.result (c.args.length *ℤ c.args.span) j.scalar-slant.result (above big zero_kept c.if-square-le0.false) (j.minor-square.ensures.value ∙ difference_of_products _ _ _ _ _ _ _ _ (same_64 c.args.length c.requires.length_in tt) (same_64 c.args.span c.requires.span_in tt) (same_64 j.scalar-slant.result j.scalar-slant.ensures.small tt) (same_64 j.scalar-slant.result j.scalar-slant.ensures.small tt))
    (abs_mul c.args.length c.args.span 768000000000000 768000000000000 c.requires.length_in c.requires.span_in))

pub returns : goal.returns
returns c =
    let k = (goal.at.returns c).After-minor-across in
    let l = (goal.at.returns c).After-minor-along in
    let j = (goal.at.returns c).After-minor-square in
    let e = at c.args.edge in let u = at c.args.side in let r = at c.args.way in
    let h = renamed (kept_128 (value_kept c.height.result c.height.ensures.small) tt) (c.height.ensures.value ∙ ap (λ (v : Vector). dot_of r v) c.normal_to.ensures) in
    let low = squares_kept (pos c.args.d *ℤ pos c.args.d) h (square_kept j) c.is_low.ensures in (
      λ x. record {
        slanted = above (square_kept j) zero_kept c.if-square-le0.false;
        along_in = not_less (along_kept l) zero_kept c.if-along-lt0.false;
        along_end = not_less (square_kept j) (along_kept l) c.if-square-along.false;
        across_in = not_less zero_kept (across_kept k) c.if-across-gt0.false;
        across_end = not_less (kept_128 (sum_kept (square_kept j) (across_kept k)) tt) zero_kept c.if-square-across-lt0.false;
        low = low.0 x;
      },
      λ w. low.1 w.low,
    )
