use Rattle.std.proofs.Common.{◌≡◌, arith, ℤ, pos, ◌+ℤ◌, ◌-ℤ◌, ◌≤ℤ◌, ◌<ℤ◌, ◌≤◌, unsigned_abs, ◌∙◌, sym}
use Rattle.std.proofs.lemmas.Int.{ints}
use Rattle.tri_exact.specs.GridVectors.{at}
use Rattle.tri_exact.specs.Foot.{square_of, along_of, across_of}
use Rattle.tri_exact.proofs.FootTest.{binet_first, binet_second}
use Rattle.exact_arith.proofs.Ranges.{Kept, value_kept, sum_kept, kept_128, in_128, in_64, renamed, less, not_less, zero_kept, fits_128, test_kept, same_64, difference_of_products}
use Rattle.tri_exact.proofs.point_face.is_inside.Goals as goal
use Rattle.tri_exact.proofs.point_face.is_inside.Goals.{After-minor-along, After-minor-across}

named : (x y : ℤ) → unsigned_abs x ≤ 768000000000000 → x ≡ y → in_64 x ≡ y
named x y h e = same_64 x h tt ∙ e

along_kept : (c : After-minor-along) → Kept (in_128 c.minor-along.result) (along_of (at c.args.edge) (at c.args.side) (at c.args.way)) 1179648000000000000000000000000
along_kept c =
    renamed (kept_128 (value_kept c.minor-along.result c.minor-along.ensures.small) tt)
    (c.minor-along.ensures.value ∙ difference_of_products _ _ _ _ _ _ _ _ (named _ _ c.scalar-share.ensures.small c.scalar-share.ensures.value) (named _ _ c.scalar-span.ensures.small c.scalar-span.ensures.value)
    (named _ _ c.scalar-part.ensures.small c.scalar-part.ensures.value) (named _ _ c.scalar-slant.ensures.small c.scalar-slant.ensures.value) ∙ sym (binet_first (at c.args.edge) (at c.args.side) (at c.args.way)))

across_kept : (c : After-minor-across) → Kept (in_128 c.minor-across.result) (across_of (at c.args.edge) (at c.args.side) (at c.args.way)) 1179648000000000000000000000000
across_kept c =
    renamed (kept_128 (value_kept c.minor-across.result c.minor-across.ensures.small) tt)
    (c.minor-across.ensures.value ∙ difference_of_products _ _ _ _ _ _ _ _ (named _ _ c.scalar-part.ensures.small c.scalar-part.ensures.value) (named _ _ c.scalar-length.ensures.small c.scalar-length.ensures.value)
    (named _ _ c.scalar-share.ensures.small c.scalar-share.ensures.value) (named _ _ c.scalar-slant.ensures.small c.scalar-slant.ensures.value) ∙ sym (binet_second (at c.args.edge) (at c.args.side) (at c.args.way)))

square_kept : (c : After-minor-across) → Kept (in_128 c.args.square) (square_of (at c.args.edge) (at c.args.side)) 786432000000000000000000000000
square_kept c = renamed (kept_128 (value_kept c.args.square c.requires.square_in) tt) c.requires.square_is

clash : (x : ℤ) → x <ℤ pos 0 → pos 0 ≤ℤ x → ⊥
clash x h k = omega (arith, ints)

pub returns-then-along-lt0 : goal.returns-then-along-lt0
returns-then-along-lt0 c =
    let k = (goal.at.returns-then-along-lt0 c).After-minor-along in
    (λ x. absurd (cc x), λ w. absurd (clash (along_of (at c.args.edge) (at c.args.side) (at c.args.way)) (less (along_kept k) zero_kept c.if-along-lt0.true) w.b_in))

pub returns-then-across-lt0 : goal.returns-then-across-lt0
returns-then-across-lt0 c =
    let k = (goal.at.returns-then-across-lt0 c).After-minor-across in
    (λ x. absurd (cc x), λ w. absurd (clash (across_of (at c.args.edge) (at c.args.side) (at c.args.way)) (less (across_kept k) zero_kept c.if-across-lt0.true) w.c_in))

pub overflow_add-result : goal.overflow_add-result
overflow_add-result c =
    let k = (goal.at.overflow_add-result c).After-minor-along in
    let l = (goal.at.overflow_add-result c).After-minor-across in
    fits_128 (sum_kept (along_kept k) (across_kept l)) tt

within : (f x y : ℤ) → (x +ℤ y) ≤ℤ f → pos 0 ≤ℤ (f -ℤ x -ℤ y)
within f x y h = omega (arith, ints)

without : (f x y : ℤ) → pos 0 ≤ℤ (f -ℤ x -ℤ y) → (x +ℤ y) ≤ℤ f
without f x y h = omega (arith, ints)

pub returns : goal.returns
returns c =
    let k = (goal.at.returns c).After-minor-along in
    let l = (goal.at.returns c).After-minor-across in
    let f = square_of (at c.args.edge) (at c.args.side) in
    let x = along_of (at c.args.edge) (at c.args.side) (at c.args.way) in
    let y = across_of (at c.args.edge) (at c.args.side) (at c.args.way) in
    test_kept (kept_128 (sum_kept (along_kept k) (across_kept l)) tt) (square_kept l) (
      λ h. record {
        a_in = within f x y h;
        b_in = not_less (along_kept k) zero_kept c.if-along-lt0.false;
        c_in = not_less (across_kept l) zero_kept c.if-across-lt0.false;
      },
      λ w. without f x y w.a_in,
    )
