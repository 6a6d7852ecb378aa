use Rattle.std.proofs.Common.{arith, ℤ, pos, ◌≤ℤ◌, ◌<ℤ◌, ◌≤◌, unsigned_abs}
use Rattle.std.proofs.lemmas.Int.{ints}
use Rattle.tri_exact.specs.GridVectors.{at, face_at}
use Rattle.tri_exact.specs.Pierce.{weight_a, weight_b}
use Rattle.exact_arith.proofs.Ranges.{Kept, value_kept, kept_128, in_128, renamed, less, not_less, at_most, above, zero_kept, test_kept}
use Rattle.tri_exact.proofs.crossing.rises.Goals as goal

kept : (s : ℤ) → unsigned_abs s ≤ 24576000000000000000000 → Kept (in_128 s) s 24576000000000000000000
kept s h = kept_128 (value_kept s h) tt

clash : (x y : ℤ) → x <ℤ y → y ≤ℤ x → ⊥
clash x y h k = omega (arith, ints)

pub returns-then-from-gt0 : goal.returns-then-from-gt0
returns-then-from-gt0 c = (λ x. absurd (cc x), λ r. absurd (clash (pos 0) c.args.from (less zero_kept (kept c.args.from c.requires.from_in) c.if-from-gt0.true) r.low))

pub returns-then-to-lt0 : goal.returns-then-to-lt0
returns-then-to-lt0 c = (λ x. absurd (cc x), λ r. absurd (clash c.args.to (pos 0) (less (kept c.args.to c.requires.to_in) zero_kept c.if-to-lt0.true) r.high))

pub returns-then-to-from : goal.returns-then-to-from
returns-then-to-from c = (λ x. absurd (cc x), λ r. absurd (clash c.args.from c.args.to r.steep (at_most (kept c.args.to c.requires.to_in) (kept c.args.from c.requires.from_in) c.if-to-from.true)))

pub returns-then-u-lt0 : goal.returns-then-u-lt0
returns-then-u-lt0 c = (λ x. absurd (cc x), λ r. absurd (clash (weight_a (at c.args.p) (at c.args.q) (face_at c.args.a c.args.b c.args.c)) (pos 0) (less (renamed (kept c.orient-u.result c.orient-u.ensures.small) c.orient-u.ensures.value) zero_kept c.if-u-lt0.true) r.a_in))

pub returns-then-v-lt0 : goal.returns-then-v-lt0
returns-then-v-lt0 c = (λ x. absurd (cc x), λ r. absurd (clash (weight_b (at c.args.p) (at c.args.q) (face_at c.args.a c.args.b c.args.c)) (pos 0) (less (renamed (kept c.orient-v.result c.orient-v.ensures.small) c.orient-v.ensures.value) zero_kept c.if-v-lt0.true) r.b_in))

pub returns : goal.returns
returns c =
    test_kept zero_kept (renamed (kept c.orient-w.result c.orient-w.ensures.small) c.orient-w.ensures.value) (
      λ h. record {
        low = not_less zero_kept (kept c.args.from c.requires.from_in) c.if-from-gt0.false;
        high = not_less (kept c.args.to c.requires.to_in) zero_kept c.if-to-lt0.false;
        steep = above (kept c.args.to c.requires.to_in) (kept c.args.from c.requires.from_in) c.if-to-from.false;
        a_in = not_less (renamed (kept c.orient-u.result c.orient-u.ensures.small) c.orient-u.ensures.value) zero_kept c.if-u-lt0.false;
        b_in = not_less (renamed (kept c.orient-v.result c.orient-v.ensures.small) c.orient-v.ensures.value) zero_kept c.if-v-lt0.false;
        c_in = h;
      },
      λ r. r.c_in,
    )
