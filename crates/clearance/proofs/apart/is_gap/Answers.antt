use Rattle.std.proofs.Common.{◌≡◌, ◌↔◌, ◌+◌, Bool, IsTrue, false, ℤ, pos, ◌-ℤ◌, ◌*ℤ◌, ◌≤ℤ◌, ◌<ℤ◌, ◌≤◌, unsigned_abs, subst}
use Rattle.std.proofs.lemmas.Int.{by_lt_z}
use Rattle.tri_exact.proofs.Choice.{not_both}
use Rattle.exact_arith.proofs.Ranges.{Kept, value_kept, difference_kept, kept_128, in_128, fits_128, squares_kept, bounded}
use Rattle.clearance.proofs.apart.is_gap.Goals as goal

kept : (s : ℤ) → unsigned_abs s ≤ 24576000000000000000000 → Kept (in_128 s) s 24576000000000000000000
kept s h = kept_128 (value_kept s h) tt

wide : (s : ℤ) → unsigned_abs s ≤ 786432000000000000000000000000 → Kept (in_128 s) s 786432000000000000000000000000
wide s h = kept_128 (value_kept s h) tt

gap_kept : (low high : ℤ) → unsigned_abs low ≤ 24576000000000000000000 → unsigned_abs high ≤ 24576000000000000000000 → Kept (in_128 (in_128 low -ℤ in_128 high)) (low -ℤ high) (24576000000000000000000 + 24576000000000000000000)
gap_kept low high h k = kept_128 (difference_kept (kept low h) (kept high k)) tt

not_low : (b : Bool) (x y : ℤ) → IsTrue b ↔ (x ≤ℤ y) → b ≡ false → y <ℤ x
not_low b x y q e = by_lt_z y x (λ h. h) (λ h. not_both e (q.1 h))

pub overflow_sub-gap : goal.overflow_sub-gap
overflow_sub-gap c = fits_128 (difference_kept (kept c.args.low c.requires.low_in) (kept c.args.high c.requires.high_in)) tt

pub capped-requires-clause-gap_in : goal.capped-requires-clause-gap_in
capped-requires-clause-gap_in c = bounded (gap_kept c.args.low c.args.high c.requires.low_in c.requires.high_in)

pub returns : goal.returns
returns c =
    let m = c.capped.result in
    λ x. record {
      m = m;
      some = c.capped.ensures.some;
      gap = subst (λ (y : ℤ). m ≤ℤ y) (gap_kept c.args.low c.args.high c.requires.low_in c.requires.high_in).same c.capped.ensures.at_most;
      far = not_low _ (m *ℤ m) (pos c.args.d *ℤ pos c.args.d *ℤ c.args.square) (squares_kept (pos c.args.d *ℤ pos c.args.d) (kept m c.capped.ensures.small) (wide c.args.square c.requires.square_in) c.is_low.ensures) c.if-is_low.false;
    }
