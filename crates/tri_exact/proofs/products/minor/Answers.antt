use Rattle.std.proofs.Common.{ℤ, ◌-ℤ◌, ◌*ℤ◌, ◌*◌, ◌+◌, unsigned_abs, ◌≤◌}
use Rattle.exact_arith.proofs.Ranges.{Kept, value_kept_64, product_kept, difference_kept, kept_128, in_64, in_128, fits_128, bounded}
use Rattle.tri_exact.proofs.products.minor.Goals as goal

factors : (a b : ℤ) → unsigned_abs a ≤ 768000000000000 → unsigned_abs b ≤ 768000000000000 → Kept (in_128 (in_64 a) *ℤ in_128 (in_64 b)) (a *ℤ b) (768000000000000 * 768000000000000)
factors a b h k = product_kept (kept_128 (value_kept_64 a h tt) tt) (kept_128 (value_kept_64 b k tt) tt)

both : (a b p q : ℤ) → unsigned_abs a ≤ 768000000000000 → unsigned_abs b ≤ 768000000000000 → unsigned_abs p ≤ 768000000000000 → unsigned_abs q ≤ 768000000000000 →
    Kept (in_128 (in_128 (in_64 a) *ℤ in_128 (in_64 b)) -ℤ in_128 (in_128 (in_64 p) *ℤ in_128 (in_64 q))) (a *ℤ b -ℤ p *ℤ q) (768000000000000 * 768000000000000 + 768000000000000 * 768000000000000)
both a b p q h k l m = difference_kept (kept_128 (factors a b h k) tt) (kept_128 (factors p q l m) tt)

pub overflow_mul-result : goal.overflow_mul-result
overflow_mul-result c = fits_128 (factors c.args.a c.args.b c.requires.a_in c.requires.b_in) tt

pub overflow_mul-result-2 : goal.overflow_mul-result-2
overflow_mul-result-2 c = fits_128 (factors c.args.c c.args.d c.requires.c_in c.requires.d_in) tt

pub overflow_sub-result : goal.overflow_sub-result
overflow_sub-result c = fits_128 (both c.args.a c.args.b c.args.c c.args.d c.requires.a_in c.requires.b_in c.requires.c_in c.requires.d_in) tt

pub returns-clause-value : goal.returns-clause-value
returns-clause-value c = (kept_128 (both c.args.a c.args.b c.args.c c.args.d c.requires.a_in c.requires.b_in c.requires.c_in c.requires.d_in) tt).same

pub returns-clause-small : goal.returns-clause-small
returns-clause-small c = bounded (kept_128 (both c.args.a c.args.b c.args.c c.args.d c.requires.a_in c.requires.b_in c.requires.c_in c.requires.d_in) tt)
