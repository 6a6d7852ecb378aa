use Rattle.std.proofs.Common.{ℤ, ◌*ℤ◌, ◌*◌, unsigned_abs, ◌≤◌}
use Rattle.exact_arith.proofs.Ranges.{Kept, value_kept_64, product_kept, sum_kept, kept_128, in_64, in_128, fits_128, bounded}
use Rattle.tri_exact.proofs.products.height.Goals as goal

factors : (a b : ℤ) → unsigned_abs a ≤ 16000000 → unsigned_abs b ≤ 512000000000000 → Kept (in_128 (in_64 a) *ℤ in_128 (in_64 b)) (a *ℤ b) (16000000 * 512000000000000)
factors a b h k = product_kept (kept_128 (value_kept_64 a h tt) tt) (kept_128 (value_kept_64 b k tt) tt)

term : (a b : ℤ) → unsigned_abs a ≤ 16000000 → unsigned_abs b ≤ 512000000000000 → Kept (in_128 (in_128 (in_64 a) *ℤ in_128 (in_64 b))) (a *ℤ b) (16000000 * 512000000000000)
term a b h k = kept_128 (factors a b h k) tt

pub overflow_mul-result : goal.overflow_mul-result
overflow_mul-result c = let a = c.args.v in let b = c.args.n in fits_128 (factors a.x b.x a.x_in b.x_in) tt

pub overflow_mul-result-2 : goal.overflow_mul-result-2
overflow_mul-result-2 c = let a = c.args.v in let b = c.args.n in fits_128 (factors a.y b.y a.y_in b.y_in) tt

pub overflow_mul-result-3 : goal.overflow_mul-result-3
overflow_mul-result-3 c = let a = c.args.v in let b = c.args.n in fits_128 (factors a.z b.z a.z_in b.z_in) tt

pub overflow_add-result : goal.overflow_add-result
overflow_add-result c = let a = c.args.v in let b = c.args.n in fits_128 (sum_kept (term a.x b.x a.x_in b.x_in) (term a.y b.y a.y_in b.y_in)) tt

pub overflow_add-result-2 : goal.overflow_add-result-2
overflow_add-result-2 c = let a = c.args.v in let b = c.args.n in fits_128 (sum_kept (kept_128 (sum_kept (term a.x b.x a.x_in b.x_in) (term a.y b.y a.y_in b.y_in)) tt) (term a.z b.z a.z_in b.z_in)) tt

pub returns-clause-value : goal.returns-clause-value
returns-clause-value c = let a = c.args.v in let b = c.args.n in (kept_128 (sum_kept (kept_128 (sum_kept (term a.x b.x a.x_in b.x_in) (term a.y b.y a.y_in b.y_in)) tt) (term a.z b.z a.z_in b.z_in)) tt).same

pub returns-clause-small : goal.returns-clause-small
returns-clause-small c = let a = c.args.v in let b = c.args.n in bounded (kept_128 (sum_kept (kept_128 (sum_kept (term a.x b.x a.x_in b.x_in) (term a.y b.y a.y_in b.y_in)) tt) (term a.z b.z a.z_in b.z_in)) tt)
