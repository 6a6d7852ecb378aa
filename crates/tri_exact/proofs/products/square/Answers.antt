use Rattle.std.proofs.Common.{ℤ, ◌*ℤ◌, ◌*◌, unsigned_abs, ◌≤◌}
use Rattle.exact_arith.proofs.Ranges.{Kept, value_kept_64, product_kept, sum_kept, kept_128, in_64, in_128, fits_128, bounded}
use Rattle.tri_exact.proofs.products.square.Goals as goal

factors : (a : ℤ) → unsigned_abs a ≤ 512000000000000 → Kept (in_128 (in_64 a) *ℤ in_128 (in_64 a)) (a *ℤ a) (512000000000000 * 512000000000000)
factors a h = product_kept (kept_128 (value_kept_64 a h tt) tt) (kept_128 (value_kept_64 a h tt) tt)

term : (a : ℤ) → unsigned_abs a ≤ 512000000000000 → Kept (in_128 (in_128 (in_64 a) *ℤ in_128 (in_64 a))) (a *ℤ a) (512000000000000 * 512000000000000)
term a h = kept_128 (factors a h) tt

pub overflow_mul-result : goal.overflow_mul-result
overflow_mul-result c = let a = c.args.n in fits_128 (factors a.x a.x_in) tt

pub overflow_mul-result-2 : goal.overflow_mul-result-2
overflow_mul-result-2 c = let a = c.args.n in fits_128 (factors a.y a.y_in) tt

pub overflow_mul-result-3 : goal.overflow_mul-result-3
overflow_mul-result-3 c = let a = c.args.n in fits_128 (factors a.z a.z_in) tt

pub overflow_add-result : goal.overflow_add-result
overflow_add-result c = let a = c.args.n in fits_128 (sum_kept (term a.x a.x_in) (term a.y a.y_in)) tt

pub overflow_add-result-2 : goal.overflow_add-result-2
overflow_add-result-2 c = let a = c.args.n in fits_128 (sum_kept (kept_128 (sum_kept (term a.x a.x_in) (term a.y a.y_in)) tt) (term a.z a.z_in)) tt

pub returns-clause-value : goal.returns-clause-value
returns-clause-value c = let a = c.args.n in (kept_128 (sum_kept (kept_128 (sum_kept (term a.x a.x_in) (term a.y a.y_in)) tt) (term a.z a.z_in)) tt).same

pub returns-clause-small : goal.returns-clause-small
returns-clause-small c = let a = c.args.n in bounded (kept_128 (sum_kept (kept_128 (sum_kept (term a.x a.x_in) (term a.y a.y_in)) tt) (term a.z a.z_in)) tt)
