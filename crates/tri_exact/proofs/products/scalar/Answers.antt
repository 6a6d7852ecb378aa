use Rattle.std.proofs.Common.{ℤ, ◌*ℤ◌, ◌*◌, unsigned_abs, ◌≤◌}
use Rattle.exact_arith.proofs.Ranges.{Kept, value_kept_64, product_kept, sum_kept, kept_64, in_64, fits_64, bounded}
use Rattle.tri_exact.proofs.products.scalar.Goals as goal

factors : (a b : ℤ) → unsigned_abs a ≤ 16000000 → unsigned_abs b ≤ 16000000 → Kept (in_64 a *ℤ in_64 b) (a *ℤ b) (16000000 * 16000000)
factors a b h k = product_kept (value_kept_64 a h tt) (value_kept_64 b k tt)

term : (a b : ℤ) → unsigned_abs a ≤ 16000000 → unsigned_abs b ≤ 16000000 → Kept (in_64 (in_64 a *ℤ in_64 b)) (a *ℤ b) (16000000 * 16000000)
term a b h k = kept_64 (factors a b h k) tt

pub overflow_mul-result : goal.overflow_mul-result
overflow_mul-result c = let a = c.args.a in let b = c.args.b in fits_64 (factors a.x b.x a.x_in b.x_in) tt

pub overflow_mul-result-2 : goal.overflow_mul-result-2
overflow_mul-result-2 c = let a = c.args.a in let b = c.args.b in fits_64 (factors a.y b.y a.y_in b.y_in) tt

pub overflow_mul-result-3 : goal.overflow_mul-result-3
overflow_mul-result-3 c = let a = c.args.a in let b = c.args.b in fits_64 (factors a.z b.z a.z_in b.z_in) tt

pub overflow_add-result : goal.overflow_add-result
overflow_add-result c = let a = c.args.a in let b = c.args.b in fits_64 (sum_kept (term a.x b.x a.x_in b.x_in) (term a.y b.y a.y_in b.y_in)) tt

pub overflow_add-result-2 : goal.overflow_add-result-2
overflow_add-result-2 c = let a = c.args.a in let b = c.args.b in fits_64 (sum_kept (kept_64 (sum_kept (term a.x b.x a.x_in b.x_in) (term a.y b.y a.y_in b.y_in)) tt) (term a.z b.z a.z_in b.z_in)) tt

pub returns-clause-value : goal.returns-clause-value
returns-clause-value c = let a = c.args.a in let b = c.args.b in (kept_64 (sum_kept (kept_64 (sum_kept (term a.x b.x a.x_in b.x_in) (term a.y b.y a.y_in b.y_in)) tt) (term a.z b.z a.z_in b.z_in)) tt).same

pub returns-clause-small : goal.returns-clause-small
returns-clause-small c = let a = c.args.a in let b = c.args.b in bounded (kept_64 (sum_kept (kept_64 (sum_kept (term a.x b.x a.x_in b.x_in) (term a.y b.y a.y_in b.y_in)) tt) (term a.z b.z a.z_in b.z_in)) tt)
