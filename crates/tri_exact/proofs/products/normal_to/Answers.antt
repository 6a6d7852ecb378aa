use Rattle.std.proofs.Common.{ℤ, ◌-ℤ◌, ◌*ℤ◌, ◌*◌, ◌+◌, unsigned_abs, ◌≤◌}
use Rattle.exact_arith.proofs.Ranges.{Kept, value_kept_64, product_kept, difference_kept, kept_64, in_64, fits_64, bounded}
use Rattle.tri_exact.proofs.Pose.{same_parts}
use Rattle.tri_exact.proofs.products.normal_to.Goals as goal

factors : (a b : ℤ) → unsigned_abs a ≤ 16000000 → unsigned_abs b ≤ 16000000 → Kept (in_64 a *ℤ in_64 b) (a *ℤ b) (16000000 * 16000000)
factors a b h k = product_kept (value_kept_64 a h tt) (value_kept_64 b k tt)

whole : (a b p q : ℤ) → unsigned_abs a ≤ 16000000 → unsigned_abs b ≤ 16000000 → unsigned_abs p ≤ 16000000 → unsigned_abs q ≤ 16000000 → Kept (in_64 (in_64 a *ℤ in_64 b) -ℤ in_64 (in_64 p *ℤ in_64 q)) (a *ℤ b -ℤ p *ℤ q) (16000000 * 16000000 + 16000000 * 16000000)
whole a b p q h k l m = difference_kept (kept_64 (factors a b h k) tt) (kept_64 (factors p q l m) tt)

pub overflow_mul-result : goal.overflow_mul-result
overflow_mul-result c = let a = c.args.a in let b = c.args.b in fits_64 (factors a.y b.z a.y_in b.z_in) tt

pub overflow_mul-result-2 : goal.overflow_mul-result-2
overflow_mul-result-2 c = let a = c.args.a in let b = c.args.b in fits_64 (factors a.z b.y a.z_in b.y_in) tt

pub overflow_mul-result-3 : goal.overflow_mul-result-3
overflow_mul-result-3 c = let a = c.args.a in let b = c.args.b in fits_64 (factors a.z b.x a.z_in b.x_in) tt

pub overflow_mul-result-4 : goal.overflow_mul-result-4
overflow_mul-result-4 c = let a = c.args.a in let b = c.args.b in fits_64 (factors a.x b.z a.x_in b.z_in) tt

pub overflow_mul-result-5 : goal.overflow_mul-result-5
overflow_mul-result-5 c = let a = c.args.a in let b = c.args.b in fits_64 (factors a.x b.y a.x_in b.y_in) tt

pub overflow_mul-result-6 : goal.overflow_mul-result-6
overflow_mul-result-6 c = let a = c.args.a in let b = c.args.b in fits_64 (factors a.y b.x a.y_in b.x_in) tt

pub overflow_sub-result : goal.overflow_sub-result
overflow_sub-result c = let a = c.args.a in let b = c.args.b in fits_64 (whole a.y b.z a.z b.y a.y_in b.z_in a.z_in b.y_in) tt

pub overflow_sub-result-2 : goal.overflow_sub-result-2
overflow_sub-result-2 c = let a = c.args.a in let b = c.args.b in fits_64 (whole a.z b.x a.x b.z a.z_in b.x_in a.x_in b.z_in) tt

pub overflow_sub-result-3 : goal.overflow_sub-result-3
overflow_sub-result-3 c = let a = c.args.a in let b = c.args.b in fits_64 (whole a.x b.y a.y b.x a.x_in b.y_in a.y_in b.x_in) tt

pub returns : goal.returns
returns c =
    let a = c.args.a in let b = c.args.b in
    same_parts _ _ _ _ _ _ (kept_64 (whole a.y b.z a.z b.y a.y_in b.z_in a.z_in b.y_in) tt).same (kept_64 (whole a.z b.x a.x b.z a.z_in b.x_in a.x_in b.z_in) tt).same (kept_64 (whole a.x b.y a.y b.x a.x_in b.y_in a.y_in b.x_in) tt).same

pub invariant_of-result-clause-x_in : goal.invariant_of-result-clause-x_in
invariant_of-result-clause-x_in c = let a = c.args.a in let b = c.args.b in bounded (kept_64 (whole a.y b.z a.z b.y a.y_in b.z_in a.z_in b.y_in) tt)

pub invariant_of-result-clause-y_in : goal.invariant_of-result-clause-y_in
invariant_of-result-clause-y_in c = let a = c.args.a in let b = c.args.b in bounded (kept_64 (whole a.z b.x a.x b.z a.z_in b.x_in a.x_in b.z_in) tt)

pub invariant_of-result-clause-z_in : goal.invariant_of-result-clause-z_in
invariant_of-result-clause-z_in c = let a = c.args.a in let b = c.args.b in bounded (kept_64 (whole a.x b.y a.y b.x a.x_in b.y_in a.y_in b.x_in) tt)
