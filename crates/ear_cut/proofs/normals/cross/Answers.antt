use Rattle.std.proofs.Common.{ℕ, ℤ, ◌-ℤ◌, ◌*ℤ◌, ◌*◌, ◌+◌, unsigned_abs, ◌≤◌, ◌≡◌, arith, subst, sym}
use Rattle.exact_arith.proofs.Ranges.{Kept, value_kept_64, product_kept, difference_kept, kept_64, in_64, fits_64, abs_sub, abs_mul}
use Rattle.ear_cut.proofs.Parts.{same_vector}
use Rattle.ear_cut.proofs.normals.cross.Goals as goal

factors : (a b : ℤ) → unsigned_abs a ≤ 16000000 → unsigned_abs b ≤ 16000000 → Kept (in_64 a *ℤ in_64 b) (a *ℤ b) (16000000 * 16000000)
factors a b h k = product_kept (value_kept_64 a h tt) (value_kept_64 b k tt)

whole : (a b p q : ℤ) → unsigned_abs a ≤ 16000000 → unsigned_abs b ≤ 16000000 → unsigned_abs p ≤ 16000000 → unsigned_abs q ≤ 16000000 → Kept (in_64 (in_64 a *ℤ in_64 b) -ℤ in_64 (in_64 p *ℤ in_64 q)) (a *ℤ b -ℤ p *ℤ q) (16000000 * 16000000 + 16000000 * 16000000)
whole a b p q h k l m = difference_kept (kept_64 (factors a b h k) tt) (kept_64 (factors p q l m) tt)

-- the size of a difference of products
small : (m : ℕ) (e a b p q : ℤ) → e ≡ a *ℤ b -ℤ p *ℤ q → unsigned_abs a ≤ m → unsigned_abs b ≤ m → unsigned_abs p ≤ m → unsigned_abs q ≤ m → unsigned_abs e ≤ m * m + m * m
small m e a b p q s h k l n =
    let f = abs_mul a b m m h k in
    let g = abs_mul p q m m l n in
    let d = abs_sub (a *ℤ b) (p *ℤ q) in
    subst (λ (x : ℤ). unsigned_abs x ≤ m * m + m * m) (sym s) (omega (arith, d, f, g))

pub overflow_mul-result : goal.overflow_mul-result
overflow_mul-result c = let a = c.args.a in let b = c.args.b in fits_64 (factors a.y b.z a.y_in b.z_in) tt

pub overflow_mul-result-2 : goal.overflow_mul-result-2
overflow_mul-result-2 c = let a = c.args.a in let b = c.args.b in fits_64 (factors a.z b.y a.z_in b.y_in) tt

pub overflow_mul-result-3 : goal.overflow_mul-result-3
overflow_mul-result-3 c = let a = c.args.a in let b = c.args.b in fits_64 (factors a.z b.x a.z_in b.x_in) tt

pub overflow_mul-result-4 : goal.overflow_mul-result-4
overflow_mul-result-4 c = let a = c.args.a in let b = c.args.b in fits_64 (factors a.x b.z a.x_in b.z_in) tt

pub overflow_mul-result-5 : goal.overflow_mul-result-5
overflow_mul-result-5 c = let a = c.args.a in let b = c.args.b in fits_64 (factors a.x b.y a.x_in b.y_in) tt

pub overflow_mul-result-6 : goal.overflow_mul-result-6
overflow_mul-result-6 c = let a = c.args.a in let b = c.args.b in fits_64 (factors a.y b.x a.y_in b.x_in) tt

pub overflow_sub-result : goal.overflow_sub-result
overflow_sub-result c = let a = c.args.a in let b = c.args.b in fits_64 (whole a.y b.z a.z b.y a.y_in b.z_in a.z_in b.y_in) tt

pub overflow_sub-result-2 : goal.overflow_sub-result-2
overflow_sub-result-2 c = let a = c.args.a in let b = c.args.b in fits_64 (whole a.z b.x a.x b.z a.z_in b.x_in a.x_in b.z_in) tt

pub overflow_sub-result-3 : goal.overflow_sub-result-3
overflow_sub-result-3 c = let a = c.args.a in let b = c.args.b in fits_64 (whole a.x b.y a.y b.x a.x_in b.y_in a.y_in b.x_in) tt

pub returns-clause-value : goal.returns-clause-value
returns-clause-value c =
    let a = c.args.a in let b = c.args.b in
    same_vector _ _ _ _ _ _ (kept_64 (whole a.y b.z a.z b.y a.y_in b.z_in a.z_in b.y_in) tt).same (kept_64 (whole a.z b.x a.x b.z a.z_in b.x_in a.x_in b.z_in) tt).same (kept_64 (whole a.x b.y a.y b.x a.x_in b.y_in a.y_in b.x_in) tt).same

pub returns-clause-small : goal.returns-clause-small
returns-clause-small c =
    let a = c.args.a in let b = c.args.b in
    λ m h k. record {
      x_in = small m _ a.y b.z a.z b.y (kept_64 (whole a.y b.z a.z b.y a.y_in b.z_in a.z_in b.y_in) tt).same h.y_in k.z_in h.z_in k.y_in;
      y_in = small m _ a.z b.x a.x b.z (kept_64 (whole a.z b.x a.x b.z a.z_in b.x_in a.x_in b.z_in) tt).same h.z_in k.x_in h.x_in k.z_in;
      z_in = small m _ a.x b.y a.y b.x (kept_64 (whole a.x b.y a.y b.x a.x_in b.y_in a.y_in b.x_in) tt).same h.x_in k.y_in h.y_in k.x_in;
    }
