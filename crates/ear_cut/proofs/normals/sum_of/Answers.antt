use Rattle.std.proofs.Common.{ℕ, ℤ, ◌+ℤ◌, ◌+◌, unsigned_abs, ◌≤◌, ◌≡◌, arith, subst, sym}
use Rattle.exact_arith.proofs.Ranges.{Kept, value_kept_64, sum_kept, kept_64, in_64, abs_add}
use Rattle.ear_cut.proofs.Parts.{same_vector}
use Rattle.ear_cut.proofs.normals.sum_of.Goals as goal

total : (a b : ℤ) → unsigned_abs a ≤ 8388608000000000000 → unsigned_abs b ≤ 128000000000000 → Kept (in_64 (in_64 a +ℤ in_64 b)) (a +ℤ b) (8388608000000000000 + 128000000000000)
total a b h k = kept_64 (sum_kept (value_kept_64 a h tt) (value_kept_64 b k tt)) tt

small : (m : ℕ) (e a b : ℤ) → e ≡ a +ℤ b → unsigned_abs a ≤ m → unsigned_abs b ≤ 128000000000000 → unsigned_abs e ≤ m + 128000000000000
small m e a b s h k = let d = abs_add a b in subst (λ (x : ℤ). unsigned_abs x ≤ m + 128000000000000) (sym s) (omega (arith, d, h, k))

pub returns-clause-value : goal.returns-clause-value
returns-clause-value c =
    let a = c.args.a in let b = c.args.b in let h = c.requires.a_in in let k = c.requires.b_in in
    same_vector _ _ _ _ _ _ (total a.x b.x h.x_in k.x_in).same (total a.y b.y h.y_in k.y_in).same (total a.z b.z h.z_in k.z_in).same

pub returns-clause-small : goal.returns-clause-small
returns-clause-small c =
    let a = c.args.a in let b = c.args.b in let h = c.requires.a_in in let k = c.requires.b_in in
    λ m l. record {
      x_in = small m _ a.x b.x (total a.x b.x h.x_in k.x_in).same l.x_in k.x_in;
      y_in = small m _ a.y b.y (total a.y b.y h.y_in k.y_in).same l.y_in k.y_in;
      z_in = small m _ a.z b.z (total a.z b.z h.z_in k.z_in).same l.z_in k.z_in;
    }
