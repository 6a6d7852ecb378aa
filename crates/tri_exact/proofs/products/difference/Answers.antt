use Rattle.std.proofs.Common.{ℤ, ◌-ℤ◌, ◌+◌, ◌≤◌, unsigned_abs}
use Rattle.exact_arith.proofs.Ranges.{Kept, value_kept_64, difference_kept, kept_64, in_64}
use Rattle.tri_exact.proofs.Pose.{same_parts}
use Rattle.tri_exact.proofs.products.difference.Goals as goal

less : (a b : ℤ) → unsigned_abs a ≤ 8000000 → unsigned_abs b ≤ 8000000 → Kept (in_64 (in_64 a -ℤ in_64 b)) (a -ℤ b) (8000000 + 8000000)
less a b h k = kept_64 (difference_kept (value_kept_64 a h tt) (value_kept_64 b k tt)) tt

pub returns : goal.returns
returns c =
    let a = c.args.a in let b = c.args.b in let h = c.requires.a_in in let k = c.requires.b_in in
    same_parts _ _ _ _ _ _ (less a.x b.x h.x_in k.x_in).same (less a.y b.y h.y_in k.y_in).same (less a.z b.z h.z_in k.z_in).same
