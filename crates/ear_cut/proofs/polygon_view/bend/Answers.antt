use Rattle.std.proofs.Common.{ℤ, ◌-ℤ◌, ◌*ℤ◌, ◌*◌, ◌+◌, unsigned_abs, ◌≤◌}
use Rattle.exact_arith.proofs.Ranges.{Kept, value_kept_64, product_kept, difference_kept, kept_64, in_64, fits_64, bounded}
use Rattle.ear_cut.proofs.polygon_view.bend.Goals as goal

step : (a b : ℤ) → unsigned_abs a ≤ 8000000 → unsigned_abs b ≤ 8000000 → Kept (in_64 (in_64 a -ℤ in_64 b)) (a -ℤ b) (8000000 + 8000000)
step a b h k = kept_64 (difference_kept (value_kept_64 a h tt) (value_kept_64 b k tt)) tt

factors : (a b c d : ℤ) → unsigned_abs a ≤ 8000000 → unsigned_abs b ≤ 8000000 → unsigned_abs c ≤ 8000000 → unsigned_abs d ≤ 8000000 → Kept (in_64 (in_64 a -ℤ in_64 b) *ℤ in_64 (in_64 c -ℤ in_64 d)) ((a -ℤ b) *ℤ (c -ℤ d)) ((8000000 + 8000000) * (8000000 + 8000000))
factors a b c d h k l m = product_kept (step a b h k) (step c d l m)

module _ (au av bu bv cu cv : ℤ) (h : unsigned_abs au ≤ 8000000) (k : unsigned_abs av ≤ 8000000) (l : unsigned_abs bu ≤ 8000000) (m : unsigned_abs bv ≤ 8000000) (n : unsigned_abs cu ≤ 8000000) (o : unsigned_abs cv ≤ 8000000) where
  whole : Kept (in_64 (in_64 (in_64 bu -ℤ in_64 au) *ℤ in_64 (in_64 cv -ℤ in_64 bv)) -ℤ in_64 (in_64 (in_64 bv -ℤ in_64 av) *ℤ in_64 (in_64 cu -ℤ in_64 bu))) ((bu -ℤ au) *ℤ (cv -ℤ bv) -ℤ (bv -ℤ av) *ℤ (cu -ℤ bu)) ((8000000 + 8000000) * (8000000 + 8000000) + (8000000 + 8000000) * (8000000 + 8000000))
  whole = difference_kept (kept_64 (factors bu au cv bv l h o m) tt) (kept_64 (factors bv av cu bu m k n l) tt)

pub overflow_mul-result : goal.overflow_mul-result
overflow_mul-result c = let a = c.args.a in let b = c.args.b in let d = c.args.c in fits_64 (factors b.u a.u d.v b.v b.u_in a.u_in d.v_in b.v_in) tt

pub overflow_mul-result-2 : goal.overflow_mul-result-2
overflow_mul-result-2 c = let a = c.args.a in let b = c.args.b in let d = c.args.c in fits_64 (factors b.v a.v d.u b.u b.v_in a.v_in d.u_in b.u_in) tt

pub overflow_sub-result-5 : goal.overflow_sub-result-5
overflow_sub-result-5 c = let a = c.args.a in let b = c.args.b in let d = c.args.c in fits_64 (whole a.u a.v b.u b.v d.u d.v a.u_in a.v_in b.u_in b.v_in d.u_in d.v_in) tt

pub returns-clause-value : goal.returns-clause-value
returns-clause-value c = let a = c.args.a in let b = c.args.b in let d = c.args.c in (kept_64 (whole a.u a.v b.u b.v d.u d.v a.u_in a.v_in b.u_in b.v_in d.u_in d.v_in) tt).same

pub returns-clause-small : goal.returns-clause-small
returns-clause-small c = let a = c.args.a in let b = c.args.b in let d = c.args.c in bounded (kept_64 (whole a.u a.v b.u b.v d.u d.v a.u_in a.v_in b.u_in b.v_in d.u_in d.v_in) tt)
