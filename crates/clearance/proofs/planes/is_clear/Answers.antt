use Rattle.std.proofs.Common.{◌≡◌, ◌↔◌, Bool, IsTrue, false, ℤ, pos, ◌*ℤ◌, ◌≤ℤ◌, ◌<ℤ◌, ◌≤◌, unsigned_abs, subst}
use Rattle.std.proofs.lemmas.Int.{by_lt_z}
use Rattle.tri_exact.proofs.Choice.{not_both}
use Rattle.exact_arith.proofs.Order.{le_trans}
use Rattle.exact_arith.proofs.Ranges.{Kept, value_kept, kept_128, in_128, above, zero_kept, squares_kept}
use Rattle.clearance.proofs.planes.is_clear.Goals as goal

kept : (s : ℤ) → unsigned_abs s ≤ 24576000000000000000000 → Kept (in_128 s) s 24576000000000000000000
kept s h = kept_128 (value_kept s h) tt

wide : (s : ℤ) → unsigned_abs s ≤ 786432000000000000000000000000 → Kept (in_128 s) s 786432000000000000000000000000
wide s h = kept_128 (value_kept s h) tt

not_low : (b : Bool) (x y : ℤ) → IsTrue b ↔ (x ≤ℤ y) → b ≡ false → y <ℤ x
not_low b x y q e = by_lt_z y x (λ h. h) (λ h. not_both e (q.1 h))

-- a bound on an argument as the callee saw it
seen : (r a : ℤ) → in_128 a ≡ a → r ≤ℤ in_128 a → r ≤ℤ a
seen r a e h = subst (λ (x : ℤ). r ≤ℤ x) e h

pub returns-then-least-le0 : goal.returns-then-least-le0
returns-then-least-le0 c = λ x. absurd (cc x)

pub returns-then-is_low : goal.returns-then-is_low
returns-then-is_low c = λ x. absurd (cc x)

pub returns : goal.returns
returns c =
    let m = c.lesser-least.result in
    let l = seen m c.lesser-lower.result (kept c.lesser-lower.result c.lesser-lower.ensures.small).same c.lesser-least.ensures.a in
    λ x. record {
      least = m;
      above = above (kept m c.lesser-least.ensures.small) zero_kept c.if-least-le0.false;
      a_in = le_trans m c.lesser-lower.result c.args.a l (seen c.lesser-lower.result c.args.a (kept c.args.a c.requires.a_in).same c.lesser-lower.ensures.a);
      b_in = le_trans m c.lesser-lower.result c.args.b l (seen c.lesser-lower.result c.args.b (kept c.args.b c.requires.b_in).same c.lesser-lower.ensures.b);
      c_in = seen m c.args.c (kept c.args.c c.requires.c_in).same c.lesser-least.ensures.b;
      far = not_low _ (m *ℤ m) (pos c.args.d *ℤ pos c.args.d *ℤ c.args.square) (squares_kept (pos c.args.d *ℤ pos c.args.d) (kept m c.lesser-least.ensures.small) (wide c.args.square c.requires.square_in) c.is_low.ensures) c.if-is_low.false;
    }
