use Rattle.std.proofs.Common.{◌≡◌, ℕ, ℤ, pos, ◌-ℤ◌, ◌+◌, ◌≤◌, unsigned_abs, inl, inr, subst}
use Rattle.clearance.specs.inner.Planes.{Clear}
use Rattle.exact_arith.proofs.Ranges.{Kept, value_kept, difference_kept, kept_128, in_128, zero_kept, fits_128, bounded}
use Rattle.clearance.proofs.planes.is_beyond.Goals as goal

kept : (s : ℤ) → unsigned_abs s ≤ 24576000000000000000000 → Kept (in_128 s) s 24576000000000000000000
kept s h = kept_128 (value_kept s h) tt

wide : (s : ℤ) → unsigned_abs s ≤ 786432000000000000000000000000 → Kept (in_128 s) s 786432000000000000000000000000
wide s h = kept_128 (value_kept s h) tt

back : (s : ℤ) → unsigned_abs s ≤ 24576000000000000000000 → Kept (in_128 (pos 0 -ℤ in_128 s)) (pos 0 -ℤ s) (0 + 24576000000000000000000)
back s h = kept_128 (difference_kept zero_kept (kept s h)) tt

same_clear : (a b c f p q r g : ℤ) (d : ℕ) → a ≡ p → b ≡ q → c ≡ r → f ≡ g → Clear a b c f d → Clear p q r g d
same_clear a b c f p q r g d h i j k x =
    subst (λ (y : ℤ). Clear p q r y d) k (subst (λ (y : ℤ). Clear p q y f d) j (subst (λ (y : ℤ). Clear p y c f d) i (subst (λ (y : ℤ). Clear y b c f d) h x)))

pub overflow_sub-a : goal.overflow_sub-a
overflow_sub-a c = fits_128 (difference_kept zero_kept (kept c.args.over.a c.requires.tall.a_in)) tt

pub overflow_sub-b : goal.overflow_sub-b
overflow_sub-b c = fits_128 (difference_kept zero_kept (kept c.args.over.b c.requires.tall.b_in)) tt

pub overflow_sub-c : goal.overflow_sub-c
overflow_sub-c c = fits_128 (difference_kept zero_kept (kept c.args.over.c c.requires.tall.c_in)) tt

pub is_clear-requires-2-clause-a_in : goal.is_clear-requires-2-clause-a_in
is_clear-requires-2-clause-a_in c = bounded (back c.args.over.a c.requires.tall.a_in)

pub is_clear-requires-2-clause-b_in : goal.is_clear-requires-2-clause-b_in
is_clear-requires-2-clause-b_in c = bounded (back c.args.over.b c.requires.tall.b_in)

pub is_clear-requires-2-clause-c_in : goal.is_clear-requires-2-clause-c_in
is_clear-requires-2-clause-c_in c = bounded (back c.args.over.c c.requires.tall.c_in)

pub returns-then-is_clear : goal.returns-then-is_clear
returns-then-is_clear c =
    let h = c.args.over in let k = c.requires.tall in
    λ x. inl (same_clear _ _ _ _ _ _ _ _ c.args.d (kept h.a k.a_in).same (kept h.b k.b_in).same (kept h.c k.c_in).same (wide c.args.plane.square c.requires.square_in).same (c.is_clear.ensures c.if-is_clear.true))

pub returns : goal.returns
returns c =
    let h = c.args.over in let k = c.requires.tall in
    λ x. inr (same_clear _ _ _ _ _ _ _ _ c.args.d (back h.a k.a_in).same (back h.b k.b_in).same (back h.c k.c_in).same (wide c.args.plane.square c.requires.square_in).same (c.is_clear-2.ensures x))
