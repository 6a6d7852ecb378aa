use Rattle.std.proofs.Common.{◌≡◌, ℕ, ℤ, pos, ◌+ℤ◌, ◌-ℤ◌, ◌*ℤ◌, ◌≤ℤ◌, ◌<ℤ◌, ◌*◌, unsigned_abs, ◌≤◌, ◌↔◌, IsTrue, false, arith, to_z, refl, sym, subst, negsuc, [], ◌∷◌}
use mir.Syntax.{w128}
use Rattle.std.proofs.lemmas.Int.{ints}
use Rattle.exact_arith.proofs.Ring.{ring, at, lit, ◌⊕◌, ◌⊖◌, ◌⊗◌}
use Rattle.exact_arith.proofs.Order.{certify, mul_nonneg}
use Rattle.exact_arith.proofs.Ranges.{Kept, value_kept, product_kept, natural_kept, kept_128, fits_128, in_128, test_kept, abs_mul, above}
use Rattle.tri_exact.proofs.products.is_low.Goals as goal

bound_kept : (d : ℕ) → d ≤ 10000 → Kept (in_128 (to_z w128 d *ℤ to_z w128 d)) (pos d *ℤ pos d) (10000 * 10000)
bound_kept d h = kept_128 (product_kept (natural_kept d h tt) (natural_kept d h tt)) tt

-- the square of a number of 2 ^ 63 or more
large : (h : ℤ) → pos 9223372036854775808 ≤ℤ h → pos (9223372036854775808 * 9223372036854775808) ≤ℤ (h *ℤ h)
large h k =
    let f : pos 0 ≤ℤ (h -ℤ pos 9223372036854775808) = omega (arith, ints) in
    let g : pos 0 ≤ℤ (h +ℤ pos 9223372036854775808) = omega (arith, ints) in
    certify (h ∷ []) (lit (pos 1)) (lit (pos (9223372036854775808 * 9223372036854775808))) (at 0 ⊗ at 0) ((at 0 ⊖ lit (pos 9223372036854775808)) ⊗ (at 0 ⊕ lit (pos 9223372036854775808)))
    (omega (arith, ints)) refl (mul_nonneg _ _ f g)

below : (x : ℤ) → unsigned_abs x ≤ 100000000 * 786432000000000000000000000000 → x <ℤ pos (9223372036854775808 * 9223372036854775808)
below x h = omega (arith, ints)

clash : (x y : ℤ) → pos (9223372036854775808 * 9223372036854775808) ≤ℤ x → y <ℤ pos (9223372036854775808 * 9223372036854775808) → x ≤ℤ y → ⊥
clash x y f g h = omega (arith, ints)

-- is above what d and a square can be
limit : (d : ℕ) (s : ℤ) → d ≤ 10000 → unsigned_abs s ≤ 786432000000000000000000000000 → (pos d *ℤ pos d *ℤ s) <ℤ pos (9223372036854775808 * 9223372036854775808)
limit d s h k =
    let p = abs_mul (pos d) (pos d) 10000 10000 h h in
    let q = abs_mul (pos d *ℤ pos d) s 100000000 786432000000000000000000000000 p k in
    below (pos d *ℤ pos d *ℤ s) q

never : (h : ℤ) (d : ℕ) (s : ℤ) → d ≤ 10000 → unsigned_abs s ≤ 786432000000000000000000000000 → pos 9223372036854775808 ≤ℤ h → IsTrue false ↔ ((h *ℤ h) ≤ℤ (pos d *ℤ pos d *ℤ s))
never h d s a b c = (λ x. absurd (cc x), λ y. absurd (clash (h *ℤ h) (pos d *ℤ pos d *ℤ s) (large h c) (limit d s a b) y))

pub returns-then-height-ge-TALL : goal.returns-then-height-ge-TALL
returns-then-height-ge-TALL c = never c.args.height c.args.d c.args.square c.requires.d_in c.requires.square_in (omega (arith, ints, c.if-height-ge-TALL.true, c.requires.height_in))

bigger : unsigned_abs (pos 9223372036854775808) ≤ 9223372036854775808
bigger = omega (arith, ints)

smaller : unsigned_abs (negsuc 9223372036854775807) ≤ 9223372036854775808
smaller = omega (arith, ints)

inside : (h : ℤ) → h <ℤ pos 9223372036854775808 → negsuc 9223372036854775807 <ℤ h → unsigned_abs h ≤ 9223372036854775807
inside h f g = omega (arith, ints)

flipped : (h : ℤ) → (pos 0 -ℤ h) *ℤ (pos 0 -ℤ h) ≡ h *ℤ h
flipped h = ring (h ∷ []) ((lit (pos 0) ⊖ at 0) ⊗ (lit (pos 0) ⊖ at 0)) (at 0 ⊗ at 0) refl

never_below : (h : ℤ) (d : ℕ) (s : ℤ) → d ≤ 10000 → unsigned_abs s ≤ 786432000000000000000000000000 → h ≤ℤ negsuc 9223372036854775807 → IsTrue false ↔ ((h *ℤ h) ≤ℤ (pos d *ℤ pos d *ℤ s))
never_below h d s a b c =
    let k : pos 9223372036854775808 ≤ℤ (pos 0 -ℤ h) = omega (arith, ints) in
    let p = never (pos 0 -ℤ h) d s a b k in
    (λ x. absurd (cc x), λ y. p.1 (subst (λ (x : ℤ). x ≤ℤ (pos d *ℤ pos d *ℤ s)) (sym (flipped h)) y))

pub returns-then-height-le-DEEP : goal.returns-then-height-le-DEEP
returns-then-height-le-DEEP c = never_below c.args.height c.args.d c.args.square c.requires.d_in c.requires.square_in (omega (arith, ints, c.if-height-le-DEEP.true, c.requires.height_in))

height_kept : (c : goal.Else-height-le-DEEP) → Kept (in_128 c.args.height) c.args.height 9223372036854775807
height_kept c =
    let big = kept_128 (value_kept c.args.height c.requires.height_in) tt in
    let up = above (value_kept (pos 9223372036854775808) bigger) big c.if-height-ge-TALL.false in
    let down = above big (value_kept (negsuc 9223372036854775807) smaller) c.if-height-le-DEEP.false in
    record { same = big.same; small = inside c.args.height up down }

pub overflow_mul-result : goal.overflow_mul-result
overflow_mul-result c = let k = height_kept c in fits_128 (product_kept k k) tt

pub overflow_mul-result-3 : goal.overflow_mul-result-3
overflow_mul-result-3 c = fits_128 (product_kept (bound_kept c.args.d c.requires.d_in) (kept_128 (value_kept c.args.square c.requires.square_in) tt)) tt

pub returns : goal.returns
returns c =
    let k = height_kept c in
    test_kept (kept_128 (product_kept k k) tt) (kept_128 (product_kept (bound_kept c.args.d c.requires.d_in) (kept_128 (value_kept c.args.square c.requires.square_in) tt)) tt) (λ x. x, λ x. x)
