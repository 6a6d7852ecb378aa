-- A length has one grid number.
use Rattle.std.proofs.Common.{◌≡◌, ℕ, zero, suc, ◌+◌, ◌*◌, ◌<◌, ◌≤◌, ◌⊎◌, inl, inr, ℤ, pos, negsuc, ◌-ℤ◌, ◌+ℤ◌, ◌*ℤ◌, ◌<ℤ◌, ◌≤ℤ◌, arith}
use Rattle.std.specs.Prelude.{unsigned_abs}
use Rattle.std.proofs.Math.IntN.{negsuc-*ℤ-pos}
use Rattle.std.proofs.lemmas.Int.{ints, by_lt_z, unsigned_abs-mul}
use Rattle.std.proofs.Math.Nat.{one-le-pow}
use Rattle.bim_model.specs.declared.upload.Mode.{Mode}
use Rattle.bim_model.specs.declared.upload.Mode.TheVariants.{Exact, Snap}
use Rattle.bim_text.specs.ScaledNumbers.{Scaled, below, numerator, denominator}
use Rattle.bim_text.proofs.Quotients.{times}
use Rattle.ifc_units.specs.Grid.{IsGridNumber}

-- products keep the order
apart : (g h : ℤ) (d : ℕ) → g <ℤ h → (g *ℤ pos d +ℤ pos d) ≤ℤ (h *ℤ pos d)
apart (pos a) (pos b) d lt = let less : a + 1 ≤ b = omega (arith, ints, lt) in omega (arith, ints, times d (a + 1) b less)
apart (pos a) (negsuc b) d lt = absurd (omega (arith, ints, lt))
apart (negsuc a) (pos b) d lt = rw (negsuc-*ℤ-pos a d) (omega (arith, ints))
apart (negsuc a) (negsuc b) d lt = let less : b + 1 ≤ a = omega (arith, ints, lt) in rw (negsuc-*ℤ-pos a d, negsuc-*ℤ-pos b d) (omega (arith, ints, times d (b + 1) a less))

exact_apart : (u d : ℕ) (a x y : ℤ) → u < 500 → (x +ℤ pos d) ≤ℤ y → 1000 * unsigned_abs (a -ℤ x) < u * d → 1000 * unsigned_abs (a -ℤ y) < u * d → ⊥
exact_apart u d a x y few far near other =
    let most : u ≤ 499 = omega (arith, few) in
    omega (arith, ints, far, near, other, times d u 499 most)

low : (g : ℤ) (d : ℕ) → (pos 0 ≤ℤ (g *ℤ pos d)) ⊎ ((g *ℤ pos d +ℤ pos d) ≤ℤ pos 0)
low (pos n) d = inl (omega (arith, ints))
low (negsuc n) d = inr (rw (negsuc-*ℤ-pos n d) (omega (arith, ints)))

high : (h : ℤ) (d : ℕ) → ((h *ℤ pos d) ≤ℤ pos 0) ⊎ (pos d ≤ℤ (h *ℤ pos d))
high (pos zero) d = inl (omega (arith, ints))
high (pos (suc n)) d = inr (omega (arith, ints))
high (negsuc n) d = inl (rw (negsuc-*ℤ-pos n d) (omega (arith, ints)))

between : (d : ℕ) (a x y : ℤ) → 0 < d → (x +ℤ pos d) ≤ℤ y → 2 * unsigned_abs (a -ℤ x) ≤ d → 2 * unsigned_abs (a -ℤ y) ≤ d → unsigned_abs a < unsigned_abs x → unsigned_abs a < unsigned_abs y
    → (pos 0 ≤ℤ x) ⊎ ((x +ℤ pos d) ≤ℤ pos 0) → (y ≤ℤ pos 0) ⊎ (pos d ≤ℤ y) → ⊥
between d a x y some far near other more less (inl s) t = omega (arith, ints, some, far, near, other, more, less, s)
between d a x y some far near other more less (inr s) (inl t) = omega (arith, ints, some, far, near, other, more, less, t)
between d a x y some far near other more less (inr s) (inr t) = omega (arith, ints, some, far, near, other, s, t)

snap_apart : (d : ℕ) (a x y : ℤ) → (x +ℤ pos d) ≤ℤ y → 2 * unsigned_abs (a -ℤ x) ≤ d → 2 * unsigned_abs (a -ℤ y) ≤ d → (2 * unsigned_abs (a -ℤ x) ≡ d) × (2 * unsigned_abs (a -ℤ y) ≡ d)
snap_apart d a x y far near other = (omega (arith, ints, far, near, other), omega (arith, ints, far, near, other))

not_below : (mode : Mode) (u : ℕ) (x : Scaled) (g h : ℤ) → u < 500 → IsGridNumber mode u x g → IsGridNumber mode u x h → g <ℤ h → ⊥
not_below Exact u x g h few close other lt = exact_apart u (denominator x) (pos u *ℤ numerator x) (g *ℤ pos (denominator x)) (h *ℤ pos (denominator x)) few (apart g h (denominator x) lt) close other
not_below Snap u x g h few close other lt =
    let d = denominator x in
    let a = pos u *ℤ numerator x in
    let far = apart g h d lt in
    let ties = snap_apart d a (g *ℤ pos d) (h *ℤ pos d) far close.near other.near in
    let size = unsigned_abs-mul (pos u) (numerator x) in
    let more : unsigned_abs a < unsigned_abs (g *ℤ pos d) = omega (arith, close.away ties.0, size, unsigned_abs-mul g (pos d)) in
    let less : unsigned_abs a < unsigned_abs (h *ℤ pos d) = omega (arith, other.away ties.1, size, unsigned_abs-mul h (pos d)) in
    between d a (g *ℤ pos d) (h *ℤ pos d) (one-le-pow (below x.power) 10 (omega arith)) far close.near other.near more less (low g d) (high h d)

pub unique : (mode : Mode) (u : ℕ) (x : Scaled) (g h : ℤ) → u < 500 → IsGridNumber mode u x g → IsGridNumber mode u x h → g ≡ h
unique mode u x g h few close other =
    by_lt_z g h (λ lt. absurd (not_below mode u x g h few close other lt))
    (λ le. by_lt_z h g (λ lt. absurd (not_below mode u x h g few other close lt)) (λ more. omega (arith, ints, le, more)))
