-- Values of one power of ten, and their order.
use Rattle.std.proofs.Common.{◌≡◌, ◌⊎◌, inl, inr, ℕ, zero, suc, ◌+◌, ◌*◌, ◌^◌, ◌<◌, ℤ, pos, negsuc, ◌+ℤ◌, ◌*ℤ◌, Bool, true, false, refl, sym, ap, ◌∙◌, arith}
use Rattle.std.specs.Prelude.{unsigned_abs}
use Rattle.std.specs.declared.cmp.Ordering.{Ordering}
use Rattle.std.specs.declared.cmp.Ordering.TheVariants.{Less, Equal, Greater}
use Rattle.std.specs.Ordering.{nat_cmp, MatchOrdering, ordering_reverse}
use Rattle.std.specs.Cmp.{nat_cmp_is}
use Rattle.std.proofs.lemmas.Cmp.{ranked}
use Rattle.std.proofs.lemmas.Nat.{pow-add}
use Rattle.std.proofs.lemmas.Int.{ints}
use Rattle.std.proofs.Math.IntN.{negsuc-*ℤ-pos}
use Rattle.std.proofs.Math.Nat.{one-le-pow, mul-lt-mul_of_pos_right}
use Rattle.bim_text.specs.ScaledNumbers.{signed, above, below, SameValue, size_order}

-- signs

pub signed_times : (b : Bool) (m k : ℕ) → signed b m *ℤ pos k ≡ signed b (m * k)
signed_times false m k = refl
signed_times true zero k = let e : zero * k ≡ zero = omega arith in rw e refl
signed_times true (suc m) k = negsuc-*ℤ-pos m k

pub signed_size : (b : Bool) (m : ℕ) → unsigned_abs (signed b m) ≡ m
signed_size false m = refl
signed_size true zero = refl
signed_size true (suc m) = refl

-- powers

above_below : (z : ℤ) → z +ℤ pos (below z) ≡ pos (above z)
above_below (pos n) = omega (arith, ints)
above_below (negsuc n) = omega (arith, ints)

exponents : (p q : ℤ) (d : ℕ) → p ≡ q +ℤ pos d → above p + below q ≡ d + (above q + below p)
exponents p q d e = omega (arith, ints, above_below p, above_below q, e)

pub powers : (p q : ℤ) (d : ℕ) → p ≡ q +ℤ pos d → 10 ^ above p * 10 ^ below q ≡ 10 ^ d * (10 ^ above q * 10 ^ below p)
powers p q d e =
    rw (← pow-add 10 (above p) (below q), ← pow-add 10 (above q) (below p), ← pow-add 10 d (above q + below p)) (ap (λ (n : ℕ). 10 ^ n) (exponents p q d e))

regroup : (m a b : ℕ) → m * a * b ≡ m * (a * b)
regroup m a b = omega arith

-- a number with zeros after it is the number without them, at a higher power
pub same_value : (b : Bool) (m z : ℕ) (p q : ℤ) → p ≡ q +ℤ pos z → SameValue (record { number = signed b m; power = p }) (record { number = signed b (m * 10 ^ z); power = q })
same_value b m z p q e =
    let left : signed b m *ℤ pos (10 ^ above p) *ℤ pos (10 ^ below q) ≡ signed b (m * 10 ^ above p * 10 ^ below q) = ap (λ (x : ℤ). x *ℤ pos (10 ^ below q)) (signed_times b m (10 ^ above p)) ∙ signed_times b (m * 10 ^ above p) (10 ^ below q) in
    let right : signed b (m * 10 ^ z) *ℤ pos (10 ^ above q) *ℤ pos (10 ^ below p) ≡ signed b (m * 10 ^ z * 10 ^ above q * 10 ^ below p) = ap (λ (x : ℤ). x *ℤ pos (10 ^ below p)) (signed_times b (m * 10 ^ z) (10 ^ above q)) ∙ signed_times b (m * 10 ^ z * 10 ^ above q) (10 ^ below p) in
    let mid : m * 10 ^ above p * 10 ^ below q ≡ m * 10 ^ z * 10 ^ above q * 10 ^ below p = regroup m (10 ^ above p) (10 ^ below q) ∙ ap (λ (x : ℕ). m * x) (powers p q z e) ∙ four m (10 ^ z) (10 ^ above q) (10 ^ below p) in
    left ∙ ap (signed b) mid ∙ sym right
  where
    four : (m a b c : ℕ) → m * (a * (b * c)) ≡ m * a * b * c
    four m a b c = omega arith

-- nothing is nothing at each power
pub same_zero : (b : Bool) (p q : ℤ) → SameValue (record { number = pos 0; power = p }) (record { number = signed b 0; power = q })
same_zero b p q =
    let left : pos 0 *ℤ pos (10 ^ above p) *ℤ pos (10 ^ below q) ≡ pos 0 = ap pos (nothing (10 ^ above p) (10 ^ below q)) in
    let right : signed b 0 *ℤ pos (10 ^ above q) *ℤ pos (10 ^ below p) ≡ pos 0 = ap (λ (x : ℤ). x *ℤ pos (10 ^ above q) *ℤ pos (10 ^ below p)) (signed_zero b) ∙ ap pos (nothing (10 ^ above q) (10 ^ below p)) in
    left ∙ sym right
  where
    nothing : (a c : ℕ) → 0 * a * c ≡ 0
    nothing a c = omega arith

    signed_zero : (b : Bool) → signed b 0 ≡ pos 0
    signed_zero false = refl
    signed_zero true = refl

-- order

scale_order : (r : Ordering) (m n k : ℕ) → 0 < k → MatchOrdering r (m < n) (m ≡ n) (n < m) → MatchOrdering r (m * k < n * k) (m * k ≡ n * k) (n * k < m * k)
scale_order Less m n k h lt = mul-lt-mul_of_pos_right {m = m} {n = n} {k = k} lt h
scale_order Equal m n k h e = ap (λ (x : ℕ). x * k) e
scale_order Greater m n k h lt = mul-lt-mul_of_pos_right {m = n} {n = m} {k = k} lt h

pub scaled_order : (m n k : ℕ) → 0 < k → nat_cmp (m * k) (n * k) ≡ nat_cmp m n
scaled_order m n k h = sym (nat_cmp_is (m * k) (n * k) (nat_cmp m n) (scale_order (nat_cmp m n) m n k h (ranked m n (nat_cmp m n) refl)))

turn : (r : Ordering) (m n : ℕ) → MatchOrdering r (m < n) (m ≡ n) (n < m) → MatchOrdering (ordering_reverse r) (n < m) (n ≡ m) (m < n)
turn Less m n h = h
turn Equal m n h = sym h
turn Greater m n h = h

pub turned_order : (m n : ℕ) → ordering_reverse (nat_cmp m n) ≡ nat_cmp n m
turned_order m n = nat_cmp_is n m (ordering_reverse (nat_cmp m n)) (turn (nat_cmp m n) m n (ranked m n (nat_cmp m n) refl))

-- the order of two values

size_of : (b : Bool) (m : ℕ) (p q : ℤ) → unsigned_abs (signed b m *ℤ pos (10 ^ above p)) * 10 ^ below q ≡ m * 10 ^ above p * 10 ^ below q
size_of b m p q = ap (λ (x : ℕ). x * 10 ^ below q) (ap unsigned_abs (signed_times b m (10 ^ above p)) ∙ signed_size b (m * 10 ^ above p))

sizes : (a b : Bool) (m n : ℕ) (p q : ℤ) → size_order (record { number = signed a m; power = p }) (record { number = signed b n; power = q }) ≡ nat_cmp (m * 10 ^ above p * 10 ^ below q) (n * 10 ^ above q * 10 ^ below p)
sizes a b m n p q = ap (λ (x : ℕ). nat_cmp x (unsigned_abs (signed b n *ℤ pos (10 ^ above q)) * 10 ^ below p)) (size_of a m p q) ∙ ap (λ (x : ℕ). nat_cmp (m * 10 ^ above p * 10 ^ below q) x) (size_of b n q p)

some_power : (n : ℕ) → 0 < 10 ^ n
some_power n = one-le-pow n 10 (omega arith)

some_powers : (m n : ℕ) → 0 < 10 ^ m * 10 ^ n
some_powers m n = rw (← pow-add 10 m n) (some_power (m + n))

-- the higher one, brought to the power of the other
higher : (m n d : ℕ) (p q : ℤ) → p ≡ q +ℤ pos d → nat_cmp (m * 10 ^ d) n ≡ nat_cmp (m * 10 ^ above p * 10 ^ below q) (n * 10 ^ above q * 10 ^ below p)
higher m n d p q e =
    let k = 10 ^ above q * 10 ^ below p in
    let left : m * 10 ^ above p * 10 ^ below q ≡ m * 10 ^ d * k = regroup m (10 ^ above p) (10 ^ below q) ∙ ap (λ (x : ℕ). m * x) (powers p q d e) ∙ sym (regroup m (10 ^ d) k) in
    let right : n * 10 ^ above q * 10 ^ below p ≡ n * k = regroup n (10 ^ above q) (10 ^ below p) in
    sym (ap (λ (x : ℕ). nat_cmp x (n * 10 ^ above q * 10 ^ below p)) left ∙ ap (λ (x : ℕ). nat_cmp (m * 10 ^ d * k) x) right ∙ scaled_order (m * 10 ^ d) n k (some_powers (above q) (below p)))

pub order_higher : (a b : Bool) (m n d : ℕ) (p q : ℤ) → p ≡ q +ℤ pos d
    → nat_cmp (m * 10 ^ d) n ≡ size_order (record { number = signed a m; power = p }) (record { number = signed b n; power = q })
order_higher a b m n d p q e = higher m n d p q e ∙ sym (sizes a b m n p q)

pub order_lower : (a b : Bool) (m n d : ℕ) (p q : ℤ) → q ≡ p +ℤ pos d
    → ordering_reverse (nat_cmp (n * 10 ^ d) m) ≡ size_order (record { number = signed a m; power = p }) (record { number = signed b n; power = q })
order_lower a b m n d p q e = ap ordering_reverse (higher n m d q p e) ∙ turned_order (n * 10 ^ above q * 10 ^ below p) (m * 10 ^ above p * 10 ^ below q) ∙ sym (sizes a b m n p q)

-- one of them is zero
zero_left : (n x y : ℕ) → 0 < y → nat_cmp 0 n ≡ nat_cmp (0 * x) (n * y)
zero_left n x y h = let e : 0 * x ≡ 0 * y = omega arith in rw e (sym (scaled_order 0 n y h))

zero_right : (m x y : ℕ) → 0 < x → nat_cmp m 0 ≡ nat_cmp (m * x) (0 * y)
zero_right m x y h = let e : 0 * y ≡ 0 * x = omega arith in rw e (sym (scaled_order m 0 x h))

zero_both : (m n x y : ℕ) → 0 < x → 0 < y → (m ≡ 0) ⊎ (n ≡ 0) → nat_cmp m n ≡ nat_cmp (m * x) (n * y)
zero_both m n x y h k (inl e) = rw e (zero_left n x y k)
zero_both m n x y h k (inr e) = rw e (zero_right m x y h)

pub order_zero : (a b : Bool) (m n : ℕ) (p q : ℤ) → (m ≡ 0) ⊎ (n ≡ 0)
    → nat_cmp m n ≡ size_order (record { number = signed a m; power = p }) (record { number = signed b n; power = q })
order_zero a b m n p q e =
    let left = regroup m (10 ^ above p) (10 ^ below q) in
    let right = regroup n (10 ^ above q) (10 ^ below p) in
    zero_both m n (10 ^ above p * 10 ^ below q) (10 ^ above q * 10 ^ below p) (some_powers (above p) (below q)) (some_powers (above q) (below p)) e
    ∙ sym (ap (λ (x : ℕ). nat_cmp x (n * 10 ^ above q * 10 ^ below p)) left ∙ ap (λ (x : ℕ). nat_cmp (m * (10 ^ above p * 10 ^ below q)) x) right)
    ∙ sym (sizes a b m n p q)
