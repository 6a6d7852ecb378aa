-- Values of decimals that are whole numbers.
use Rattle.std.proofs.Common.{◌≡◌, ℕ, zero, suc, ◌*◌, ◌^◌, ◌<◌, ◌≤◌, ◌%◌, ℤ, pos, negsuc, ◌-ℤ◌, ◌*ℤ◌, ◌<ℤ◌, ◌≤ℤ◌, [], ◌∷◌, Bool, true, false, refl, sym, ap, ◌∙◌, arith}
use Rattle.std.proofs.lemmas.Int.{ints}
use Rattle.std.proofs.Math.Nat.{one-le-pow, mul-le-mul_left, mul-le-mul_right, pow-le-pow_right, mul-mod_left, pow-suc}
use Rattle.bim_text.proofs.Powers.{signed_times}
use Rattle.exact_arith.proofs.Order.{le_by_factor}
use Rattle.exact_arith.proofs.Ring.{ring, at, ◌⊖◌, ◌⊗◌}
use Rattle.bim_text.specs.ScaledNumbers.{Scaled, signed, above, below, numerator, denominator, SameValue}

antisym : (a b : ℤ) → a ≤ℤ b → b ≤ℤ a → a ≡ b
antisym a b h k = omega (arith, ints)

nothing : (c a b p : ℤ) → c *ℤ (b -ℤ a) ≡ p -ℤ p → c *ℤ (b -ℤ a) ≡ pos 0
nothing c a b p e = omega (arith, ints, e)

-- c times the one is c times the other
cancelled : (c a b p : ℤ) → pos 0 <ℤ c → c *ℤ (b -ℤ a) ≡ p -ℤ p → c *ℤ (a -ℤ b) ≡ p -ℤ p → a ≡ b
cancelled c a b p some e f =
    antisym a b (le_by_factor c a b (pos 0) some (nothing c a b p e) (omega (arith, ints))) (le_by_factor c b a (pos 0) some (nothing c b a p f) (omega (arith, ints)))

crossed : (n m k x y z : ℤ) → n *ℤ y ≡ m *ℤ x → m *ℤ z ≡ k *ℤ y → y *ℤ (n *ℤ z -ℤ k *ℤ x) ≡ m *ℤ x *ℤ z -ℤ m *ℤ x *ℤ z
crossed n m k x y z h l =
    let split : y *ℤ (n *ℤ z -ℤ k *ℤ x) ≡ n *ℤ y *ℤ z -ℤ k *ℤ y *ℤ x = ring (n ∷ m ∷ k ∷ x ∷ y ∷ z ∷ []) (at 4 ⊗ (at 0 ⊗ at 5 ⊖ at 2 ⊗ at 3)) (at 0 ⊗ at 4 ⊗ at 5 ⊖ at 2 ⊗ at 4 ⊗ at 3) refl in
    let turn : m *ℤ z *ℤ x ≡ m *ℤ x *ℤ z = ring (m ∷ z ∷ x ∷ []) (at 0 ⊗ at 1 ⊗ at 2) (at 0 ⊗ at 2 ⊗ at 1) refl in
    split ∙ ap (λ (p : ℤ). p *ℤ z -ℤ k *ℤ y *ℤ x) h ∙ ap (λ (p : ℤ). m *ℤ x *ℤ z -ℤ p *ℤ x) (sym l) ∙ ap (λ (p : ℤ). m *ℤ x *ℤ z -ℤ p) turn

crossed_back : (n m k x y z : ℤ) → n *ℤ y ≡ m *ℤ x → m *ℤ z ≡ k *ℤ y → y *ℤ (k *ℤ x -ℤ n *ℤ z) ≡ m *ℤ x *ℤ z -ℤ m *ℤ x *ℤ z
crossed_back n m k x y z h l =
    let split : y *ℤ (k *ℤ x -ℤ n *ℤ z) ≡ k *ℤ y *ℤ x -ℤ n *ℤ y *ℤ z = ring (n ∷ m ∷ k ∷ x ∷ y ∷ z ∷ []) (at 4 ⊗ (at 2 ⊗ at 3 ⊖ at 0 ⊗ at 5)) (at 2 ⊗ at 4 ⊗ at 3 ⊖ at 0 ⊗ at 4 ⊗ at 5) refl in
    let turn : m *ℤ z *ℤ x ≡ m *ℤ x *ℤ z = ring (m ∷ z ∷ x ∷ []) (at 0 ⊗ at 1 ⊗ at 2) (at 0 ⊗ at 2 ⊗ at 1) refl in
    split ∙ ap (λ (p : ℤ). p *ℤ x -ℤ n *ℤ y *ℤ z) (sym l) ∙ ap (λ (p : ℤ). p -ℤ n *ℤ y *ℤ z) turn ∙ ap (λ (p : ℤ). m *ℤ x *ℤ z -ℤ p *ℤ z) h

same_crossed : (n m k x y z : ℤ) → pos 0 <ℤ y → n *ℤ y ≡ m *ℤ x → m *ℤ z ≡ k *ℤ y → n *ℤ z ≡ k *ℤ x
same_crossed n m k x y z some h l = cancelled y (n *ℤ z) (k *ℤ x) (m *ℤ x *ℤ z) some (crossed_back n m k x y z h l) (crossed n m k x y z h l)

power_some : (n : ℕ) → pos 0 <ℤ pos (10 ^ n)
power_some n = let p = one-le-pow n 10 (omega arith) in omega (arith, ints)

-- what is one value with a third are one value
pub same_trans : (s t u : Scaled) → SameValue s t → SameValue t u → SameValue s u
same_trans s t u h k = same_crossed (numerator s) (numerator t) (numerator u) (pos (denominator s)) (pos (denominator t)) (pos (denominator u)) (power_some (below t.power)) h k

-- the equation that makes a decimal a whole number that isn't negative
pub whole_equation : (b : Bool) (m n : ℕ) (e : ℤ) → SameValue (record { number = signed b m; power = e }) (record { number = pos n; power = pos 0 })
    → signed b (m * 10 ^ above e * 1) ≡ pos (n * 1 * 10 ^ below e)
whole_equation b m n e h =
    sym (ap (λ (x : ℤ). x *ℤ pos 1) (signed_times b m (10 ^ above e)) ∙ signed_times b (m * 10 ^ above e) 1) ∙ h

signed_true : (x y : ℕ) → signed true x ≡ pos y → x ≡ 0
signed_true zero y e = refl
signed_true (suc x) y e = absurd (omega (arith, ints, e))

signed_false : (x y : ℕ) → signed false x ≡ pos y → x ≡ y
signed_false x y e = omega (arith, ints, e)

times_at_least : (m a : ℕ) → 1 ≤ a → m ≤ m * a * 1
times_at_least m a h = let k = mul-le-mul_left m h in omega arith

-- what is below zero is no such number
pub none_negative : (m n : ℕ) (e : ℤ) → 0 < m → SameValue (record { number = signed true m; power = e }) (record { number = pos n; power = pos 0 }) → ⊥
none_negative m n e some h =
    let z = signed_true _ _ (whole_equation true m n e h) in
    let k = times_at_least m (10 ^ above e) (one-le-pow (above e) 10 (omega arith)) in
    omega arith

regroup : (n p : ℕ) → n * 1 * (p * 10) ≡ n * p * 10
regroup n p = omega arith

-- the digits of a fraction end in no zero, so it is no whole number
pub none_fraction : (m n k : ℕ) → SameValue (record { number = signed false m; power = negsuc k }) (record { number = pos n; power = pos 0 }) → m % 10 ≡ 0
none_fraction m n k h =
    let e : m * 1 * 1 ≡ n * 1 * 10 ^ suc k = signed_false _ _ (whole_equation false m n (negsuc k) h) in
    let f : m ≡ (n * 10 ^ k) * 10 = times_one m ∙ e ∙ last n k in
    rw f (mul-mod_left (n * 10 ^ k) 10)
  where
    times_one : (m : ℕ) → m ≡ m * 1 * 1
    times_one m = omega arith

    last : (n k : ℕ) → n * 1 * 10 ^ suc k ≡ (n * 10 ^ k) * 10
    last n k = let p = pow-suc 10 k in rw p (regroup n (10 ^ k))

pub whole_product : (m n k : ℕ) → SameValue (record { number = signed false m; power = pos k }) (record { number = pos n; power = pos 0 }) → n ≡ m * 10 ^ k
whole_product m n k h = let e : m * 10 ^ k * 1 ≡ n * 1 * 1 = signed_false _ _ (whole_equation false m n (pos k) h) in flat (m * 10 ^ k) n e
  where
    flat : (a n : ℕ) → a * 1 ≡ n * 1 * 1 → n ≡ a
    flat a n e = omega (arith, e)

pub many_digits : (m n k : ℕ) → 10 ^ 19 ≤ m → SameValue (record { number = signed false m; power = pos k }) (record { number = pos n; power = pos 0 }) → 10 ^ 19 ≤ n
many_digits m n k many h =
    let e = whole_product m n k h in
    let l = times_at_least m (10 ^ k) (one-le-pow k 10 (omega arith)) in
    bound m n (m * 10 ^ k) many e l
  where
    bound : (m n p : ℕ) → 10 ^ 19 ≤ m → n ≡ p → m ≤ p * 1 → 10 ^ 19 ≤ n
    bound m n p many e l = omega (arith, e)

pub high_power : (m n k : ℕ) → 0 < m → 18 < k → SameValue (record { number = signed false m; power = pos k }) (record { number = pos n; power = pos 0 }) → 10 ^ 19 ≤ n
high_power m n k some high h =
    let e = whole_product m n k h in
    let p : 10 ^ 19 ≤ 10 ^ k = pow-le-pow_right {n = 10} (omega arith) {i = 19} {j = k} (omega arith) in
    let l : 1 * 10 ^ k ≤ m * 10 ^ k = mul-le-mul_right (10 ^ k) some in
    bound n (m * 10 ^ k) (10 ^ k) e p l
  where
    bound : (n p q : ℕ) → n ≡ p → 10 ^ 19 ≤ q → 1 * q ≤ p → 10 ^ 19 ≤ n
    bound n p q e h l = omega (arith, e)
