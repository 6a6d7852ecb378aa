-- Three heights on both sides of a plane: one of them is alone on its side
use Rattle.std.proofs.Common.{◌≡◌, ◌↔◌, ◌⊎◌, inl, inr, arith, ℤ, pos, ◌+ℤ◌, ◌-ℤ◌, ◌*ℤ◌, ◌≤ℤ◌, ◌<ℤ◌, refl, ◌∙◌, [], ◌∷◌}
use Rattle.std.proofs.lemmas.Int.{ints, by_lt_z}
use Rattle.exact_arith.proofs.Ring.{ring, at, lit, ◌⊕◌, ◌⊖◌, ◌⊗◌}
use Rattle.exact_arith.proofs.Order.{mul_nonneg}
use Rattle.tri_pierce.specs.inner.LoneCorners.{SomeAbove, SomeBelow, Split, Lone}
use Rattle.tri_pierce.proofs.PlaneSides.{zero_factor}

-- ---- heights with weights above 0 whose sum is 0
pub no_first : (p q : ℤ) → pos 0 ≤ℤ p → pos 0 ≤ℤ q → p +ℤ q ≡ pos 0 → p ≡ pos 0
no_first p q h k e = omega (arith, ints, h, k, e)

pub no_second : (p q : ℤ) → pos 0 ≤ℤ p → pos 0 ≤ℤ q → p +ℤ q ≡ pos 0 → q ≡ pos 0
no_second p q h k e = omega (arith, ints, h, k, e)

in_sum : (p q : ℤ) → pos 0 ≤ℤ p → pos 0 ≤ℤ q → pos 0 ≤ℤ (p +ℤ q)
in_sum p q h k = omega (arith, ints, h, k)

pub weak : (x : ℤ) → pos 0 <ℤ x → pos 0 ≤ℤ x
weak x h = omega (arith, ints, h)

-- where none is below 0 all are 0
pub level : (x y z h k l : ℤ) → pos 0 <ℤ x → pos 0 <ℤ y → pos 0 <ℤ z → pos 0 ≤ℤ h → pos 0 ≤ℤ k → pos 0 ≤ℤ l → x *ℤ h +ℤ y *ℤ k +ℤ z *ℤ l ≡ pos 0 → (h ≡ pos 0) × ((k ≡ pos 0) × (l ≡ pos 0))
level x y z h k l hx hy hz a b c e =
    let p = mul_nonneg x h (weak x hx) a in let q = mul_nonneg y k (weak y hy) b in let r = mul_nonneg z l (weak z hz) c in
    let f = no_first (x *ℤ h +ℤ y *ℤ k) (z *ℤ l) (in_sum (x *ℤ h) (y *ℤ k) p q) r e in (
      zero_factor x h hx (no_first (x *ℤ h) (y *ℤ k) p q f),
      (zero_factor y k hy (no_second (x *ℤ h) (y *ℤ k) p q f), zero_factor z l hz (no_second (x *ℤ h +ℤ y *ℤ k) (z *ℤ l) (in_sum (x *ℤ h) (y *ℤ k) p q) r e)),
    )

back_sum : (x y z h k l : ℤ) → x *ℤ (pos 0 -ℤ h) +ℤ y *ℤ (pos 0 -ℤ k) +ℤ z *ℤ (pos 0 -ℤ l) ≡ pos 0 -ℤ (x *ℤ h +ℤ y *ℤ k +ℤ z *ℤ l)
back_sum x y z h k l =
    let o = lit (pos 0) in
    ring (x ∷ y ∷ z ∷ h ∷ k ∷ l ∷ []) (at 0 ⊗ (o ⊖ at 3) ⊕ at 1 ⊗ (o ⊖ at 4) ⊕ at 2 ⊗ (o ⊖ at 5)) (o ⊖ (at 0 ⊗ at 3 ⊕ at 1 ⊗ at 4 ⊕ at 2 ⊗ at 5)) refl

pub nothing_less : (x : ℤ) → x ≡ pos 0 → pos 0 -ℤ x ≡ pos 0
nothing_less x e = omega (arith, ints, e)

from_back : (x : ℤ) → pos 0 -ℤ x ≡ pos 0 → x ≡ pos 0
from_back x e = omega (arith, ints, e)

opposite_up : (x : ℤ) → x ≤ℤ pos 0 → pos 0 ≤ℤ (pos 0 -ℤ x)
opposite_up x h = omega (arith, ints, h)

module _ (x y z h k l : ℤ) (hx : pos 0 <ℤ x) (hy : pos 0 <ℤ y) (hz : pos 0 <ℤ z) (some : (h ≡ pos 0) × ((k ≡ pos 0) × (l ≡ pos 0)) → ⊥) (e : x *ℤ h +ℤ y *ℤ k +ℤ z *ℤ l ≡ pos 0) where
  some_below : SomeBelow h k l
  some_below = by_lt_z h (pos 0) (λ a. inl a) (λ a. by_lt_z k (pos 0) (λ b. inr (inl b)) (λ b. by_lt_z l (pos 0) (λ c. inr (inr c)) (λ c. absurd (some (level x y z h k l hx hy hz a b c e)))))

  some_above : SomeAbove h k l
  some_above =
      by_lt_z (pos 0) h (λ a. inl a) (λ a. by_lt_z (pos 0) k (λ b. inr (inl b)) (λ b. by_lt_z (pos 0) l (λ c. inr (inr c)) (λ c.
      let r = level x y z (pos 0 -ℤ h) (pos 0 -ℤ k) (pos 0 -ℤ l) hx hy hz (opposite_up h a) (opposite_up k b) (opposite_up l c) (back_sum x y z h k l ∙ nothing_less _ e) in
      absurd (some (from_back h r.0, (from_back k r.1.0, from_back l r.1.1))))))

  pub split_by : Split h k l
  split_by = (some_above, some_below)

-- ---- of heights on both sides one is alone
high : (h k l : ℤ) → pos 0 <ℤ h → k <ℤ pos 0 → l ≤ℤ pos 0 → Lone h k l
high h k l a b c = inl (record { above = a; second = omega (arith, ints, b); third = c; below = omega (arith, ints, b, c) })

high_last : (h k l : ℤ) → pos 0 <ℤ h → k ≤ℤ pos 0 → l <ℤ pos 0 → Lone h k l
high_last h k l a b c = inl (record { above = a; second = b; third = omega (arith, ints, c); below = omega (arith, ints, b, c) })

deep : (h k l : ℤ) → h <ℤ pos 0 → pos 0 <ℤ k → pos 0 ≤ℤ l → Lone h k l
deep h k l a b c = inr (record { above = omega (arith, ints, a); second = omega (arith, ints, b); third = omega (arith, ints, c); below = omega (arith, ints, b, c) })

deep_last : (h k l : ℤ) → h <ℤ pos 0 → pos 0 ≤ℤ k → pos 0 <ℤ l → Lone h k l
deep_last h k l a b c = inr (record { above = omega (arith, ints, a); second = omega (arith, ints, b); third = omega (arith, ints, c); below = omega (arith, ints, b, c) })

never : (x : ℤ) → pos 0 <ℤ x → x <ℤ pos 0 → ⊥
never x h k = omega (arith, ints, h, k)

abbrev pub SomeLone : (h k l : ℤ) → Type 0
SomeLone h k l = Lone h k l ⊎ (Lone k l h ⊎ Lone l h k)

pub lone_of : (h k l : ℤ) → Split h k l → SomeLone h k l
lone_of h k l (inl a, inl b) = absurd (never h a b)
lone_of h k l (inl a, inr (inl b)) = by_lt_z (pos 0) l (λ c. inr (inl (deep_last k l h b (weak l c) a))) (λ c. inl (high h k l a b c))
lone_of h k l (inl a, inr (inr b)) = by_lt_z (pos 0) k (λ c. inr (inr (deep l h k b a (weak k c)))) (λ c. inl (high_last h k l a c b))
lone_of h k l (inr (inl a), inl b) = by_lt_z (pos 0) l (λ c. inl (deep h k l b a (weak l c))) (λ c. inr (inl (high_last k l h a c b)))
lone_of h k l (inr (inl a), inr (inl b)) = absurd (never k a b)
lone_of h k l (inr (inl a), inr (inr b)) = by_lt_z (pos 0) h (λ c. inr (inr (deep_last l h k b (weak h c) a))) (λ c. inr (inl (high k l h a b c)))
lone_of h k l (inr (inr a), inl b) = by_lt_z (pos 0) k (λ c. inl (deep_last h k l b (weak k c) a)) (λ c. inr (inr (high l h k a b c)))
lone_of h k l (inr (inr a), inr (inl b)) = by_lt_z (pos 0) h (λ c. inr (inl (deep k l h b a (weak h c)))) (λ c. inr (inr (high_last l h k a c b)))
lone_of h k l (inr (inr a), inr (inr b)) = absurd (never l a b)

pub last_lone : (h k l : ℤ) → Split h k l → (Lone h k l → ⊥) → (Lone k l h → ⊥) → Lone l h k
last_lone h k l p f g = elim (lone_of h k l p) [ inl a ↦ absurd (f a) | inr b ↦ elim b [ inl a ↦ absurd (g a) | inr a ↦ a ] ]

-- the heights in turn
pub split_turned : (h k l : ℤ) → Split h k l → Split k l h
split_turned h k l (a, b) = (
  elim a [ inl x ↦ inr (inr x) | inr y ↦ elim y [ inl x ↦ inl x | inr x ↦ inr (inl x) ] ],
  elim b [ inl x ↦ inr (inr x) | inr y ↦ elim y [ inl x ↦ inl x | inr x ↦ inr (inl x) ] ],
)

-- ---- whether the first of heights on both sides is alone, by the others
rises : (h k l : ℤ) → pos 0 <ℤ h → k ≤ℤ pos 0 → l ≤ℤ pos 0 → SomeBelow h k l → Lone h k l
rises h k l a b c (inl d) = absurd (never h a d)
rises h k l a b c (inr (inl d)) = high h k l a d c
rises h k l a b c (inr (inr d)) = high_last h k l a b d

falls : (h k l : ℤ) → h <ℤ pos 0 → pos 0 ≤ℤ k → pos 0 ≤ℤ l → SomeAbove h k l → Lone h k l
falls h k l a b c (inl d) = absurd (never h d a)
falls h k l a b c (inr (inl d)) = deep h k l a d c
falls h k l a b c (inr (inr d)) = deep_last h k l a b d

from_opposite : (x : ℤ) → pos 0 <ℤ (pos 0 -ℤ x) → x <ℤ pos 0
from_opposite x h = omega (arith, ints, h)

opposite_low : (x : ℤ) → (pos 0 -ℤ x) ≤ℤ pos 0 → pos 0 ≤ℤ x
opposite_low x h = omega (arith, ints, h)

lone_low : (h k l : ℤ) → pos 0 <ℤ h → Lone h k l → (k ≤ℤ pos 0) × (l ≤ℤ pos 0)
lone_low h k l a (inl c) = (c.second, c.third)
lone_low h k l a (inr c) = absurd (never h a (from_opposite h c.above))

lone_high : (h k l : ℤ) → h <ℤ pos 0 → Lone h k l → (pos 0 ≤ℤ k) × (pos 0 ≤ℤ l)
lone_high h k l a (inl c) = absurd (never h c.above a)
lone_high h k l a (inr c) = (opposite_low k c.second, opposite_low l c.third)

pub above_told : {P : Type 0} (h k l : ℤ) → Split h k l → pos 0 <ℤ h → P ↔ ((k ≤ℤ pos 0) × (l ≤ℤ pos 0)) → P ↔ Lone h k l
above_told {P} h k l s a q = (λ x. let b = q.0 x in rises h k l a b.0 b.1 s.1, λ x. q.1 (lone_low h k l a x))

pub below_told : {P : Type 0} (h k l : ℤ) → Split h k l → h <ℤ pos 0 → P ↔ ((pos 0 ≤ℤ k) × (pos 0 ≤ℤ l)) → P ↔ Lone h k l
below_told {P} h k l s a q = (λ x. let b = q.0 x in falls h k l a b.0 b.1 s.0, λ x. q.1 (lone_high h k l a x))

pub level_never : (h k l : ℤ) → (pos 0 <ℤ h → ⊥) → (h <ℤ pos 0 → ⊥) → Lone h k l → ⊥
level_never h k l f g (inl c) = f c.above
level_never h k l f g (inr c) = g (from_opposite h c.above)
