-- Weights that change at a steady pace, up to the first that becomes 0
use Rattle.std.proofs.Common.{◌≡◌, ◌⊎◌, inl, inr, arith, ℤ, pos, ◌+ℤ◌, ◌-ℤ◌, ◌*ℤ◌, ◌≤ℤ◌, ◌<ℤ◌, refl, List, [], ◌∷◌}
use Rattle.std.proofs.lemmas.Int.{ints, by_lt_z}
use Rattle.exact_arith.proofs.Ring.{ring, at, lit, ◌⊕◌, ◌⊖◌, ◌⊗◌}
use Rattle.exact_arith.proofs.Order.{add_nonneg, mul_nonneg, rest, certify, nonneg}

-- a weight, and by how much it changes
pub record Pace : Type 0 where
  pub now : ℤ
  pub change : ℤ

-- the weight after k steps, times m
abbrev pub after : ℤ → ℤ → Pace → ℤ
after m k p = m *ℤ p.now +ℤ k *ℤ p.change

abbrev pub Hold : ℤ → ℤ → List Pace → Type 0
Hold m k [] = Unit {0}
Hold m k (p ∷ ps) = (pos 0 ≤ℤ after m k p) × Hold m k ps

abbrev pub OneStops : ℤ → ℤ → List Pace → Type 0
OneStops m k [] = ⊥
OneStops m k (p ∷ ps) = (after m k p ≡ pos 0) ⊎ OneStops m k ps

abbrev pub NoneNegative : List Pace → Type 0
NoneNegative [] = Unit {0}
NoneNegative (p ∷ ps) = (pos 0 ≤ℤ p.now) × NoneNegative ps

abbrev pub NoneFalls : List Pace → Type 0
NoneFalls [] = Unit {0}
NoneFalls (p ∷ ps) = (pos 0 ≤ℤ p.change) × NoneFalls ps

pub record Stop (ps : List Pace) : Type 0 where
  pub m : ℤ
  pub k : ℤ
  pub m_positive : pos 0 <ℤ m
  pub k_nonneg : pos 0 ≤ℤ k
  pub holds : Hold m k ps
  pub stops : OneStops m k ps

-- those that do not fall stay
risen : (m k : ℤ) (ps : List Pace) → pos 0 ≤ℤ m → pos 0 ≤ℤ k → NoneNegative ps → NoneFalls ps → Hold m k ps
risen m k [] hm hk w f = tt
risen m k (p ∷ ps) hm hk w f =
    (add_nonneg (m *ℤ p.now) (k *ℤ p.change) (mul_nonneg m p.now hm w.0) (mul_nonneg k p.change hk f.0), risen m k ps hm hk w.1 f.1)

-- a stop that comes sooner: m' / k' with m' = -change, k' = now
sooner_one : (m k w o v c : ℤ) → pos 0 <ℤ m → pos 0 ≤ℤ v → pos 0 ≤ℤ w → (m *ℤ w +ℤ k *ℤ o) <ℤ pos 0 → o <ℤ pos 0 → pos 0 ≤ℤ (m *ℤ v +ℤ k *ℤ c) → pos 0 ≤ℤ ((pos 0 -ℤ o) *ℤ v +ℤ w *ℤ c)
sooner_one m k w o v c hm hv hw hb ho hc =
    let f : pos 0 ≤ℤ (pos 0 -ℤ (m *ℤ w +ℤ k *ℤ o)) = rest (m *ℤ w +ℤ k *ℤ o) (pos 0) (omega (arith, ints)) in
    let g : pos 0 ≤ℤ (pos 0 -ℤ o) = omega (arith, ints) in
    by_lt_z c (pos 0)
    (λ neg.
    let h : pos 0 ≤ℤ (pos 0 -ℤ c) = omega (arith, ints) in
    let tm = at 0 in let tk = at 1 in let tw = at 2 in let to = at 3 in let tv = at 4 in let tc = at 5 in
    certify (m ∷ k ∷ w ∷ o ∷ v ∷ c ∷ []) tm (lit (pos 0)) ((lit (pos 0) ⊖ to) ⊗ tv ⊕ tw ⊗ tc)
    ((lit (pos 0) ⊖ to) ⊗ (tm ⊗ tv ⊕ tk ⊗ tc) ⊕ (lit (pos 0) ⊖ tc) ⊗ (lit (pos 0) ⊖ (tm ⊗ tw ⊕ tk ⊗ to)))
    hm refl (search nonneg))
    (λ up. search nonneg)

sooner : (m k w o : ℤ) (ps : List Pace) → pos 0 <ℤ m → pos 0 ≤ℤ w → (m *ℤ w +ℤ k *ℤ o) <ℤ pos 0 → o <ℤ pos 0 → NoneNegative ps → Hold m k ps → Hold (pos 0 -ℤ o) w ps
sooner m k w o [] hm hw hb ho n h = tt
sooner m k w o (p ∷ ps) hm hw hb ho n h = (sooner_one m k w o p.now p.change hm n.0 hw hb ho h.0, sooner m k w o ps hm hw hb ho n.1 h.1)

ends : (w o : ℤ) → (pos 0 -ℤ o) *ℤ w +ℤ w *ℤ o ≡ pos 0
ends w o = ring (w ∷ o ∷ []) ((lit (pos 0) ⊖ at 1) ⊗ at 0 ⊕ at 0 ⊗ at 1) (lit (pos 0)) refl

zero_ends : (w o : ℤ) → pos 0 ≤ℤ ((pos 0 -ℤ o) *ℤ w +ℤ w *ℤ o)
zero_ends w o = rw (ends w o) (omega (arith, ints))

falls_then : (m k w o : ℤ) → pos 0 <ℤ m → pos 0 ≤ℤ k → pos 0 ≤ℤ w → (m *ℤ w +ℤ k *ℤ o) <ℤ pos 0 → o <ℤ pos 0
falls_then m k w o hm hk hw hb =
    by_lt_z o (pos 0) (λ y. y)
    (λ up.
    let q : pos 0 ≤ℤ m = omega (arith, ints) in
    let s : pos 0 ≤ℤ (m *ℤ w +ℤ k *ℤ o) = search nonneg in
    absurd (omega (arith, ints)))

-- the least stop, or none falls
pub least : (ps : List Pace) → NoneNegative ps → Stop ps ⊎ NoneFalls ps
least [] n = inr tt
least (p ∷ ps) n =
    elim (least ps n.1) [
      | inl s ↦
          by_lt_z (after s.m s.k p) (pos 0)
          (λ y.
          let o : p.change <ℤ pos 0 = falls_then s.m s.k p.now p.change s.m_positive s.k_nonneg n.0 y in
          inl (record { m = pos 0 -ℤ p.change; k = p.now; m_positive = omega (arith, ints); k_nonneg = n.0; holds = (zero_ends p.now p.change, sooner s.m s.k p.now p.change ps s.m_positive n.0 y o n.1 s.holds); stops = inl (ends p.now p.change) }))
          (λ y. inl (record { m = s.m; k = s.k; m_positive = s.m_positive; k_nonneg = s.k_nonneg; holds = (y, s.holds); stops = inr s.stops }))
      | inr f ↦
          by_lt_z p.change (pos 0)
          (λ y. inl (record { m = pos 0 -ℤ p.change; k = p.now; m_positive = omega (arith, ints); k_nonneg = n.0; holds = (zero_ends p.now p.change, risen (pos 0 -ℤ p.change) p.now ps (omega (arith, ints)) n.0 n.1 f); stops = inl (ends p.now p.change) }))
          (λ y. inr (y, f))
    ]
