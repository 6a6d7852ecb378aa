-- Faces whose first corners are alone above each other's plane: they have a point inside both exactly where two volumes have the right signs
use Rattle.std.proofs.Common.{◌≡◌, arith, ℤ, pos, ◌+ℤ◌, ◌-ℤ◌, ◌*ℤ◌, ◌≤ℤ◌, ◌<ℤ◌, refl, sym, ap, ◌∙◌, [], ◌∷◌}
use Rattle.std.proofs.lemmas.Int.{ints, by_lt_z}
use Rattle.exact_arith.specs.Space.{Vector, minus, dot_of, cross_of, Face, normal, nowhere}
use Rattle.tri_exact.specs.Foot.{orient_of}
use Rattle.tri_exact.specs.Pierce.{height}
use Rattle.exact_arith.proofs.Ring.{ring, Term, at, lit, ◌⊕◌, ◌⊖◌, ◌⊗◌}
use Rattle.exact_arith.proofs.Triples.{Coords, spot, ◌⊞◌, ◌⊟◌, ◌⊡◌, scalar, crossed}
use Rattle.exact_arith.proofs.Order.{mul_nonneg, mul_positive}
use Rattle.tri_exact.proofs.Pose.{Pose, gap, same_vector}
use Rattle.tri_exact.proofs.TwoEdges.{no_length}
use Rattle.tri_exact.proofs.TwoFaces.{swap}
use Rattle.tri_exact.proofs.Weights.{Six, a1, a2, a3, b1, b2, b3, weight}
use Rattle.tri_pierce.specs.inner.LoneCorners.{Alone, AloneOver}
use Rattle.tri_pierce.proofs.InnerPoints.{Inner, Cross, swapped_gap}

-- ---- terms of heights, volumes and gaps
abbrev tall : Coords → Coords → Coords → Coords → Term
tall p a b c = scalar (p ⊟ a) (crossed (b ⊟ a) (c ⊟ a))

abbrev volume : Coords → Coords → Coords → Coords → Term
volume a b c d = scalar (crossed (b ⊟ a) (c ⊟ a)) (d ⊟ a)

abbrev way : Term → Term → Term → Term → Term → Coords → Coords → Coords → Coords → Coords → Coords → Coords
way n x y u v ta tb tc sa sb sc = ((n ⊖ x ⊖ y) ⊡ ta ⊞ x ⊡ tb ⊞ y ⊡ tc) ⊟ ((n ⊖ u ⊖ v) ⊡ sa ⊞ u ⊡ sb ⊞ v ⊡ sc)

-- ---- what the weights of a common point say of heights and volumes
dot_none : (v : Vector) → dot_of nowhere v ≡ pos 0
dot_none v = ring (v.x ∷ v.y ∷ v.z ∷ []) (lit (pos 0) ⊗ at 0 ⊕ lit (pos 0) ⊗ at 1 ⊕ lit (pos 0) ⊗ at 2) (lit (pos 0)) refl

across_none : (g v : Vector) → g ≡ nowhere → dot_of g v ≡ pos 0
across_none g v e = ap (λ (x : Vector). dot_of x v) e ∙ dot_none v

balance_is : (t s : Face) (w : Pose) → (w.n -ℤ w.b2 -ℤ w.b3) *ℤ height s.a t +ℤ w.b2 *ℤ height s.b t +ℤ w.b3 *ℤ height s.c t ≡ pos 0 -ℤ dot_of (gap t s w) (normal t)
balance_is t s w =
    let n = at 0 in let x = at 1 in let y = at 2 in let u = at 3 in let v = at 4 in
    let ta = spot 5 in let tb = spot 8 in let tc = spot 11 in let sa = spot 14 in let sb = spot 17 in let sc = spot 20 in
    ring (w.n ∷ w.a2 ∷ w.a3 ∷ w.b2 ∷ w.b3 ∷ t.a.x ∷ t.a.y ∷ t.a.z ∷ t.b.x ∷ t.b.y ∷ t.b.z ∷ t.c.x ∷ t.c.y ∷ t.c.z ∷ s.a.x ∷ s.a.y ∷ s.a.z ∷ s.b.x ∷ s.b.y ∷ s.b.z ∷ s.c.x ∷ s.c.y ∷ s.c.z ∷ [])
    ((n ⊖ u ⊖ v) ⊗ tall sa ta tb tc ⊕ u ⊗ tall sb ta tb tc ⊕ v ⊗ tall sc ta tb tc)
    (lit (pos 0) ⊖ scalar (way n x y u v ta tb tc sa sb sc) (crossed (tb ⊟ ta) (tc ⊟ ta))) refl

nothing_less : (x : ℤ) → x ≡ pos 0 → pos 0 -ℤ x ≡ pos 0
nothing_less x e = omega (arith, ints, e)

pub balance : (t s : Face) (w : Pose) → gap t s w ≡ nowhere → (w.n -ℤ w.b2 -ℤ w.b3) *ℤ height s.a t +ℤ w.b2 *ℤ height s.b t +ℤ w.b3 *ℤ height s.c t ≡ pos 0
balance t s w e = balance_is t s w ∙ nothing_less (dot_of (gap t s w) (normal t)) (across_none (gap t s w) (normal t) e)

-- along the edge to the third corner
third_is : (t s : Face) (w : Pose) → w.a2 *ℤ height s.a t -ℤ (w.b2 *ℤ orient_of t.a t.c s.a s.b +ℤ w.b3 *ℤ orient_of t.a t.c s.a s.c) ≡ dot_of (gap t s w) (cross_of (minus t.c t.a) (minus s.a t.a))
third_is t s w =
    let n = at 0 in let x = at 1 in let y = at 2 in let u = at 3 in let v = at 4 in
    let ta = spot 5 in let tb = spot 8 in let tc = spot 11 in let sa = spot 14 in let sb = spot 17 in let sc = spot 20 in
    ring (w.n ∷ w.a2 ∷ w.a3 ∷ w.b2 ∷ w.b3 ∷ t.a.x ∷ t.a.y ∷ t.a.z ∷ t.b.x ∷ t.b.y ∷ t.b.z ∷ t.c.x ∷ t.c.y ∷ t.c.z ∷ s.a.x ∷ s.a.y ∷ s.a.z ∷ s.b.x ∷ s.b.y ∷ s.b.z ∷ s.c.x ∷ s.c.y ∷ s.c.z ∷ [])
    (x ⊗ tall sa ta tb tc ⊖ (u ⊗ volume ta tc sa sb ⊕ v ⊗ volume ta tc sa sc))
    (scalar (way n x y u v ta tb tc sa sb sc) (crossed (tc ⊟ ta) (sa ⊟ ta))) refl

-- along the edge to the second corner
second_is : (t s : Face) (w : Pose) → pos 0 -ℤ w.a3 *ℤ height s.a t -ℤ (w.b2 *ℤ orient_of t.a t.b s.a s.b +ℤ w.b3 *ℤ orient_of t.a t.b s.a s.c) ≡ dot_of (gap t s w) (cross_of (minus t.b t.a) (minus s.a t.a))
second_is t s w =
    let n = at 0 in let x = at 1 in let y = at 2 in let u = at 3 in let v = at 4 in
    let ta = spot 5 in let tb = spot 8 in let tc = spot 11 in let sa = spot 14 in let sb = spot 17 in let sc = spot 20 in
    ring (w.n ∷ w.a2 ∷ w.a3 ∷ w.b2 ∷ w.b3 ∷ t.a.x ∷ t.a.y ∷ t.a.z ∷ t.b.x ∷ t.b.y ∷ t.b.z ∷ t.c.x ∷ t.c.y ∷ t.c.z ∷ s.a.x ∷ s.a.y ∷ s.a.z ∷ s.b.x ∷ s.b.y ∷ s.b.z ∷ s.c.x ∷ s.c.y ∷ s.c.z ∷ [])
    (lit (pos 0) ⊖ y ⊗ tall sa ta tb tc ⊖ (u ⊗ volume ta tb sa sb ⊕ v ⊗ volume ta tb sa sc))
    (scalar (way n x y u v ta tb tc sa sb sc) (crossed (tb ⊟ ta) (sa ⊟ ta))) refl

-- heights and volumes of the two edges of s and an edge of t
swing_second : (t s : Face) → (height s.a t -ℤ height s.b t) *ℤ orient_of t.a t.b s.a s.c -ℤ (height s.a t -ℤ height s.c t) *ℤ orient_of t.a t.b s.a s.b ≡ height s.a t *ℤ (height t.a s -ℤ height t.b s)
swing_second t s =
    let ta = spot 0 in let tb = spot 3 in let tc = spot 6 in let sa = spot 9 in let sb = spot 12 in let sc = spot 15 in
    ring (t.a.x ∷ t.a.y ∷ t.a.z ∷ t.b.x ∷ t.b.y ∷ t.b.z ∷ t.c.x ∷ t.c.y ∷ t.c.z ∷ s.a.x ∷ s.a.y ∷ s.a.z ∷ s.b.x ∷ s.b.y ∷ s.b.z ∷ s.c.x ∷ s.c.y ∷ s.c.z ∷ [])
    ((tall sa ta tb tc ⊖ tall sb ta tb tc) ⊗ volume ta tb sa sc ⊖ (tall sa ta tb tc ⊖ tall sc ta tb tc) ⊗ volume ta tb sa sb)
    (tall sa ta tb tc ⊗ (tall ta sa sb sc ⊖ tall tb sa sb sc)) refl

swing_third : (t s : Face) → (height s.a t -ℤ height s.b t) *ℤ orient_of t.a t.c s.a s.c -ℤ (height s.a t -ℤ height s.c t) *ℤ orient_of t.a t.c s.a s.b ≡ height s.a t *ℤ (height t.a s -ℤ height t.c s)
swing_third t s =
    let ta = spot 0 in let tb = spot 3 in let tc = spot 6 in let sa = spot 9 in let sb = spot 12 in let sc = spot 15 in
    ring (t.a.x ∷ t.a.y ∷ t.a.z ∷ t.b.x ∷ t.b.y ∷ t.b.z ∷ t.c.x ∷ t.c.y ∷ t.c.z ∷ s.a.x ∷ s.a.y ∷ s.a.z ∷ s.b.x ∷ s.b.y ∷ s.b.z ∷ s.c.x ∷ s.c.y ∷ s.c.z ∷ [])
    ((tall sa ta tb tc ⊖ tall sb ta tb tc) ⊗ volume ta tc sa sc ⊖ (tall sa ta tb tc ⊖ tall sc ta tb tc) ⊗ volume ta tc sa sb)
    (tall sa ta tb tc ⊗ (tall ta sa sb sc ⊖ tall tc sa sb sc)) refl

-- ---- from a common point to the signs
back_first : (a b x y : ℤ) → a *ℤ x -ℤ b *ℤ y ≡ pos 0 -ℤ (a *ℤ (pos 0 -ℤ x) +ℤ b *ℤ y)
back_first a b x y = ring (a ∷ b ∷ x ∷ y ∷ []) (at 0 ⊗ at 2 ⊖ at 1 ⊗ at 3) (lit (pos 0) ⊖ (at 0 ⊗ (lit (pos 0) ⊖ at 2) ⊕ at 1 ⊗ at 3)) refl

back_second : (m d e x y : ℤ) → m -ℤ (d *ℤ y +ℤ e *ℤ x) ≡ m +ℤ (d *ℤ (pos 0 -ℤ y) +ℤ e *ℤ (pos 0 -ℤ x))
back_second m d e x y =
    ring (m ∷ d ∷ e ∷ x ∷ y ∷ []) (at 0 ⊖ (at 1 ⊗ at 4 ⊕ at 2 ⊗ at 3)) (at 0 ⊕ (at 1 ⊗ (lit (pos 0) ⊖ at 4) ⊕ at 2 ⊗ (lit (pos 0) ⊖ at 3))) refl

below_none : (p q c : ℤ) → pos 0 ≤ℤ p → pos 0 ≤ℤ q → pos 0 <ℤ c → pos 0 -ℤ (p +ℤ q) ≡ c → ⊥
below_none p q c hp hq hc e = omega (arith, ints, hp, hq, hc, e)

above_none : (m p q : ℤ) → pos 0 <ℤ m → pos 0 ≤ℤ p → pos 0 ≤ℤ q → m +ℤ (p +ℤ q) ≡ pos 0 → ⊥
above_none m p q hm hp hq e = omega (arith, ints, hm, hp, hq, e)

weak : (x : ℤ) → pos 0 <ℤ x → pos 0 ≤ℤ x
weak x h = omega (arith, ints, h)

opposite_up : (x : ℤ) → x ≤ℤ pos 0 → pos 0 ≤ℤ (pos 0 -ℤ x)
opposite_up x h = omega (arith, ints, h)

negative : (y : ℤ) → y <ℤ pos 0 → y ≤ℤ pos 0
negative y h = omega (arith, ints, h)

-- x is above 0, by two equations in x and y
must_rise : (a b c d e m x y : ℤ) → pos 0 <ℤ a → pos 0 <ℤ b → pos 0 <ℤ c → pos 0 <ℤ d → pos 0 <ℤ e → pos 0 <ℤ m → a *ℤ x -ℤ b *ℤ y ≡ c → m -ℤ (d *ℤ y +ℤ e *ℤ x) ≡ pos 0 → pos 0 <ℤ x
must_rise a b c d e m x y ha hb hc hd he hm f g =
    by_lt_z (pos 0) x (λ h. h) (λ low.
    by_lt_z y (pos 0)
    (λ neg. absurd (above_none m (d *ℤ (pos 0 -ℤ y)) (e *ℤ (pos 0 -ℤ x)) hm (mul_nonneg d (pos 0 -ℤ y) (weak d hd) (opposite_up y (negative y neg))) (mul_nonneg e (pos 0 -ℤ x) (weak e he) (opposite_up x low)) (sym (back_second m d e x y) ∙ g)))
    (λ up. absurd (below_none (a *ℤ (pos 0 -ℤ x)) (b *ℤ y) c (mul_nonneg a (pos 0 -ℤ x) (weak a ha) (opposite_up x low)) (mul_nonneg b y (weak b hb) up) hc (sym (back_first a b x y) ∙ f))))

rise : (h k : ℤ) → pos 0 <ℤ h → k ≤ℤ pos 0 → pos 0 <ℤ (h -ℤ k)
rise h k f g = omega (arith, ints, f, g)

both_back : (a b x y : ℤ) → a *ℤ (pos 0 -ℤ x) -ℤ b *ℤ (pos 0 -ℤ y) ≡ b *ℤ y -ℤ a *ℤ x
both_back a b x y = ring (a ∷ b ∷ x ∷ y ∷ []) (at 0 ⊗ (lit (pos 0) ⊖ at 2) ⊖ at 1 ⊗ (lit (pos 0) ⊖ at 3)) (at 1 ⊗ at 3 ⊖ at 0 ⊗ at 2) refl

sum_back : (m d e x y : ℤ) → m -ℤ (d *ℤ (pos 0 -ℤ y) +ℤ e *ℤ (pos 0 -ℤ x)) ≡ pos 0 -ℤ (pos 0 -ℤ m -ℤ (e *ℤ x +ℤ d *ℤ y))
sum_back m d e x y =
    ring (m ∷ d ∷ e ∷ x ∷ y ∷ []) (at 0 ⊖ (at 1 ⊗ (lit (pos 0) ⊖ at 4) ⊕ at 2 ⊗ (lit (pos 0) ⊖ at 3))) (lit (pos 0) ⊖ (lit (pos 0) ⊖ at 0 ⊖ (at 2 ⊗ at 3 ⊕ at 1 ⊗ at 4))) refl

below_zero : (x : ℤ) → pos 0 <ℤ (pos 0 -ℤ x) → x <ℤ pos 0
below_zero x h = omega (arith, ints, h)

module _ (t s : Face) (f : AloneOver t s) (g : AloneOver s t) (c : Inner t s) where
  pub third_rises : pos 0 <ℤ orient_of t.a t.c s.a s.c
  third_rises =
      let w = c.pose in
      must_rise (height s.a t -ℤ height s.b t) (height s.a t -ℤ height s.c t) (height s.a t *ℤ (height t.a s -ℤ height t.c s)) w.b2 w.b3 (w.a2 *ℤ height s.a t) (orient_of t.a t.c s.a s.c) (orient_of t.a t.c s.a s.b)
      (rise (height s.a t) (height s.b t) f.above f.second) (rise (height s.a t) (height s.c t) f.above f.third)
      (mul_positive (height s.a t) (height t.a s -ℤ height t.c s) f.above (rise (height t.a s) (height t.c s) g.above g.third))
      (c.inside b2) (c.inside b3) (mul_positive w.a2 (height s.a t) (c.inside a2) f.above)
      (swing_third t s)
      (third_is t s w ∙ across_none (gap t s w) (cross_of (minus t.c t.a) (minus s.a t.a)) c.gone)

  pub second_falls : orient_of t.a t.b s.a s.b <ℤ pos 0
  second_falls =
      let w = c.pose in let x = orient_of t.a t.b s.a s.b in let y = orient_of t.a t.b s.a s.c in let m = w.a3 *ℤ height s.a t in
      below_zero x
      (must_rise (height s.a t -ℤ height s.c t) (height s.a t -ℤ height s.b t) (height s.a t *ℤ (height t.a s -ℤ height t.b s)) w.b3 w.b2 m (pos 0 -ℤ x) (pos 0 -ℤ y)
      (rise (height s.a t) (height s.c t) f.above f.third) (rise (height s.a t) (height s.b t) f.above f.second)
      (mul_positive (height s.a t) (height t.a s -ℤ height t.b s) f.above (rise (height t.a s) (height t.b s) g.above g.second))
      (c.inside b3) (c.inside b2) (mul_positive w.a3 (height s.a t) (c.inside a3) f.above)
      (both_back (height s.a t -ℤ height s.c t) (height s.a t -ℤ height s.b t) x y ∙ swing_second t s)
      (sum_back m w.b3 w.b2 x y ∙ nothing_less _ (second_is t s w ∙ across_none (gap t s w) (cross_of (minus t.b t.a) (minus s.a t.a)) c.gone)))

-- ---- from the signs to a common point: the ends of the two stretches of the common line, by weights in both faces
-- the edge of s to its third corner through the plane of t
abbrev end_sc : Face → Face → Pose
end_sc t s = record { n = height s.a t -ℤ height s.c t; a2 = orient_of t.a t.c s.a s.c; a3 = pos 0 -ℤ orient_of t.a t.b s.a s.c; b2 = pos 0; b3 = height s.a t }

-- the edge of s to its second corner
abbrev end_sb : Face → Face → Pose
end_sb t s = record { n = height s.a t -ℤ height s.b t; a2 = orient_of t.a t.c s.a s.b; a3 = pos 0 -ℤ orient_of t.a t.b s.a s.b; b2 = height s.a t; b3 = pos 0 }

-- the edge of t to its second corner through the plane of s
abbrev end_tb : Face → Face → Pose
end_tb t s = record { n = height t.a s -ℤ height t.b s; a2 = height t.a s; a3 = pos 0; b2 = orient_of t.a t.b s.a s.c; b3 = pos 0 -ℤ orient_of t.a t.b s.a s.b }

-- the edge of t to its third corner
abbrev end_tc : Face → Face → Pose
end_tc t s = record { n = height t.a s -ℤ height t.c s; a2 = pos 0; a3 = height t.a s; b2 = orient_of t.a t.c s.a s.c; b3 = pos 0 -ℤ orient_of t.a t.c s.a s.b }

dot_sc : (t s : Face) (v : Vector) → dot_of (gap t s (end_sc t s)) v ≡ pos 0
dot_sc t s v =
    let ta = spot 0 in let tb = spot 3 in let tc = spot 6 in let sa = spot 9 in let sb = spot 12 in let sc = spot 15 in let o = lit (pos 0) in
    ring (t.a.x ∷ t.a.y ∷ t.a.z ∷ t.b.x ∷ t.b.y ∷ t.b.z ∷ t.c.x ∷ t.c.y ∷ t.c.z ∷ s.a.x ∷ s.a.y ∷ s.a.z ∷ s.b.x ∷ s.b.y ∷ s.b.z ∷ s.c.x ∷ s.c.y ∷ s.c.z ∷ v.x ∷ v.y ∷ v.z ∷ [])
    (scalar (way (tall sa ta tb tc ⊖ tall sc ta tb tc) (volume ta tc sa sc) (o ⊖ volume ta tb sa sc) o (tall sa ta tb tc) ta tb tc sa sb sc) (spot 18)) o refl

dot_sb : (t s : Face) (v : Vector) → dot_of (gap t s (end_sb t s)) v ≡ pos 0
dot_sb t s v =
    let ta = spot 0 in let tb = spot 3 in let tc = spot 6 in let sa = spot 9 in let sb = spot 12 in let sc = spot 15 in let o = lit (pos 0) in
    ring (t.a.x ∷ t.a.y ∷ t.a.z ∷ t.b.x ∷ t.b.y ∷ t.b.z ∷ t.c.x ∷ t.c.y ∷ t.c.z ∷ s.a.x ∷ s.a.y ∷ s.a.z ∷ s.b.x ∷ s.b.y ∷ s.b.z ∷ s.c.x ∷ s.c.y ∷ s.c.z ∷ v.x ∷ v.y ∷ v.z ∷ [])
    (scalar (way (tall sa ta tb tc ⊖ tall sb ta tb tc) (volume ta tc sa sb) (o ⊖ volume ta tb sa sb) (tall sa ta tb tc) o ta tb tc sa sb sc) (spot 18)) o refl

dot_tb : (t s : Face) (v : Vector) → dot_of (gap t s (end_tb t s)) v ≡ pos 0
dot_tb t s v =
    let ta = spot 0 in let tb = spot 3 in let tc = spot 6 in let sa = spot 9 in let sb = spot 12 in let sc = spot 15 in let o = lit (pos 0) in
    ring (t.a.x ∷ t.a.y ∷ t.a.z ∷ t.b.x ∷ t.b.y ∷ t.b.z ∷ t.c.x ∷ t.c.y ∷ t.c.z ∷ s.a.x ∷ s.a.y ∷ s.a.z ∷ s.b.x ∷ s.b.y ∷ s.b.z ∷ s.c.x ∷ s.c.y ∷ s.c.z ∷ v.x ∷ v.y ∷ v.z ∷ [])
    (scalar (way (tall ta sa sb sc ⊖ tall tb sa sb sc) (tall ta sa sb sc) o (volume ta tb sa sc) (o ⊖ volume ta tb sa sb) ta tb tc sa sb sc) (spot 18)) o refl

dot_tc : (t s : Face) (v : Vector) → dot_of (gap t s (end_tc t s)) v ≡ pos 0
dot_tc t s v =
    let ta = spot 0 in let tb = spot 3 in let tc = spot 6 in let sa = spot 9 in let sb = spot 12 in let sc = spot 15 in let o = lit (pos 0) in
    ring (t.a.x ∷ t.a.y ∷ t.a.z ∷ t.b.x ∷ t.b.y ∷ t.b.z ∷ t.c.x ∷ t.c.y ∷ t.c.z ∷ s.a.x ∷ s.a.y ∷ s.a.z ∷ s.b.x ∷ s.b.y ∷ s.b.z ∷ s.c.x ∷ s.c.y ∷ s.c.z ∷ v.x ∷ v.y ∷ v.z ∷ [])
    (scalar (way (tall ta sa sb sc ⊖ tall tc sa sb sc) o (tall ta sa sb sc) (volume ta tc sa sc) (o ⊖ volume ta tc sa sb) ta tb tc sa sb sc) (spot 18)) o refl

gone_sc : (t s : Face) → gap t s (end_sc t s) ≡ nowhere
gone_sc t s = no_length (gap t s (end_sc t s)) (dot_sc t s (gap t s (end_sc t s)))

gone_sb : (t s : Face) → gap t s (end_sb t s) ≡ nowhere
gone_sb t s = no_length (gap t s (end_sb t s)) (dot_sb t s (gap t s (end_sb t s)))

gone_tb : (t s : Face) → gap t s (end_tb t s) ≡ nowhere
gone_tb t s = no_length (gap t s (end_tb t s)) (dot_tb t s (gap t s (end_tb t s)))

gone_tc : (t s : Face) → gap t s (end_tc t s) ≡ nowhere
gone_tc t s = no_length (gap t s (end_tc t s)) (dot_tc t s (gap t s (end_tc t s)))

-- the sum of two ends
abbrev added : Pose → Pose → Pose
added w o = record { n = w.n +ℤ o.n; a2 = w.a2 +ℤ o.a2; a3 = w.a3 +ℤ o.a3; b2 = w.b2 +ℤ o.b2; b3 = w.b3 +ℤ o.b3 }

added_coordinate : (n x y u v m i j k l a b c p q r : ℤ) →
    (n +ℤ m -ℤ (x +ℤ i) -ℤ (y +ℤ j)) *ℤ a +ℤ (x +ℤ i) *ℤ b +ℤ (y +ℤ j) *ℤ c -ℤ ((n +ℤ m -ℤ (u +ℤ k) -ℤ (v +ℤ l)) *ℤ p +ℤ (u +ℤ k) *ℤ q +ℤ (v +ℤ l) *ℤ r)
    ≡ ((n -ℤ x -ℤ y) *ℤ a +ℤ x *ℤ b +ℤ y *ℤ c -ℤ ((n -ℤ u -ℤ v) *ℤ p +ℤ u *ℤ q +ℤ v *ℤ r)) +ℤ ((m -ℤ i -ℤ j) *ℤ a +ℤ i *ℤ b +ℤ j *ℤ c -ℤ ((m -ℤ k -ℤ l) *ℤ p +ℤ k *ℤ q +ℤ l *ℤ r))
added_coordinate n x y u v m i j k l a b c p q r =
    let tn = at 0 in let tx = at 1 in let ty = at 2 in let tu = at 3 in let tv = at 4 in let tm = at 5 in let ti = at 6 in let tj = at 7 in let tk = at 8 in let tl = at 9 in
    let ta = at 10 in let tb = at 11 in let tc = at 12 in let tp = at 13 in let tq = at 14 in let tr = at 15 in
    ring (n ∷ x ∷ y ∷ u ∷ v ∷ m ∷ i ∷ j ∷ k ∷ l ∷ a ∷ b ∷ c ∷ p ∷ q ∷ r ∷ [])
    ((tn ⊕ tm ⊖ (tx ⊕ ti) ⊖ (ty ⊕ tj)) ⊗ ta ⊕ (tx ⊕ ti) ⊗ tb ⊕ (ty ⊕ tj) ⊗ tc ⊖ ((tn ⊕ tm ⊖ (tu ⊕ tk) ⊖ (tv ⊕ tl)) ⊗ tp ⊕ (tu ⊕ tk) ⊗ tq ⊕ (tv ⊕ tl) ⊗ tr))
    (((tn ⊖ tx ⊖ ty) ⊗ ta ⊕ tx ⊗ tb ⊕ ty ⊗ tc ⊖ ((tn ⊖ tu ⊖ tv) ⊗ tp ⊕ tu ⊗ tq ⊕ tv ⊗ tr)) ⊕ ((tm ⊖ ti ⊖ tj) ⊗ ta ⊕ ti ⊗ tb ⊕ tj ⊗ tc ⊖ ((tm ⊖ tk ⊖ tl) ⊗ tp ⊕ tk ⊗ tq ⊕ tl ⊗ tr))) refl

no_sum : (x y : ℤ) → x ≡ pos 0 → y ≡ pos 0 → x +ℤ y ≡ pos 0
no_sum x y e f = omega (arith, ints, e, f)

gone_added : (t s : Face) (w o : Pose) → gap t s w ≡ nowhere → gap t s o ≡ nowhere → gap t s (added w o) ≡ nowhere
gone_added t s w o e f =
    same_vector (gap t s (added w o)) nowhere
    (added_coordinate w.n w.a2 w.a3 w.b2 w.b3 o.n o.a2 o.a3 o.b2 o.b3 t.a.x t.b.x t.c.x s.a.x s.b.x s.c.x ∙ no_sum _ _ (ap (λ (k : Vector). k.x) e) (ap (λ (k : Vector). k.x) f))
    (added_coordinate w.n w.a2 w.a3 w.b2 w.b3 o.n o.a2 o.a3 o.b2 o.b3 t.a.y t.b.y t.c.y s.a.y s.b.y s.c.y ∙ no_sum _ _ (ap (λ (k : Vector). k.y) e) (ap (λ (k : Vector). k.y) f))
    (added_coordinate w.n w.a2 w.a3 w.b2 w.b3 o.n o.a2 o.a3 o.b2 o.b3 t.a.z t.b.z t.c.z s.a.z s.b.z s.c.z ∙ no_sum _ _ (ap (λ (k : Vector). k.z) e) (ap (λ (k : Vector). k.z) f))

-- the first weight, from the balance of the heights
back_balance : (x y z h k l : ℤ) → x *ℤ h +ℤ y *ℤ k +ℤ z *ℤ l ≡ pos 0 -ℤ ((pos 0 -ℤ x) *ℤ h +ℤ (y *ℤ (pos 0 -ℤ k) +ℤ z *ℤ (pos 0 -ℤ l)))
back_balance x y z h k l =
    let o = lit (pos 0) in
    ring (x ∷ y ∷ z ∷ h ∷ k ∷ l ∷ []) (at 0 ⊗ at 3 ⊕ at 1 ⊗ at 4 ⊕ at 2 ⊗ at 5) (o ⊖ ((o ⊖ at 0) ⊗ at 3 ⊕ (at 1 ⊗ (o ⊖ at 4) ⊕ at 2 ⊗ (o ⊖ at 5)))) refl

not_balanced : (p q : ℤ) → pos 0 ≤ℤ p → pos 0 <ℤ q → pos 0 -ℤ (p +ℤ q) ≡ pos 0 → ⊥
not_balanced p q h k e = omega (arith, ints, h, k, e)

first_part : (p q : ℤ) → pos 0 <ℤ p → pos 0 ≤ℤ q → pos 0 <ℤ (p +ℤ q)
first_part p q h k = omega (arith, ints, h, k)

second_part : (p q : ℤ) → pos 0 ≤ℤ p → pos 0 <ℤ q → pos 0 <ℤ (p +ℤ q)
second_part p q h k = omega (arith, ints, h, k)

opposite_rises : (x : ℤ) → x <ℤ pos 0 → pos 0 <ℤ (pos 0 -ℤ x)
opposite_rises x h = omega (arith, ints, h)

other_below : (k l : ℤ) → pos 0 ≤ℤ k → (k +ℤ l) <ℤ pos 0 → pos 0 <ℤ (pos 0 -ℤ l)
other_below k l h f = omega (arith, ints, h, f)

pull : (y z h k l : ℤ) → pos 0 <ℤ y → pos 0 <ℤ z → Alone h k l → pos 0 <ℤ (y *ℤ (pos 0 -ℤ k) +ℤ z *ℤ (pos 0 -ℤ l))
pull y z h k l hy hz a =
    let p = mul_nonneg y (pos 0 -ℤ k) (weak y hy) (opposite_up k a.second) in
    let q = mul_nonneg z (pos 0 -ℤ l) (weak z hz) (opposite_up l a.third) in
    by_lt_z k (pos 0)
    (λ neg. first_part (y *ℤ (pos 0 -ℤ k)) (z *ℤ (pos 0 -ℤ l)) (mul_positive y (pos 0 -ℤ k) hy (opposite_rises k neg)) q)
    (λ up. second_part (y *ℤ (pos 0 -ℤ k)) (z *ℤ (pos 0 -ℤ l)) p (mul_positive z (pos 0 -ℤ l) hz (other_below k l up a.below)))

first_rises : (x y z h k l : ℤ) → pos 0 <ℤ y → pos 0 <ℤ z → Alone h k l → x *ℤ h +ℤ y *ℤ k +ℤ z *ℤ l ≡ pos 0 → pos 0 <ℤ x
first_rises x y z h k l hy hz a e =
    by_lt_z (pos 0) x (λ p. p) (λ low.
    absurd (not_balanced ((pos 0 -ℤ x) *ℤ h) (y *ℤ (pos 0 -ℤ k) +ℤ z *ℤ (pos 0 -ℤ l)) (mul_nonneg (pos 0 -ℤ x) h (opposite_up x low) (weak h a.above)) (pull y z h k l hy hz a) (sym (back_balance x y z h k l) ∙ e)))

-- the weights of the second and third corners of a pose are above 0
record Rest (w : Pose) : Type 0 where
  a2_in : pos 0 <ℤ w.a2
  a3_in : pos 0 <ℤ w.a3
  b2_in : pos 0 <ℤ w.b2
  b3_in : pos 0 <ℤ w.b3

placed : (t s : Face) → AloneOver t s → AloneOver s t → (w : Pose) → gap t s w ≡ nowhere → Rest w → Inner t s
placed t s f g w e r =
    record {
      pose = w;
      gone = e;
      inside = λ o. elim o as (λ (o : Six). pos 0 <ℤ weight o w) [
        | a1 ↦ first_rises (w.n -ℤ w.a2 -ℤ w.a3) w.a2 w.a3 (height t.a s) (height t.b s) (height t.c s) r.a2_in r.a3_in g (balance s t (swap w) (swapped_gap t s w e))
        | a2 ↦ r.a2_in
        | a3 ↦ r.a3_in
        | b1 ↦ first_rises (w.n -ℤ w.b2 -ℤ w.b3) w.b2 w.b3 (height s.a t) (height s.b t) (height s.c t) r.b2_in r.b3_in f (balance t s w e)
        | b2 ↦ r.b2_in
        | b3 ↦ r.b3_in
      ];
    }

-- the first corner of each is alone above the other's plane, and the two volumes have the right signs
pub record Linked (t s : Face) : Type 0 where
  pub over_t : AloneOver t s
  pub over_s : AloneOver s t
  pub second : orient_of t.a t.b s.a s.b <ℤ pos 0
  pub third : pos 0 <ℤ orient_of t.a t.c s.a s.c

zero_up : pos 0 ≤ℤ pos 0
zero_up = omega (arith, ints)

module _ (t s : Face) (l : Linked t s) where
  pub linked_inner : Inner t s
  linked_inner =
      let h = height s.a t in let g = height t.a s in
      let x = orient_of t.a t.b s.a s.b in let y = orient_of t.a t.c s.a s.c in
      let u = orient_of t.a t.b s.a s.c in let v = orient_of t.a t.c s.a s.b in
      let hh = l.over_t.above in let hg = l.over_s.above in
      by_lt_z u (pos 0)
      (λ below.
      let hu = opposite_up u (negative u below) in
      by_lt_z v (pos 0)
      (λ low. placed t s l.over_t l.over_s (added (end_sc t s) (end_tc t s)) (gone_added t s (end_sc t s) (end_tc t s) (gone_sc t s) (gone_tc t s)) (record {
        a2_in = first_part y (pos 0) l.third zero_up;
        a3_in = second_part (pos 0 -ℤ u) g hu hg;
        b2_in = second_part (pos 0) y zero_up l.third;
        b3_in = first_part h (pos 0 -ℤ v) hh (opposite_up v (negative v low));
      }))
      (λ high. placed t s l.over_t l.over_s (added (end_sc t s) (end_sb t s)) (gone_added t s (end_sc t s) (end_sb t s) (gone_sc t s) (gone_sb t s)) (record {
        a2_in = first_part y v l.third high;
        a3_in = second_part (pos 0 -ℤ u) (pos 0 -ℤ x) hu (opposite_rises x l.second);
        b2_in = second_part (pos 0) h zero_up hh;
        b3_in = first_part h (pos 0) hh zero_up;
      })))
      (λ above.
      by_lt_z v (pos 0)
      (λ low. placed t s l.over_t l.over_s (added (end_tb t s) (end_tc t s)) (gone_added t s (end_tb t s) (end_tc t s) (gone_tb t s) (gone_tc t s)) (record {
        a2_in = first_part g (pos 0) hg zero_up;
        a3_in = second_part (pos 0) g zero_up hg;
        b2_in = second_part u y above l.third;
        b3_in = first_part (pos 0 -ℤ x) (pos 0 -ℤ v) (opposite_rises x l.second) (opposite_up v (negative v low));
      }))
      (λ high. placed t s l.over_t l.over_s (added (end_tb t s) (end_sb t s)) (gone_added t s (end_tb t s) (end_sb t s) (gone_tb t s) (gone_sb t s)) (record {
        a2_in = first_part g v hg high;
        a3_in = second_part (pos 0) (pos 0 -ℤ x) zero_up (opposite_rises x l.second);
        b2_in = second_part u h above hh;
        b3_in = first_part (pos 0 -ℤ x) (pos 0) (opposite_rises x l.second) zero_up;
      })))

never_zero : (x : ℤ) → pos 0 <ℤ x → x ≡ pos 0 → ⊥
never_zero x h e = omega (arith, ints, h, e)

pub linked_cross : (t s : Face) → Linked t s → Cross t s
linked_cross t s l =
    record {
      off_t = λ p. never_zero (height s.a t) l.over_t.above p.a_in;
      off_s = λ p. never_zero (height t.a s) l.over_s.above p.a_in;
      inner = linked_inner t s l;
    }

pub inner_linked : (t s : Face) → AloneOver t s → AloneOver s t → Inner t s → Linked t s
inner_linked t s f g c = record { over_t = f; over_s = g; second = second_falls t s f g c; third = third_rises t s f g c }
