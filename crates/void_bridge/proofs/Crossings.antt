-- Segments in frames of which one ends before the other begins don't collide.
use Rattle.std.proofs.Common.{◌≡◌, ◌∙◌, ap, sym, refl, inl, inr, ◌⊎◌, ℤ, pos, ◌+ℤ◌, ◌-ℤ◌, ◌*ℤ◌, ◌≤ℤ◌, ◌<ℤ◌, Bool, true, false, not, ◌&&◌, ◌||◌, [], ◌∷◌, arith}
use Rattle.std.specs.Prelude.{int_lt, int_le}
use Rattle.std.specs.Ordering.{int_eq}
use Rattle.std.proofs.lemmas.Int.{ints}
use Rattle.std.proofs.lemmas.Bool.{or_cases, and_parts}
use Rattle.std.proofs.lemmas.Bool.Decides.{Decides-int_eq}
use Rattle.exact_arith.proofs.Ring.{ring, at, lit, ◌⊕◌, ◌⊖◌, ◌⊗◌}
use Rattle.exact_arith.proofs.Order.{mul_nonneg, from_rest, nonneg_by}
use Rattle.ear_cut.specs.declared.polygon_view.View.{View}
use Rattle.ear_cut.specs.PolygonViews.{Spot, bend, signed, area, same_spot}
use Rattle.ear_cut.proofs.Spokes.{bent}
use Rattle.void_bridge.specs.declared.barriers.Frame.{Frame}
use Rattle.void_bridge.specs.LoopEdges.{Segment, is_between, is_end, is_on, is_inside, are_opposite, cross, collide}
use Rattle.void_bridge.specs.inner.Barriers.{IsInFrame, IsFramed, are_apart}

-- ---- products with weights that are not negative
weighted : (w x y : ℤ) → pos 0 ≤ℤ w → x ≤ℤ y → (w *ℤ x) ≤ℤ (w *ℤ y)
weighted w x y h k =
    from_rest (w *ℤ x) (w *ℤ y)
    (nonneg_by (w *ℤ y -ℤ w *ℤ x) (w *ℤ (y -ℤ x)) (ring (w ∷ x ∷ y ∷ []) (at 0 ⊗ at 2 ⊖ at 0 ⊗ at 1) (at 0 ⊗ (at 2 ⊖ at 1)) refl) (mul_nonneg w (y -ℤ x) h (omega (arith, ints, k))))

-- two means with the same positive weight in all can't lie on two sides of a number
means_apart : (a b c d x y z w m : ℤ) → pos 0 ≤ℤ a → pos 0 ≤ℤ b → pos 0 ≤ℤ c → pos 0 ≤ℤ d → pos 0 <ℤ (a +ℤ b) → a +ℤ b ≡ c +ℤ d
    → x ≤ℤ m → y ≤ℤ m → (m +ℤ pos 1) ≤ℤ z → (m +ℤ pos 1) ≤ℤ w → a *ℤ x +ℤ b *ℤ y ≡ c *ℤ z +ℤ d *ℤ w → ⊥
means_apart a b c d x y z w m ha hb hc hd s t hx hy hz hw e =
    by_bounds (a *ℤ x) (b *ℤ y) (c *ℤ z) (d *ℤ w) (a *ℤ m) (b *ℤ m) (c *ℤ (m +ℤ pos 1)) (d *ℤ (m +ℤ pos 1)) (a +ℤ b)
    (weighted a x m ha hx) (weighted b y m hb hy) (weighted c (m +ℤ pos 1) z hc hz) (weighted d (m +ℤ pos 1) w hd hw) s
    (ring (a ∷ b ∷ c ∷ d ∷ m ∷ []) (at 2 ⊗ (at 4 ⊕ lit (pos 1)) ⊕ at 3 ⊗ (at 4 ⊕ lit (pos 1))) ((at 2 ⊕ at 3) ⊗ (at 4 ⊕ lit (pos 1))) refl
    ∙ (ap (λ (k : ℤ). k *ℤ (m +ℤ pos 1)) (sym t) ∙ ring (a ∷ b ∷ m ∷ []) ((at 0 ⊕ at 1) ⊗ (at 2 ⊕ lit (pos 1))) ((at 0 ⊗ at 2 ⊕ at 1 ⊗ at 2) ⊕ (at 0 ⊕ at 1)) refl)) e
  where
    by_bounds : (p q r s am bm cm dm ab : ℤ) → p ≤ℤ am → q ≤ℤ bm → cm ≤ℤ r → dm ≤ℤ s → pos 0 <ℤ ab → cm +ℤ dm ≡ (am +ℤ bm) +ℤ ab → p +ℤ q ≡ r +ℤ s → ⊥
    by_bounds p q r s am bm cm dm ab h k l m n o e = omega (arith, ints, h, k, l, m, n, o, e)

-- ---- where two segments cross
-- the point in which the lines of ab and cd meet lies between a and b by the areas at cd, and between c and d by those at ab
module _ (a b c d : Spot) where
  weights : bend a b d -ℤ bend a b c ≡ bend c d a -ℤ bend c d b
  weights =
      ring (a.u ∷ a.v ∷ b.u ∷ b.v ∷ c.u ∷ c.v ∷ d.u ∷ d.v ∷ [])
      (bent (at 0) (at 1) (at 2) (at 3) (at 6) (at 7) ⊖ bent (at 0) (at 1) (at 2) (at 3) (at 4) (at 5))
      (bent (at 4) (at 5) (at 6) (at 7) (at 0) (at 1) ⊖ bent (at 4) (at 5) (at 6) (at 7) (at 2) (at 3)) refl

  meeting_u : bend a b d *ℤ c.u -ℤ bend a b c *ℤ d.u ≡ bend c d a *ℤ b.u -ℤ bend c d b *ℤ a.u
  meeting_u =
      ring (a.u ∷ a.v ∷ b.u ∷ b.v ∷ c.u ∷ c.v ∷ d.u ∷ d.v ∷ [])
      (bent (at 0) (at 1) (at 2) (at 3) (at 6) (at 7) ⊗ at 4 ⊖ bent (at 0) (at 1) (at 2) (at 3) (at 4) (at 5) ⊗ at 6)
      (bent (at 4) (at 5) (at 6) (at 7) (at 0) (at 1) ⊗ at 2 ⊖ bent (at 4) (at 5) (at 6) (at 7) (at 2) (at 3) ⊗ at 0) refl

  meeting_v : bend a b d *ℤ c.v -ℤ bend a b c *ℤ d.v ≡ bend c d a *ℤ b.v -ℤ bend c d b *ℤ a.v
  meeting_v =
      ring (a.u ∷ a.v ∷ b.u ∷ b.v ∷ c.u ∷ c.v ∷ d.u ∷ d.v ∷ [])
      (bent (at 0) (at 1) (at 2) (at 3) (at 6) (at 7) ⊗ at 5 ⊖ bent (at 0) (at 1) (at 2) (at 3) (at 4) (at 5) ⊗ at 7)
      (bent (at 4) (at 5) (at 6) (at 7) (at 0) (at 1) ⊗ at 3 ⊖ bent (at 4) (at 5) (at 6) (at 7) (at 2) (at 3) ⊗ at 1) refl

-- weights by which a point of the segment from c to d is one of the segment from a to b
record Meeting (a b c d : Spot) : Type 0 where
  to_c : ℤ
  to_d : ℤ
  to_b : ℤ
  to_a : ℤ
  c_kept : pos 0 ≤ℤ to_c
  d_kept : pos 0 ≤ℤ to_d
  b_kept : pos 0 ≤ℤ to_b
  a_kept : pos 0 ≤ℤ to_a
  some : pos 0 <ℤ (to_c +ℤ to_d)
  same : to_c +ℤ to_d ≡ to_b +ℤ to_a
  meet_u : to_c *ℤ c.u +ℤ to_d *ℤ d.u ≡ to_b *ℤ b.u +ℤ to_a *ℤ a.u
  meet_v : to_c *ℤ c.v +ℤ to_d *ℤ d.v ≡ to_b *ℤ b.v +ℤ to_a *ℤ a.v

less : (x y : ℤ) → int_lt x y ≡ true → x <ℤ y
less x y e = omega (arith, ints, e)

-- two numbers on both sides of zero, whichever way they are seen
opposite : (r : Bool) (x y : ℤ) → are_opposite (signed r x) (signed r y) ≡ true → ((x <ℤ pos 0) × (pos 0 <ℤ y)) ⊎ ((pos 0 <ℤ x) × (y <ℤ pos 0))
opposite false x y h =
    elim (or_cases (int_lt x (pos 0) && int_lt (pos 0) y) (int_lt y (pos 0) && int_lt (pos 0) x) h) [
      | inl e ↦ let p = and_parts (int_lt x (pos 0)) (int_lt (pos 0) y) e in inl (less x (pos 0) p.0, less (pos 0) y p.1)
      | inr e ↦ let p = and_parts (int_lt y (pos 0)) (int_lt (pos 0) x) e in inr (less (pos 0) x p.1, less y (pos 0) p.0)
    ]
opposite true x y h =
    elim (or_cases (int_lt (pos 0 -ℤ x) (pos 0) && int_lt (pos 0) (pos 0 -ℤ y)) (int_lt (pos 0 -ℤ y) (pos 0) && int_lt (pos 0) (pos 0 -ℤ x)) h) [
      | inl e ↦ let p = and_parts (int_lt (pos 0 -ℤ x) (pos 0)) (int_lt (pos 0) (pos 0 -ℤ y)) e in
          inr (above x (less (pos 0 -ℤ x) (pos 0) p.0), below y (less (pos 0) (pos 0 -ℤ y) p.1))
      | inr e ↦ let p = and_parts (int_lt (pos 0 -ℤ y) (pos 0)) (int_lt (pos 0) (pos 0 -ℤ x)) e in
          inl (below x (less (pos 0) (pos 0 -ℤ x) p.1), above y (less (pos 0 -ℤ y) (pos 0) p.0))
    ]
  where
    above : (x : ℤ) → (pos 0 -ℤ x) <ℤ pos 0 → pos 0 <ℤ x
    above x h = omega (arith, ints, h)

    below : (x : ℤ) → pos 0 <ℤ (pos 0 -ℤ x) → x <ℤ pos 0
    below x h = omega (arith, ints, h)

less_one : (x z y t : ℤ) → x *ℤ y +ℤ (pos 0 -ℤ z) *ℤ t ≡ x *ℤ y -ℤ z *ℤ t
less_one x z y t = ring (x ∷ z ∷ y ∷ t ∷ []) (at 0 ⊗ at 2 ⊕ (lit (pos 0) ⊖ at 1) ⊗ at 3) (at 0 ⊗ at 2 ⊖ at 1 ⊗ at 3) refl

less_other : (x z y t : ℤ) → (pos 0 -ℤ x) *ℤ y +ℤ z *ℤ t ≡ pos 0 -ℤ (x *ℤ y -ℤ z *ℤ t)
less_other x z y t = ring (x ∷ z ∷ y ∷ t ∷ []) ((lit (pos 0) ⊖ at 0) ⊗ at 2 ⊕ at 1 ⊗ at 3) (lit (pos 0) ⊖ (at 0 ⊗ at 2 ⊖ at 1 ⊗ at 3)) refl

-- the areas of two segments that cross, as weights
module _ (a b c d : Spot) where
  rising : bend a b c <ℤ pos 0 → pos 0 <ℤ bend a b d → pos 0 <ℤ bend c d a → bend c d b <ℤ pos 0 → Meeting a b c d
  rising h k l m = record {
    to_c = bend a b d;
    to_d = pos 0 -ℤ bend a b c;
    to_b = bend c d a;
    to_a = pos 0 -ℤ bend c d b;
    c_kept = kept (bend a b d) k;
    d_kept = kept_other (bend a b c) h;
    b_kept = kept (bend c d a) l;
    a_kept = kept_other (bend c d b) m;
    some = sum (bend a b d) (bend a b c) k h;
    same = equal (bend a b d) (bend a b c) (bend c d a) (bend c d b) (weights a b c d);
    meet_u = less_one (bend a b d) (bend a b c) c.u d.u ∙ (meeting_u a b c d ∙ sym (less_one (bend c d a) (bend c d b) b.u a.u));
    meet_v = less_one (bend a b d) (bend a b c) c.v d.v ∙ (meeting_v a b c d ∙ sym (less_one (bend c d a) (bend c d b) b.v a.v));
  }
    where
      kept : (x : ℤ) → pos 0 <ℤ x → pos 0 ≤ℤ x
      kept x h = omega (arith, ints, h)

      kept_other : (x : ℤ) → x <ℤ pos 0 → pos 0 ≤ℤ (pos 0 -ℤ x)
      kept_other x h = omega (arith, ints, h)

      sum : (x y : ℤ) → pos 0 <ℤ x → y <ℤ pos 0 → pos 0 <ℤ (x +ℤ (pos 0 -ℤ y))
      sum x y h k = omega (arith, ints, h, k)

      equal : (x y z w : ℤ) → x -ℤ y ≡ z -ℤ w → x +ℤ (pos 0 -ℤ y) ≡ z +ℤ (pos 0 -ℤ w)
      equal x y z w e = omega (arith, ints, e)

  falling : pos 0 <ℤ bend a b c → bend a b d <ℤ pos 0 → bend c d a <ℤ pos 0 → pos 0 <ℤ bend c d b → Meeting a b c d
  falling h k l m = record {
    to_c = pos 0 -ℤ bend a b d;
    to_d = bend a b c;
    to_b = pos 0 -ℤ bend c d a;
    to_a = bend c d b;
    c_kept = kept_other (bend a b d) k;
    d_kept = kept (bend a b c) h;
    b_kept = kept_other (bend c d a) l;
    a_kept = kept (bend c d b) m;
    some = sum (bend a b d) (bend a b c) k h;
    same = equal (bend a b d) (bend a b c) (bend c d a) (bend c d b) (weights a b c d);
    meet_u = less_other (bend a b d) (bend a b c) c.u d.u ∙ (ap (λ (x : ℤ). pos 0 -ℤ x) (meeting_u a b c d) ∙ sym (less_other (bend c d a) (bend c d b) b.u a.u));
    meet_v = less_other (bend a b d) (bend a b c) c.v d.v ∙ (ap (λ (x : ℤ). pos 0 -ℤ x) (meeting_v a b c d) ∙ sym (less_other (bend c d a) (bend c d b) b.v a.v));
  }
    where
      kept : (x : ℤ) → pos 0 <ℤ x → pos 0 ≤ℤ x
      kept x h = omega (arith, ints, h)

      kept_other : (x : ℤ) → x <ℤ pos 0 → pos 0 ≤ℤ (pos 0 -ℤ x)
      kept_other x h = omega (arith, ints, h)

      sum : (x y : ℤ) → x <ℤ pos 0 → pos 0 <ℤ y → pos 0 <ℤ ((pos 0 -ℤ x) +ℤ y)
      sum x y h k = omega (arith, ints, h, k)

      equal : (x y z w : ℤ) → x -ℤ y ≡ z -ℤ w → (pos 0 -ℤ x) +ℤ y ≡ (pos 0 -ℤ z) +ℤ w
      equal x y z w e = omega (arith, ints, e)

both_signs : (x y z w : ℤ) → x -ℤ y ≡ z -ℤ w → pos 0 <ℤ x → y <ℤ pos 0 → z <ℤ pos 0 → pos 0 <ℤ w → ⊥
both_signs x y z w e h k l m = omega (arith, ints, e, h, k, l, m)

other_signs : (x y z w : ℤ) → x -ℤ y ≡ z -ℤ w → x <ℤ pos 0 → pos 0 <ℤ y → pos 0 <ℤ z → w <ℤ pos 0 → ⊥
other_signs x y z w e h k l m = omega (arith, ints, e, h, k, l, m)

meeting : (view : View) (s t : Segment) → cross view s t ≡ true → Meeting s.a s.b t.a t.b
unfolding area
meeting view s t h =
    let a = s.a in let b = s.b in let c = t.a in let d = t.b in let r = view.reversed in
    let p = and_parts (are_opposite (signed r (bend a b c)) (signed r (bend a b d))) (are_opposite (signed r (bend c d a)) (signed r (bend c d b))) h in
    elim (opposite r (bend a b c) (bend a b d) p.0) [
      | inl e ↦ elim (opposite r (bend c d a) (bend c d b) p.1) [
        | inl f ↦ absurd (both_signs (bend a b d) (bend a b c) (bend c d a) (bend c d b) (weights a b c d) e.1 e.0 f.0 f.1)
        | inr f ↦ rising a b c d e.0 e.1 f.0 f.1
      ]
      | inr e ↦ elim (opposite r (bend c d a) (bend c d b) p.1) [
        | inl f ↦ falling a b c d e.0 e.1 f.0 f.1
        | inr f ↦ absurd (other_signs (bend a b d) (bend a b c) (bend c d a) (bend c d b) (weights a b c d) e.1 e.0 f.0 f.1)
      ]
    ]

-- ---- frames that are apart
from_next : (x l h : ℤ) → h <ℤ l → l ≤ℤ x → (h +ℤ pos 1) ≤ℤ x
from_next x l h e f = omega (arith, ints, e, f)

-- segments that cross have no frames of which one ends before the other begins
no_cross : (view : View) (s t : Segment) (f g : Frame) → are_apart f g ≡ true → IsFramed f t → IsFramed g s → cross view s t ≡ true → ⊥
no_cross view s t f g h k l e =
    let m = meeting view s t e in
    elim (or_cases (int_lt f.high_u g.low_u) (int_lt g.high_u f.low_u || (int_lt f.high_v g.low_v || int_lt g.high_v f.low_v)) h) [
      | inl x ↦ let o = less f.high_u g.low_u x in
          means_apart m.to_c m.to_d m.to_b m.to_a t.a.u t.b.u s.b.u s.a.u f.high_u m.c_kept m.d_kept m.b_kept m.a_kept m.some m.same
          k.a_in.high_u k.b_in.high_u (from_next s.b.u g.low_u f.high_u o l.b_in.low_u) (from_next s.a.u g.low_u f.high_u o l.a_in.low_u) m.meet_u
      | inr x ↦ elim (or_cases (int_lt g.high_u f.low_u) (int_lt f.high_v g.low_v || int_lt g.high_v f.low_v) x) [
        | inl y ↦ let o = less g.high_u f.low_u y in
            means_apart m.to_b m.to_a m.to_c m.to_d s.b.u s.a.u t.a.u t.b.u g.high_u m.b_kept m.a_kept m.c_kept m.d_kept (positive m.to_c m.to_d m.to_b m.to_a m.some m.same) (sym m.same)
            l.b_in.high_u l.a_in.high_u (from_next t.a.u f.low_u g.high_u o k.a_in.low_u) (from_next t.b.u f.low_u g.high_u o k.b_in.low_u) (sym m.meet_u)
        | inr y ↦ elim (or_cases (int_lt f.high_v g.low_v) (int_lt g.high_v f.low_v) y) [
          | inl z ↦ let o = less f.high_v g.low_v z in
              means_apart m.to_c m.to_d m.to_b m.to_a t.a.v t.b.v s.b.v s.a.v f.high_v m.c_kept m.d_kept m.b_kept m.a_kept m.some m.same
              k.a_in.high_v k.b_in.high_v (from_next s.b.v g.low_v f.high_v o l.b_in.low_v) (from_next s.a.v g.low_v f.high_v o l.a_in.low_v) m.meet_v
          | inr z ↦ let o = less g.high_v f.low_v z in
              means_apart m.to_b m.to_a m.to_c m.to_d s.b.v s.a.v t.a.v t.b.v g.high_v m.b_kept m.a_kept m.c_kept m.d_kept (positive m.to_c m.to_d m.to_b m.to_a m.some m.same) (sym m.same)
              l.b_in.high_v l.a_in.high_v (from_next t.a.v f.low_v g.high_v o k.a_in.low_v) (from_next t.b.v f.low_v g.high_v o k.b_in.low_v) (sym m.meet_v)
        ]
      ]
    ]
  where
    positive : (x y z w : ℤ) → pos 0 <ℤ (x +ℤ y) → x +ℤ y ≡ z +ℤ w → pos 0 <ℤ (z +ℤ w)
    positive x y z w h e = omega (arith, ints, h, e)

-- a spot lies in no two such frames
in_neither : (f g : Frame) (p : Spot) → are_apart f g ≡ true → IsInFrame f p → IsInFrame g p → ⊥
in_neither f g p h k l =
    elim (or_cases (int_lt f.high_u g.low_u) (int_lt g.high_u f.low_u || (int_lt f.high_v g.low_v || int_lt g.high_v f.low_v)) h) [
      | inl x ↦ between p.u f.high_u g.low_u (less f.high_u g.low_u x) k.high_u l.low_u
      | inr x ↦ elim (or_cases (int_lt g.high_u f.low_u) (int_lt f.high_v g.low_v || int_lt g.high_v f.low_v) x) [
        | inl y ↦ between p.u g.high_u f.low_u (less g.high_u f.low_u y) l.high_u k.low_u
        | inr y ↦ elim (or_cases (int_lt f.high_v g.low_v) (int_lt g.high_v f.low_v) y) [
          | inl z ↦ between p.v f.high_v g.low_v (less f.high_v g.low_v z) k.high_v l.low_v
          | inr z ↦ between p.v g.high_v f.low_v (less g.high_v f.low_v z) l.high_v k.low_v
        ]
      ]
    ]
  where
    between : (x h l : ℤ) → h <ℤ l → x ≤ℤ h → l ≤ℤ x → ⊥
    between x h l e f g = omega (arith, ints, e, f, g)

-- ---- spots of a segment lie in its frame
within : (a b x l h : ℤ) → is_between a b x ≡ true → l ≤ℤ a → a ≤ℤ h → l ≤ℤ b → b ≤ℤ h → (l ≤ℤ x) × (x ≤ℤ h)
within a b x l h e la ah lb bh =
    elim (or_cases (int_le a x && int_le x b) (int_le b x && int_le x a) e) [
      | inl f ↦ let p = and_parts (int_le a x) (int_le x b) f in (low a x l la (at_most a x p.0), high x b h (at_most x b p.1) bh)
      | inr f ↦ let p = and_parts (int_le b x) (int_le x a) f in (low b x l lb (at_most b x p.0), high x a h (at_most x a p.1) ah)
    ]
  where
    at_most : (x y : ℤ) → int_le x y ≡ true → x ≤ℤ y
    at_most x y e = omega (arith, ints, e)

    low : (a x l : ℤ) → l ≤ℤ a → a ≤ℤ x → l ≤ℤ x
    low a x l e f = omega (arith, ints, e, f)

    high : (x b h : ℤ) → x ≤ℤ b → b ≤ℤ h → x ≤ℤ h
    high x b h e f = omega (arith, ints, e, f)

on_framed : (view : View) (s : Segment) (p : Spot) (f : Frame) → IsFramed f s → is_on view s p ≡ true → IsInFrame f p
on_framed view s p f h e =
    let on = and_parts (int_eq (area view s.a s.b p) (pos 0)) (is_between s.a.u s.b.u p.u && is_between s.a.v s.b.v p.v) e in
    let parts = and_parts (is_between s.a.u s.b.u p.u) (is_between s.a.v s.b.v p.v) on.1 in
    let u = within s.a.u s.b.u p.u f.low_u f.high_u parts.0 h.a_in.low_u h.a_in.high_u h.b_in.low_u h.b_in.high_u in
    let v = within s.a.v s.b.v p.v f.low_v f.high_v parts.1 h.a_in.low_v h.a_in.high_v h.b_in.low_v h.b_in.high_v in
    record { low_u = u.0; high_u = u.1; low_v = v.0; high_v = v.1 }

inside_framed : (view : View) (s : Segment) (p : Spot) (f : Frame) → IsFramed f s → is_inside view s p ≡ true → IsInFrame f p
inside_framed view s p f h e = on_framed view s p f h (and_parts (is_on view s p) (not (is_end s p)) e).0

same_framed : (p q : Spot) (f : Frame) → same_spot p q ≡ true → IsInFrame f q → IsInFrame f p
same_framed p q f e h =
    let parts = and_parts (int_eq p.u q.u) (int_eq p.v q.v) e in
    record {
      low_u = low p.u q.u f.low_u (equal p.u q.u parts.0) h.low_u;
      high_u = high p.u q.u f.high_u (equal p.u q.u parts.0) h.high_u;
      low_v = low p.v q.v f.low_v (equal p.v q.v parts.1) h.low_v;
      high_v = high p.v q.v f.high_v (equal p.v q.v parts.1) h.high_v;
    }
  where
    equal : (x y : ℤ) → int_eq x y ≡ true → x ≡ y
    equal x y e = (Decides-int_eq x y).0 e

    low : (x y l : ℤ) → x ≡ y → l ≤ℤ y → l ≤ℤ x
    low x y l e h = omega (arith, ints, e, h)

    high : (x y h : ℤ) → x ≡ y → y ≤ℤ h → x ≤ℤ h
    high x y h e k = omega (arith, ints, e, k)

end_framed : (s : Segment) (p : Spot) (f : Frame) → IsFramed f s → is_end s p ≡ true → IsInFrame f p
end_framed s p f h e =
    elim (or_cases (same_spot p s.a) (same_spot p s.b) e) [
      | inl x ↦ same_framed p s.a f x h.a_in
      | inr x ↦ same_framed p s.b f x h.b_in
    ]

refuted : (b : Bool) → (b ≡ true → ⊥) → b ≡ false
refuted true h = absurd (h refl)
refuted false h = refl

-- a bridge in a frame apart from that of a run collides with no edge of the run
pub apart_passes : (view : View) (s t : Segment) (f g : Frame) → are_apart f g ≡ true → IsFramed f t → IsFramed g s → collide view s t ≡ false
unfolding collide
apart_passes view s t f g h k l = refuted (collide view s t) (λ e.
    elim (or_cases (cross view s t) (is_inside view t s.a || (is_inside view t s.b || (is_inside view s t.a || (is_inside view s t.b || (is_end t s.a && is_end t s.b))))) e) [
      | inl x ↦ no_cross view s t f g h k l x
      | inr x ↦ elim (or_cases (is_inside view t s.a) (is_inside view t s.b || (is_inside view s t.a || (is_inside view s t.b || (is_end t s.a && is_end t s.b)))) x) [
        | inl y ↦ in_neither f g s.a h (inside_framed view t s.a f k y) l.a_in
        | inr y ↦ elim (or_cases (is_inside view t s.b) (is_inside view s t.a || (is_inside view s t.b || (is_end t s.a && is_end t s.b))) y) [
          | inl z ↦ in_neither f g s.b h (inside_framed view t s.b f k z) l.b_in
          | inr z ↦ elim (or_cases (is_inside view s t.a) (is_inside view s t.b || (is_end t s.a && is_end t s.b)) z) [
            | inl w ↦ in_neither f g t.a h k.a_in (inside_framed view s t.a g l w)
            | inr w ↦ elim (or_cases (is_inside view s t.b) (is_end t s.a && is_end t s.b) w) [
              | inl i ↦ in_neither f g t.b h k.b_in (inside_framed view s t.b g l i)
              | inr i ↦ in_neither f g s.a h (end_framed t s.a f k (and_parts (is_end t s.a) (is_end t s.b) i).0) l.a_in
            ]
          ]
        ]
      ]
    ])
