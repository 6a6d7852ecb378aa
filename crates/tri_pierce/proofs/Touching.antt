-- Faces that share no more than a side of their boxes don't pierce: they would lie in one plane
use Rattle.std.proofs.Common.{◌≡◌, ◌⊎◌, inl, inr, arith, ℤ, pos, ◌+ℤ◌, ◌-ℤ◌, ◌*ℤ◌, ◌≤ℤ◌, ◌<ℤ◌, refl, ap, ◌∙◌, [], ◌∷◌}
use Rattle.std.proofs.lemmas.Int.{ints}
use Rattle.exact_arith.specs.Space.{Vector, minus, dot_of, cross_of, Face}
use Rattle.exact_arith.proofs.Ring.{ring, at, lit, ◌⊕◌, ◌⊖◌, ◌⊗◌}
use Rattle.exact_arith.proofs.Triples.{spot, scalar, crossed}
use Rattle.exact_arith.proofs.Order.{add_nonneg, mul_nonneg, rest}
use Rattle.bim_model.specs.Points.{shape_of}
use Rattle.bim_model.specs.declared.geometry.Triangle.{Triangle}
use Rattle.tri_exact.proofs.Pose.{Pose}
use Rattle.tri_exact.proofs.Weights.{Six, a1, a2, a3, b1, b2, b3, weight}
use Rattle.tri_pierce.specs.Piercing.{FacesPierce, Pierces}
use Rattle.tri_pierce.specs.inner.TouchingBoxes.{Before}
use Rattle.tri_pierce.proofs.InnerPoints.{pierce_cross}
use Rattle.tri_pierce.proofs.LoneSigns.{level, no_first, no_second, weak, nothing_less}
use Rattle.tri_pierce.proofs.CornerOrders.{pierces_swap}

-- ---- on one axis
slack : (n x y u v a b c p q r m : ℤ) → ((n -ℤ x -ℤ y) *ℤ (m -ℤ a) +ℤ x *ℤ (m -ℤ b) +ℤ y *ℤ (m -ℤ c)) +ℤ ((n -ℤ u -ℤ v) *ℤ (p -ℤ m) +ℤ u *ℤ (q -ℤ m) +ℤ v *ℤ (r -ℤ m))
    ≡ pos 0 -ℤ ((n -ℤ x -ℤ y) *ℤ a +ℤ x *ℤ b +ℤ y *ℤ c -ℤ ((n -ℤ u -ℤ v) *ℤ p +ℤ u *ℤ q +ℤ v *ℤ r))
slack n x y u v a b c p q r m =
    let tn = at 0 in let tx = at 1 in let ty = at 2 in let tu = at 3 in let tv = at 4 in
    let ta = at 5 in let tb = at 6 in let tc = at 7 in let tp = at 8 in let tq = at 9 in let tr = at 10 in let tm = at 11 in
    ring (n ∷ x ∷ y ∷ u ∷ v ∷ a ∷ b ∷ c ∷ p ∷ q ∷ r ∷ m ∷ [])
    (((tn ⊖ tx ⊖ ty) ⊗ (tm ⊖ ta) ⊕ tx ⊗ (tm ⊖ tb) ⊕ ty ⊗ (tm ⊖ tc)) ⊕ ((tn ⊖ tu ⊖ tv) ⊗ (tp ⊖ tm) ⊕ tu ⊗ (tq ⊖ tm) ⊕ tv ⊗ (tr ⊖ tm)))
    (lit (pos 0) ⊖ ((tn ⊖ tx ⊖ ty) ⊗ ta ⊕ tx ⊗ tb ⊕ ty ⊗ tc ⊖ ((tn ⊖ tu ⊖ tv) ⊗ tp ⊕ tu ⊗ tq ⊕ tv ⊗ tr))) refl

-- five coordinates are the same as a sixth
record Same (a b c p q r : ℤ) : Type 0 where
  b_is : b -ℤ a ≡ pos 0
  c_is : c -ℤ a ≡ pos 0
  p_is : p -ℤ a ≡ pos 0
  q_is : q -ℤ a ≡ pos 0
  r_is : r -ℤ a ≡ pos 0

both_at : (m a b : ℤ) → m -ℤ a ≡ pos 0 → m -ℤ b ≡ pos 0 → b -ℤ a ≡ pos 0
both_at m a b e f = omega (arith, ints, e, f)

at_and_past : (m a p : ℤ) → m -ℤ a ≡ pos 0 → p -ℤ m ≡ pos 0 → p -ℤ a ≡ pos 0
at_and_past m a p e f = omega (arith, ints, e, f)

module _ (w : Pose) (inside : (i : Six) → pos 0 <ℤ weight i w) (a b c p q r : ℤ) (k : Before a b c p q r)
    (e : (w.n -ℤ w.a2 -ℤ w.a3) *ℤ a +ℤ w.a2 *ℤ b +ℤ w.a3 *ℤ c -ℤ ((w.n -ℤ w.b2 -ℤ w.b3) *ℤ p +ℤ w.b2 *ℤ q +ℤ w.b3 *ℤ r) ≡ pos 0) where
  same : Same a b c p q r
  same =
      let m = k.between in
      let x = w.n -ℤ w.a2 -ℤ w.a3 in let u = w.n -ℤ w.b2 -ℤ w.b3 in
      let f = x *ℤ (m -ℤ a) +ℤ w.a2 *ℤ (m -ℤ b) +ℤ w.a3 *ℤ (m -ℤ c) in
      let g = u *ℤ (p -ℤ m) +ℤ w.b2 *ℤ (q -ℤ m) +ℤ w.b3 *ℤ (r -ℤ m) in
      let sa = rest a m k.a_in in let sb = rest b m k.b_in in let sc = rest c m k.c_in in
      let sp = rest m p k.p_in in let sq = rest m q k.q_in in let sr = rest m r k.r_in in
      let hf : pos 0 ≤ℤ f = add_nonneg (x *ℤ (m -ℤ a) +ℤ w.a2 *ℤ (m -ℤ b)) (w.a3 *ℤ (m -ℤ c)) (add_nonneg (x *ℤ (m -ℤ a)) (w.a2 *ℤ (m -ℤ b)) (mul_nonneg x (m -ℤ a) (weak x (inside a1)) sa) (mul_nonneg w.a2 (m -ℤ b) (weak w.a2 (inside a2)) sb)) (mul_nonneg w.a3 (m -ℤ c) (weak w.a3 (inside a3)) sc) in
      let hg : pos 0 ≤ℤ g = add_nonneg (u *ℤ (p -ℤ m) +ℤ w.b2 *ℤ (q -ℤ m)) (w.b3 *ℤ (r -ℤ m)) (add_nonneg (u *ℤ (p -ℤ m)) (w.b2 *ℤ (q -ℤ m)) (mul_nonneg u (p -ℤ m) (weak u (inside b1)) sp) (mul_nonneg w.b2 (q -ℤ m) (weak w.b2 (inside b2)) sq)) (mul_nonneg w.b3 (r -ℤ m) (weak w.b3 (inside b3)) sr) in
      let z : f +ℤ g ≡ pos 0 = slack w.n w.a2 w.a3 w.b2 w.b3 a b c p q r m ∙ nothing_less _ e in
      let i = level x w.a2 w.a3 (m -ℤ a) (m -ℤ b) (m -ℤ c) (inside a1) (inside a2) (inside a3) sa sb sc (no_first f g hf hg z) in
      let j = level u w.b2 w.b3 (p -ℤ m) (q -ℤ m) (r -ℤ m) (inside b1) (inside b2) (inside b3) sp sq sr (no_second f g hf hg z) in
      record { b_is = both_at m a b i.0 i.1.0; c_is = both_at m a c i.0 i.1.1; p_is = at_and_past m a p i.0 j.0; q_is = at_and_past m a q i.0 j.1.0; r_is = at_and_past m a r i.0 j.1.1 }

-- ---- three vectors with no part along an axis lie in one plane
no_products : (a b c x y z : ℤ) → a ≡ pos 0 → b ≡ pos 0 → c ≡ pos 0 → a *ℤ x +ℤ b *ℤ y +ℤ c *ℤ z ≡ pos 0
no_products a b c x y z e f g = rw (e, f, g) (omega (arith, ints))

level_x : (w e u : Vector) → w.x ≡ pos 0 → e.x ≡ pos 0 → u.x ≡ pos 0 → dot_of w (cross_of e u) ≡ pos 0
level_x w e u f g h =
    ring (w.x ∷ w.y ∷ w.z ∷ e.x ∷ e.y ∷ e.z ∷ u.x ∷ u.y ∷ u.z ∷ []) (scalar (spot 0) (crossed (spot 3) (spot 6)))
    (at 0 ⊗ (at 4 ⊗ at 8 ⊖ at 5 ⊗ at 7) ⊕ at 3 ⊗ (at 2 ⊗ at 7 ⊖ at 1 ⊗ at 8) ⊕ at 6 ⊗ (at 1 ⊗ at 5 ⊖ at 2 ⊗ at 4)) refl
    ∙ no_products w.x e.x u.x (e.y *ℤ u.z -ℤ e.z *ℤ u.y) (w.z *ℤ u.y -ℤ w.y *ℤ u.z) (w.y *ℤ e.z -ℤ w.z *ℤ e.y) f g h

level_y : (w e u : Vector) → w.y ≡ pos 0 → e.y ≡ pos 0 → u.y ≡ pos 0 → dot_of w (cross_of e u) ≡ pos 0
level_y w e u f g h =
    ring (w.x ∷ w.y ∷ w.z ∷ e.x ∷ e.y ∷ e.z ∷ u.x ∷ u.y ∷ u.z ∷ []) (scalar (spot 0) (crossed (spot 3) (spot 6)))
    (at 1 ⊗ (at 5 ⊗ at 6 ⊖ at 3 ⊗ at 8) ⊕ at 4 ⊗ (at 0 ⊗ at 8 ⊖ at 2 ⊗ at 6) ⊕ at 7 ⊗ (at 2 ⊗ at 3 ⊖ at 0 ⊗ at 5)) refl
    ∙ no_products w.y e.y u.y (e.z *ℤ u.x -ℤ e.x *ℤ u.z) (w.x *ℤ u.z -ℤ w.z *ℤ u.x) (w.z *ℤ e.x -ℤ w.x *ℤ e.z) f g h

level_z : (w e u : Vector) → w.z ≡ pos 0 → e.z ≡ pos 0 → u.z ≡ pos 0 → dot_of w (cross_of e u) ≡ pos 0
level_z w e u f g h =
    ring (w.x ∷ w.y ∷ w.z ∷ e.x ∷ e.y ∷ e.z ∷ u.x ∷ u.y ∷ u.z ∷ []) (scalar (spot 0) (crossed (spot 3) (spot 6)))
    (at 2 ⊗ (at 3 ⊗ at 7 ⊖ at 4 ⊗ at 6) ⊕ at 5 ⊗ (at 1 ⊗ at 6 ⊖ at 0 ⊗ at 7) ⊕ at 8 ⊗ (at 0 ⊗ at 4 ⊖ at 1 ⊗ at 3)) refl
    ∙ no_products w.z e.z u.z (e.x *ℤ u.y -ℤ e.y *ℤ u.x) (w.y *ℤ u.x -ℤ w.x *ℤ u.y) (w.x *ℤ e.y -ℤ w.y *ℤ e.x) f g h

-- ---- faces on two sides of a plane along two axes
before_x : (t s : Face) → Before t.a.x t.b.x t.c.x s.a.x s.b.x s.c.x → FacesPierce t s → ⊥
before_x t s k h =
    let c = pierce_cross t s h in let e = minus t.b t.a in let u = minus t.c t.a in
    let f = same c.inner.pose c.inner.inside t.a.x t.b.x t.c.x s.a.x s.b.x s.c.x k (ap (λ (v : Vector). v.x) c.inner.gone) in
    c.off_t (record { a_in = level_x (minus s.a t.a) e u f.p_is f.b_is f.c_is; b_in = level_x (minus s.b t.a) e u f.q_is f.b_is f.c_is; c_in = level_x (minus s.c t.a) e u f.r_is f.b_is f.c_is })

before_y : (t s : Face) → Before t.a.y t.b.y t.c.y s.a.y s.b.y s.c.y → FacesPierce t s → ⊥
before_y t s k h =
    let c = pierce_cross t s h in let e = minus t.b t.a in let u = minus t.c t.a in
    let f = same c.inner.pose c.inner.inside t.a.y t.b.y t.c.y s.a.y s.b.y s.c.y k (ap (λ (v : Vector). v.y) c.inner.gone) in
    c.off_t (record { a_in = level_y (minus s.a t.a) e u f.p_is f.b_is f.c_is; b_in = level_y (minus s.b t.a) e u f.q_is f.b_is f.c_is; c_in = level_y (minus s.c t.a) e u f.r_is f.b_is f.c_is })

before_z : (t s : Face) → Before t.a.z t.b.z t.c.z s.a.z s.b.z s.c.z → FacesPierce t s → ⊥
before_z t s k h =
    let c = pierce_cross t s h in let e = minus t.b t.a in let u = minus t.c t.a in
    let f = same c.inner.pose c.inner.inside t.a.z t.b.z t.c.z s.a.z s.b.z s.c.z k (ap (λ (v : Vector). v.z) c.inner.gone) in
    c.off_t (record { a_in = level_z (minus s.a t.a) e u f.p_is f.b_is f.c_is; b_in = level_z (minus s.b t.a) e u f.q_is f.b_is f.c_is; c_in = level_z (minus s.c t.a) e u f.r_is f.b_is f.c_is })

pub beside_x : (p q : Triangle) → Before p.a.x p.b.x p.c.x q.a.x q.b.x q.c.x ⊎ Before q.a.x q.b.x q.c.x p.a.x p.b.x p.c.x → Pierces p q → ⊥
unfolding Pierces
beside_x p q (inl k) h = before_x (shape_of p) (shape_of q) k h
beside_x p q (inr k) h = before_x (shape_of q) (shape_of p) k (pierces_swap (shape_of p) (shape_of q) h)

pub beside_y : (p q : Triangle) → Before p.a.y p.b.y p.c.y q.a.y q.b.y q.c.y ⊎ Before q.a.y q.b.y q.c.y p.a.y p.b.y p.c.y → Pierces p q → ⊥
unfolding Pierces
beside_y p q (inl k) h = before_y (shape_of p) (shape_of q) k h
beside_y p q (inr k) h = before_y (shape_of q) (shape_of p) k (pierces_swap (shape_of p) (shape_of q) h)

pub beside_z : (p q : Triangle) → Before p.a.z p.b.z p.c.z q.a.z q.b.z q.c.z ⊎ Before q.a.z q.b.z q.c.z p.a.z p.b.z p.c.z → Pierces p q → ⊥
unfolding Pierces
beside_z p q (inl k) h = before_z (shape_of p) (shape_of q) k h
beside_z p q (inr k) h = before_z (shape_of q) (shape_of p) k (pierces_swap (shape_of p) (shape_of q) h)
