-- Where a line meets a face's plane
use Rattle.std.proofs.Common.{◌≡◌, arith, ℤ, pos, ◌+ℤ◌, ◌-ℤ◌, ◌*ℤ◌, ◌≤ℤ◌, ◌<ℤ◌, ◌⊎◌, refl, sym, ap, ◌∙◌, subst, [], ◌∷◌}
use Rattle.std.proofs.lemmas.Int.{ints}
use Rattle.exact_arith.specs.Space.{Vector, minus, dot_of, cross_of, Face, nowhere}
use Rattle.tri_exact.specs.Foot.{height_of, orient_of}
use Rattle.tri_exact.specs.Pierce.{weight_a, weight_b, weight_c}
use Rattle.exact_arith.proofs.Ring.{ring, at, lit, ◌⊕◌, ◌⊖◌, ◌⊗◌}
use Rattle.exact_arith.proofs.Triples.{Coords, spot, ◌⊟◌, ◌⊡◌, scalar, crossed}
use Rattle.tri_exact.proofs.Pose.{Pose, gap, same_vector, towards}

-- the volume of p and the corners, and the sum of the three volumes of pq
abbrev pub depth : Vector → Face → ℤ
depth p t = orient_of p t.a t.b t.c

abbrev pub slope : Vector → Vector → Face → ℤ
slope p q t = weight_a p q t +ℤ weight_b p q t +ℤ weight_c p q t

-- shares v, w and the rest of a sum s, and a share x of it, all from 0 to s
pub record Sits (s v w x : ℤ) : Type 0 where
  pub steep : pos 0 <ℤ s
  pub in_a : pos 0 ≤ℤ (s -ℤ v -ℤ w)
  pub in_b : pos 0 ≤ℤ v
  pub in_c : pos 0 ≤ℤ w
  pub after_p : pos 0 ≤ℤ x
  pub before_q : pos 0 ≤ℤ (s -ℤ x)

abbrev pub SitsFace : Vector → Vector → Face → Type 0
SitsFace p q t =
    Sits (slope p q t) (weight_b p q t) (weight_c p q t) (depth p t)
    ⊎ Sits (pos 0 -ℤ slope p q t) (pos 0 -ℤ weight_b p q t) (pos 0 -ℤ weight_c p q t) (pos 0 -ℤ depth p t)

pub slope_is : (p q : Vector) (t : Face) → slope p q t ≡ height_of (minus t.b t.a) (minus t.c t.a) (minus q p)
slope_is p q t =
    let tp = spot 0 in let tq = spot 3 in let ta = spot 6 in let tb = spot 9 in let tc = spot 12 in
    let a = ta ⊟ tp in let b = tb ⊟ tp in let c = tc ⊟ tp in let w = tq ⊟ tp in
    ring (p.x ∷ p.y ∷ p.z ∷ q.x ∷ q.y ∷ q.z ∷ t.a.x ∷ t.a.y ∷ t.a.z ∷ t.b.x ∷ t.b.y ∷ t.b.z ∷ t.c.x ∷ t.c.y ∷ t.c.z ∷ [])
    (scalar (crossed b c) w ⊕ scalar (crossed c a) w ⊕ scalar (crossed a b) w) (scalar w (crossed (tb ⊟ ta) (tc ⊟ ta))) refl

abbrev triple : Vector → Vector → Vector → ℤ
triple a b c = dot_of (cross_of a b) c

four_x : (a b c w : Vector) → triple b c w *ℤ a.x +ℤ triple c a w *ℤ b.x +ℤ triple a b w *ℤ c.x -ℤ triple a b c *ℤ w.x ≡ pos 0
four_x a b c w =
    let ta = spot 0 in let tb = spot 3 in let tc = spot 6 in let tw = spot 9 in
    ring (a.x ∷ a.y ∷ a.z ∷ b.x ∷ b.y ∷ b.z ∷ c.x ∷ c.y ∷ c.z ∷ w.x ∷ w.y ∷ w.z ∷ [])
    (scalar (crossed tb tc) tw ⊗ ta.x ⊕ scalar (crossed tc ta) tw ⊗ tb.x ⊕ scalar (crossed ta tb) tw ⊗ tc.x ⊖ scalar (crossed ta tb) tc ⊗ tw.x) (lit (pos 0)) refl

four_y : (a b c w : Vector) → triple b c w *ℤ a.y +ℤ triple c a w *ℤ b.y +ℤ triple a b w *ℤ c.y -ℤ triple a b c *ℤ w.y ≡ pos 0
four_y a b c w =
    let ta = spot 0 in let tb = spot 3 in let tc = spot 6 in let tw = spot 9 in
    ring (a.x ∷ a.y ∷ a.z ∷ b.x ∷ b.y ∷ b.z ∷ c.x ∷ c.y ∷ c.z ∷ w.x ∷ w.y ∷ w.z ∷ [])
    (scalar (crossed tb tc) tw ⊗ ta.y ⊕ scalar (crossed tc ta) tw ⊗ tb.y ⊕ scalar (crossed ta tb) tw ⊗ tc.y ⊖ scalar (crossed ta tb) tc ⊗ tw.y) (lit (pos 0)) refl

four_z : (a b c w : Vector) → triple b c w *ℤ a.z +ℤ triple c a w *ℤ b.z +ℤ triple a b w *ℤ c.z -ℤ triple a b c *ℤ w.z ≡ pos 0
four_z a b c w =
    let ta = spot 0 in let tb = spot 3 in let tc = spot 6 in let tw = spot 9 in
    ring (a.x ∷ a.y ∷ a.z ∷ b.x ∷ b.y ∷ b.z ∷ c.x ∷ c.y ∷ c.z ∷ w.x ∷ w.y ∷ w.z ∷ [])
    (scalar (crossed tb tc) tw ⊗ ta.z ⊕ scalar (crossed tc ta) tw ⊗ tb.z ⊕ scalar (crossed ta tb) tw ⊗ tc.z ⊖ scalar (crossed ta tb) tc ⊗ tw.z) (lit (pos 0)) refl

times_zero : (x : ℤ) → x *ℤ pos 0 ≡ pos 0
times_zero x = omega (arith, ints)

-- the pose of the common point of the plane and the line of p and q; k is 1 or -1, so that the sum is above 0
abbrev pub pierce_pose : ℤ → Vector → Vector → Face → Pose
pierce_pose k p q t = record { n = k *ℤ slope p q t; a2 = k *ℤ weight_b p q t; a3 = k *ℤ weight_c p q t; b2 = k *ℤ depth p t; b3 = pos 0 }

pierce_coordinate : (k u v w x a b c p q r : ℤ) → u *ℤ (a -ℤ p) +ℤ v *ℤ (b -ℤ p) +ℤ w *ℤ (c -ℤ p) -ℤ x *ℤ (q -ℤ p) ≡ pos 0 →
    (k *ℤ (u +ℤ v +ℤ w) -ℤ k *ℤ v -ℤ k *ℤ w) *ℤ a +ℤ k *ℤ v *ℤ b +ℤ k *ℤ w *ℤ c -ℤ ((k *ℤ (u +ℤ v +ℤ w) -ℤ k *ℤ x -ℤ pos 0) *ℤ p +ℤ k *ℤ x *ℤ q +ℤ pos 0 *ℤ r) ≡ pos 0
pierce_coordinate k u v w x a b c p q r e =
    let tk = at 0 in let tu = at 1 in let tv = at 2 in let tw = at 3 in let tx = at 4 in let ta = at 5 in let tb = at 6 in let tc = at 7 in let tp = at 8 in let tq = at 9 in let tr = at 10 in let o = lit (pos 0) in
    ring (k ∷ u ∷ v ∷ w ∷ x ∷ a ∷ b ∷ c ∷ p ∷ q ∷ r ∷ [])
    ((tk ⊗ (tu ⊕ tv ⊕ tw) ⊖ tk ⊗ tv ⊖ tk ⊗ tw) ⊗ ta ⊕ tk ⊗ tv ⊗ tb ⊕ tk ⊗ tw ⊗ tc ⊖ ((tk ⊗ (tu ⊕ tv ⊕ tw) ⊖ tk ⊗ tx ⊖ o) ⊗ tp ⊕ tk ⊗ tx ⊗ tq ⊕ o ⊗ tr))
    (tk ⊗ (tu ⊗ (ta ⊖ tp) ⊕ tv ⊗ (tb ⊖ tp) ⊕ tw ⊗ (tc ⊖ tp) ⊖ tx ⊗ (tq ⊖ tp))) refl
    ∙ ap (λ (z : ℤ). k *ℤ z) e ∙ times_zero k

pub pierce_gap : (k : ℤ) (t s : Face) → gap t s (pierce_pose k s.a s.b t) ≡ nowhere
pierce_gap k t s =
    let p = s.a in let q = s.b in let u = weight_a p q t in let v = weight_b p q t in let w = weight_c p q t in let x = depth p t in
    let a = minus t.a p in let b = minus t.b p in let c = minus t.c p in let l = minus q p in
    same_vector (gap t s (pierce_pose k s.a s.b t)) nowhere
    (pierce_coordinate k u v w x t.a.x t.b.x t.c.x p.x q.x s.c.x (four_x a b c l))
    (pierce_coordinate k u v w x t.a.y t.b.y t.c.y p.y q.y s.c.y (four_y a b c l))
    (pierce_coordinate k u v w x t.a.z t.b.z t.c.z p.z q.z s.c.z (four_z a b c l))

no_way : (g : Vector) (n c : ℤ) → dot_of (towards g nowhere n c) nowhere ≡ pos 0
no_way g n c =
    let o = lit (pos 0) in let z : Coords = record { x = o; y = o; z = o } in
    ring (g.x ∷ g.y ∷ g.z ∷ n ∷ c ∷ []) (scalar (at 4 ⊡ spot 0 ⊟ at 3 ⊡ z) z) o refl

pub pierce_aims : (k : ℤ) (t s : Face) (w : Pose) → let f = pierce_pose k s.a s.b t in dot_of (towards (gap t s w) (gap t s f) w.n f.n) (gap t s f) ≡ pos 0
pierce_aims k t s w =
    let f = pierce_pose k s.a s.b t in
    subst (λ (v : Vector). dot_of (towards (gap t s w) v w.n f.n) v ≡ pos 0) (sym (pierce_gap k t s)) (no_way (gap t s w) w.n f.n)
