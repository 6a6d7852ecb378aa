-- Heights over a face with its corners in another order, and faces in one plane
use Rattle.std.proofs.Common.{◌≡◌, arith, ℤ, pos, ◌+ℤ◌, ◌-ℤ◌, ◌*ℤ◌, ◌≤ℤ◌, ◌<ℤ◌, refl, ap, ◌∙◌, [], ◌∷◌}
use Rattle.std.proofs.lemmas.Int.{ints, by_lt_z}
use Rattle.exact_arith.specs.Space.{Vector, minus, dot_of, cross_of, Face, normal}
use Rattle.tri_exact.specs.Within.{HasArea}
use Rattle.tri_exact.specs.Pierce.{height}
use Rattle.exact_arith.proofs.Ring.{ring, at, lit, ◌⊕◌, ◌⊖◌, ◌⊗◌}
use Rattle.exact_arith.proofs.Triples.{spot, ◌⊟◌, scalar, crossed}
use Rattle.exact_arith.proofs.Order.{cancel_nonneg, nonneg_by}
use Rattle.tri_exact.proofs.Pose.{length_nonneg}
use Rattle.tri_exact.proofs.TwoEdges.{no_length, flat_zero}
use Rattle.tri_exact.proofs.TwoFaces.{dot_nowhere}
use Rattle.tri_pierce.specs.Piercing.{InPlane, OffPlane}
use Rattle.tri_pierce.specs.inner.LoneCorners.{turn_of, mirror_of}

pub turned_height : (p : Vector) (t : Face) → height p (turn_of t) ≡ height p t
turned_height p t =
    let tp = spot 0 in let a = spot 3 in let b = spot 6 in let c = spot 9 in
    ring (p.x ∷ p.y ∷ p.z ∷ t.a.x ∷ t.a.y ∷ t.a.z ∷ t.b.x ∷ t.b.y ∷ t.b.z ∷ t.c.x ∷ t.c.y ∷ t.c.z ∷ [])
    (scalar (tp ⊟ b) (crossed (c ⊟ b) (a ⊟ b))) (scalar (tp ⊟ a) (crossed (b ⊟ a) (c ⊟ a))) refl

pub mirrored_height : (p : Vector) (t : Face) → height p (mirror_of t) ≡ pos 0 -ℤ height p t
mirrored_height p t =
    let tp = spot 0 in let a = spot 3 in let b = spot 6 in let c = spot 9 in
    ring (p.x ∷ p.y ∷ p.z ∷ t.a.x ∷ t.a.y ∷ t.a.z ∷ t.b.x ∷ t.b.y ∷ t.b.z ∷ t.c.x ∷ t.c.y ∷ t.c.z ∷ [])
    (scalar (tp ⊟ a) (crossed (c ⊟ a) (b ⊟ a))) (lit (pos 0) ⊖ scalar (tp ⊟ a) (crossed (b ⊟ a) (c ⊟ a))) refl

-- ---- the corners of a face lie in its plane
own_a : (t : Face) → height t.a t ≡ pos 0
own_a t =
    let a = spot 0 in let b = spot 3 in let c = spot 6 in
    ring (t.a.x ∷ t.a.y ∷ t.a.z ∷ t.b.x ∷ t.b.y ∷ t.b.z ∷ t.c.x ∷ t.c.y ∷ t.c.z ∷ []) (scalar (a ⊟ a) (crossed (b ⊟ a) (c ⊟ a))) (lit (pos 0)) refl

own_b : (t : Face) → height t.b t ≡ pos 0
own_b t =
    let a = spot 0 in let b = spot 3 in let c = spot 6 in
    ring (t.a.x ∷ t.a.y ∷ t.a.z ∷ t.b.x ∷ t.b.y ∷ t.b.z ∷ t.c.x ∷ t.c.y ∷ t.c.z ∷ []) (scalar (b ⊟ a) (crossed (b ⊟ a) (c ⊟ a))) (lit (pos 0)) refl

own_c : (t : Face) → height t.c t ≡ pos 0
own_c t =
    let a = spot 0 in let b = spot 3 in let c = spot 6 in
    ring (t.a.x ∷ t.a.y ∷ t.a.z ∷ t.b.x ∷ t.b.y ∷ t.b.z ∷ t.c.x ∷ t.c.y ∷ t.c.z ∷ []) (scalar (c ⊟ a) (crossed (b ⊟ a) (c ⊟ a))) (lit (pos 0)) refl

-- ---- a product that is 0, with one factor above it
back_product : (c x : ℤ) → c *ℤ (pos 0 -ℤ x) ≡ pos 0 -ℤ c *ℤ x
back_product c x = ring (c ∷ x ∷ []) (at 0 ⊗ (lit (pos 0) ⊖ at 1)) (lit (pos 0) ⊖ at 0 ⊗ at 1) refl

not_below : (x : ℤ) → x ≡ pos 0 → pos 0 ≤ℤ x
not_below x e = omega (arith, ints, e)

not_above : (x : ℤ) → x ≡ pos 0 → pos 0 ≤ℤ (pos 0 -ℤ x)
not_above x e = omega (arith, ints, e)

down : (x : ℤ) → pos 0 ≤ℤ (pos 0 -ℤ x) → x ≤ℤ pos 0
down x h = omega (arith, ints, h)

pub zero_factor : (c x : ℤ) → pos 0 <ℤ c → c *ℤ x ≡ pos 0 → x ≡ pos 0
zero_factor c x h e =
    flat_zero x (down x (cancel_nonneg c (pos 0 -ℤ x) h (nonneg_by _ _ (back_product c x) (not_above (c *ℤ x) e))))
    (cancel_nonneg c x h (not_below (c *ℤ x) e))

-- ---- where a face lies in the plane of another that has an area, this lies in its plane
flat_product : (n f v w : Vector) → dot_of n n *ℤ dot_of w (cross_of f v) ≡ dot_of n w *ℤ dot_of n (cross_of f v) +ℤ dot_of n v *ℤ dot_of f (cross_of n w) -ℤ dot_of n f *ℤ dot_of v (cross_of n w)
flat_product n f v w =
    let tn = spot 0 in let tf = spot 3 in let tv = spot 6 in let tw = spot 9 in
    ring (n.x ∷ n.y ∷ n.z ∷ f.x ∷ f.y ∷ f.z ∷ v.x ∷ v.y ∷ v.z ∷ w.x ∷ w.y ∷ w.z ∷ []) (scalar tn tn ⊗ scalar tw (crossed tf tv))
    (scalar tn tw ⊗ scalar tn (crossed tf tv) ⊕ scalar tn tv ⊗ scalar tf (crossed tn tw) ⊖ scalar tn tf ⊗ scalar tv (crossed tn tw)) refl

between : (n q r o : Vector) → dot_of n (minus r q) ≡ dot_of (minus r o) n -ℤ dot_of (minus q o) n
between n q r o =
    let tn = spot 0 in let tq = spot 3 in let tr = spot 6 in let to = spot 9 in
    ring (n.x ∷ n.y ∷ n.z ∷ q.x ∷ q.y ∷ q.z ∷ r.x ∷ r.y ∷ r.z ∷ o.x ∷ o.y ∷ o.z ∷ []) (scalar tn (tr ⊟ tq)) (scalar (tr ⊟ to) tn ⊖ scalar (tq ⊟ to) tn) refl

no_difference : (x y : ℤ) → x ≡ pos 0 → y ≡ pos 0 → x -ℤ y ≡ pos 0
no_difference x y e f = omega (arith, ints, e, f)

no_products : (a b c x y z : ℤ) → a ≡ pos 0 → b ≡ pos 0 → c ≡ pos 0 → a *ℤ x +ℤ b *ℤ y -ℤ c *ℤ z ≡ pos 0
no_products a b c x y z e f g = rw (e, f, g) (omega (arith, ints))

flat_corner : (p : Vector) (t s : Face) → HasArea t → InPlane t s → height p t ≡ pos 0 → height p s ≡ pos 0
flat_corner p t s area h e =
    let n = normal t in let f = minus s.b s.a in let v = minus s.c s.a in let w = minus p s.a in
    zero_factor (dot_of n n) (height p s) area
    (flat_product n f v w ∙ no_products (dot_of n w) (dot_of n v) (dot_of n f) (dot_of n (cross_of f v)) (dot_of f (cross_of n w)) (dot_of v (cross_of n w))
    (between n s.a p t.a ∙ no_difference (height p t) (height s.a t) e h.a_in)
    (between n s.a s.c t.a ∙ no_difference (height s.c t) (height s.a t) h.c_in h.a_in)
    (between n s.a s.b t.a ∙ no_difference (height s.b t) (height s.a t) h.b_in h.a_in))

pub flat : (t s : Face) → HasArea t → InPlane t s → InPlane s t
flat t s area h = record { a_in = flat_corner t.a t s area h (own_a t); b_in = flat_corner t.b t s area h (own_b t); c_in = flat_corner t.c t s area h (own_c t) }

-- a face with a corner of another off its plane has an area
pub off_area : (t s : Face) → OffPlane t s → HasArea t
off_area t s off =
    let n = normal t in
    by_lt_z (pos 0) (dot_of n n) (λ h. h) (λ h.
    let e = no_length n (flat_zero (dot_of n n) h (length_nonneg n)) in
    absurd (off (record {
      a_in = ap (λ (v : Vector). dot_of (minus s.a t.a) v) e ∙ dot_nowhere (minus s.a t.a);
      b_in = ap (λ (v : Vector). dot_of (minus s.b t.a) v) e ∙ dot_nowhere (minus s.b t.a);
      c_in = ap (λ (v : Vector). dot_of (minus s.c t.a) v) e ∙ dot_nowhere (minus s.c t.a);
    })))
