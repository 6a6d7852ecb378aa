-- A point of each of two faces, by weights of one sum, and how they move
use Rattle.std.proofs.Common.{zero, suc, ◌≡◌, arith, ℤ, pos, negsuc, ◌+ℤ◌, ◌-ℤ◌, ◌*ℤ◌, ◌≤ℤ◌, ◌<ℤ◌, refl, sym, ap, ◌∙◌, subst, [], ◌∷◌}
use Rattle.std.proofs.lemmas.Int.{ints}
use Rattle.exact_arith.specs.Space.{Vector, nowhere, plus, minus, times, dot_of, Face}
use Rattle.tri_exact.specs.Within.{mix3}
use Rattle.exact_arith.proofs.Ring.{ring, at, lit, ◌⊕◌, ◌⊖◌, ◌⊗◌}
use Rattle.exact_arith.proofs.Triples.{Coords, spot, ◌⊞◌, ◌⊟◌, ◌⊡◌, scalar}
use Rattle.exact_arith.proofs.Order.{add_nonneg, mul_nonneg, mul_positive, rest, certify, nonneg}

abbrev pub vector : ℤ → ℤ → ℤ → Vector
vector x y z = record { x = x; y = y; z = z }

pub same_parts : (x y z u v w : ℤ) → x ≡ u → y ≡ v → z ≡ w → vector x y z ≡ vector u v w
same_parts x y z u v w e f g = ap (λ (t : ℤ). vector t y z) e ∙ ap (λ (t : ℤ). vector u t z) f ∙ ap (λ (t : ℤ). vector u v t) g

pub same_vector : (a b : Vector) → a.x ≡ b.x → a.y ≡ b.y → a.z ≡ b.z → a ≡ b
same_vector a b e f g = same_parts a.x a.y a.z b.x b.y b.z e f g

-- Two points of a face each, times n: the weights of the corners b and c; the corner a has the rest of n
pub record Pose : Type 0 where
  pub n : ℤ
  pub a2 : ℤ
  pub a3 : ℤ
  pub b2 : ℤ
  pub b3 : ℤ

pub record Shift : Type 0 where
  pub a2 : ℤ
  pub a3 : ℤ
  pub b2 : ℤ
  pub b3 : ℤ

abbrev pub gap : Face → Face → Pose → Vector
gap t s w = minus (mix3 t (w.n -ℤ w.a2 -ℤ w.a3) w.a2 w.a3) (mix3 s (w.n -ℤ w.b2 -ℤ w.b3) w.b2 w.b3)

abbrev pub drift : Face → Face → Shift → Vector
drift t s o = minus (plus (times o.a2 (minus t.b t.a)) (times o.a3 (minus t.c t.a))) (plus (times o.b2 (minus s.b s.a)) (times o.b3 (minus s.c s.a)))

abbrev pub move : ℤ → ℤ → Pose → Shift → Pose
move m k w o = record { n = m *ℤ w.n; a2 = m *ℤ w.a2 +ℤ k *ℤ o.a2; a3 = m *ℤ w.a3 +ℤ k *ℤ o.a3; b2 = m *ℤ w.b2 +ℤ k *ℤ o.b2; b3 = m *ℤ w.b3 +ℤ k *ℤ o.b3 }

-- two points whose distance squared is at most d
pub record IsClose (t s : Face) (d : ℤ) (w : Pose) : Type 0 where
  pub n_positive : pos 0 <ℤ w.n
  pub within : dot_of (gap t s w) (gap t s w) ≤ℤ (d *ℤ (w.n *ℤ w.n))

-- the first weight moves like the others
pub first_moves : (m k n b c u v : ℤ) → m *ℤ n -ℤ (m *ℤ b +ℤ k *ℤ u) -ℤ (m *ℤ c +ℤ k *ℤ v) ≡ m *ℤ (n -ℤ b -ℤ c) +ℤ k *ℤ (pos 0 -ℤ u -ℤ v)
first_moves m k n b c u v =
    ring (m ∷ k ∷ n ∷ b ∷ c ∷ u ∷ v ∷ []) (at 0 ⊗ at 2 ⊖ (at 0 ⊗ at 3 ⊕ at 1 ⊗ at 5) ⊖ (at 0 ⊗ at 4 ⊕ at 1 ⊗ at 6)) (at 0 ⊗ (at 2 ⊖ at 3 ⊖ at 4) ⊕ at 1 ⊗ (lit (pos 0) ⊖ at 5 ⊖ at 6)) refl

-- one coordinate of a gap that moves
coordinate : (m k : ℤ) (w : Pose) (o : Shift) (a b c p q r : ℤ) →
    (m *ℤ w.n -ℤ (m *ℤ w.a2 +ℤ k *ℤ o.a2) -ℤ (m *ℤ w.a3 +ℤ k *ℤ o.a3)) *ℤ a +ℤ (m *ℤ w.a2 +ℤ k *ℤ o.a2) *ℤ b +ℤ (m *ℤ w.a3 +ℤ k *ℤ o.a3) *ℤ c -ℤ ((m *ℤ w.n -ℤ (m *ℤ w.b2 +ℤ k *ℤ o.b2) -ℤ (m *ℤ w.b3 +ℤ k *ℤ o.b3)) *ℤ p +ℤ (m *ℤ w.b2 +ℤ k *ℤ o.b2) *ℤ q +ℤ (m *ℤ w.b3 +ℤ k *ℤ o.b3) *ℤ r)
    ≡ m *ℤ ((w.n -ℤ w.a2 -ℤ w.a3) *ℤ a +ℤ w.a2 *ℤ b +ℤ w.a3 *ℤ c -ℤ ((w.n -ℤ w.b2 -ℤ w.b3) *ℤ p +ℤ w.b2 *ℤ q +ℤ w.b3 *ℤ r)) +ℤ k *ℤ (o.a2 *ℤ (b -ℤ a) +ℤ o.a3 *ℤ (c -ℤ a) -ℤ (o.b2 *ℤ (q -ℤ p) +ℤ o.b3 *ℤ (r -ℤ p)))
coordinate m k w o a b c p q r =
    let tm = at 0 in let tk = at 1 in
    let n = at 2 in let w2 = at 3 in let w3 = at 4 in let v2 = at 5 in let v3 = at 6 in
    let o2 = at 7 in let o3 = at 8 in let u2 = at 9 in let u3 = at 10 in
    let ta = at 11 in let tb = at 12 in let tc = at 13 in let tp = at 14 in let tq = at 15 in let tr = at 16 in
    ring (m ∷ k ∷ w.n ∷ w.a2 ∷ w.a3 ∷ w.b2 ∷ w.b3 ∷ o.a2 ∷ o.a3 ∷ o.b2 ∷ o.b3 ∷ a ∷ b ∷ c ∷ p ∷ q ∷ r ∷ [])
    ((tm ⊗ n ⊖ (tm ⊗ w2 ⊕ tk ⊗ o2) ⊖ (tm ⊗ w3 ⊕ tk ⊗ o3)) ⊗ ta ⊕ (tm ⊗ w2 ⊕ tk ⊗ o2) ⊗ tb ⊕ (tm ⊗ w3 ⊕ tk ⊗ o3) ⊗ tc ⊖ ((tm ⊗ n ⊖ (tm ⊗ v2 ⊕ tk ⊗ u2) ⊖ (tm ⊗ v3 ⊕ tk ⊗ u3)) ⊗ tp ⊕ (tm ⊗ v2 ⊕ tk ⊗ u2) ⊗ tq ⊕ (tm ⊗ v3 ⊕ tk ⊗ u3) ⊗ tr))
    (tm ⊗ ((n ⊖ w2 ⊖ w3) ⊗ ta ⊕ w2 ⊗ tb ⊕ w3 ⊗ tc ⊖ ((n ⊖ v2 ⊖ v3) ⊗ tp ⊕ v2 ⊗ tq ⊕ v3 ⊗ tr)) ⊕ tk ⊗ (o2 ⊗ (tb ⊖ ta) ⊕ o3 ⊗ (tc ⊖ ta) ⊖ (u2 ⊗ (tq ⊖ tp) ⊕ u3 ⊗ (tr ⊖ tp))))
    refl

pub gap_moves : (t s : Face) (m k : ℤ) (w : Pose) (o : Shift) → gap t s (move m k w o) ≡ plus (times m (gap t s w)) (times k (drift t s o))
gap_moves t s m k w o =
    same_vector (gap t s (move m k w o)) (plus (times m (gap t s w)) (times k (drift t s o)))
    (coordinate m k w o t.a.x t.b.x t.c.x s.a.x s.b.x s.c.x)
    (coordinate m k w o t.a.y t.b.y t.c.y s.a.y s.b.y s.c.y)
    (coordinate m k w o t.a.z t.b.z t.c.z s.a.z s.b.z s.c.z)

still : (m k : ℤ) (v : Vector) → dot_of (plus (times m v) (times k nowhere)) (plus (times m v) (times k nowhere)) ≡ m *ℤ m *ℤ dot_of v v
still m k v =
    let tv = spot 2 in let o = lit (pos 0) in let none : Coords = record { x = o; y = o; z = o } in let u = at 0 ⊡ tv ⊞ at 1 ⊡ none in
    ring (m ∷ k ∷ v.x ∷ v.y ∷ v.z ∷ []) (scalar u u) (at 0 ⊗ at 0 ⊗ scalar tv tv) refl

-- a bound on a square, carried from the numbers of one pose to those of the next
carried : (m n d x y : ℤ) → y ≤ℤ (m *ℤ m *ℤ x) → x ≤ℤ (d *ℤ (n *ℤ n)) → y ≤ℤ (d *ℤ (m *ℤ n *ℤ (m *ℤ n)))
carried m n d x y h k =
    let f : pos 0 ≤ℤ (m *ℤ m *ℤ x -ℤ y) = rest y (m *ℤ m *ℤ x) h in
    let g : pos 0 ≤ℤ (d *ℤ (n *ℤ n) -ℤ x) = rest x (d *ℤ (n *ℤ n)) k in
    let tm = at 0 in let tn = at 1 in let td = at 2 in let tx = at 3 in let ty = at 4 in
    certify (m ∷ n ∷ d ∷ x ∷ y ∷ []) (lit (pos 1)) ty (td ⊗ (tm ⊗ tn ⊗ (tm ⊗ tn)))
    ((tm ⊗ tm ⊗ tx ⊖ ty) ⊕ tm ⊗ tm ⊗ (td ⊗ (tn ⊗ tn) ⊖ tx))
    (omega (arith, ints)) refl (search nonneg)

pub ≤ℤ_same : (a b : ℤ) → a ≡ b → a ≤ℤ b
≤ℤ_same a b e = omega (arith, ints)

-- the moved pose, where the gap's square has not grown
pub moved : (t s : Face) (d : ℤ) (w : Pose) (o : Shift) (m k : ℤ) (c : IsClose t s d w) → pos 0 <ℤ m →
    dot_of (gap t s (move m k w o)) (gap t s (move m k w o)) ≤ℤ (m *ℤ m *ℤ dot_of (gap t s w) (gap t s w)) → IsClose t s d (move m k w o)
moved t s d w o m k c hm h =
    record {
      n_positive = mul_positive m w.n hm c.n_positive;
      within = carried m w.n d (dot_of (gap t s w) (gap t s w)) (dot_of (gap t s (move m k w o)) (gap t s (move m k w o))) h c.within;
    }

-- a move that changes both points alike
pub moved_free : (t s : Face) (d : ℤ) (w : Pose) (o : Shift) (m k : ℤ) (c : IsClose t s d w) → pos 0 <ℤ m → drift t s o ≡ nowhere → IsClose t s d (move m k w o)
moved_free t s d w o m k c hm e =
    moved t s d w o m k c hm
    (let g = gap t s w in
    let step = gap_moves t s m k w o ∙ ap (λ (z : Vector). plus (times m g) (times k z)) e in
    subst (λ (v : Vector). dot_of v v ≤ℤ (m *ℤ m *ℤ dot_of g g)) (sym step) (≤ℤ_same _ _ (still m k g)))

pub length_nonneg : (v : Vector) → pos 0 ≤ℤ dot_of v v
length_nonneg v = search nonneg

abbrev pub towards : Vector → Vector → ℤ → ℤ → Vector
towards g f n c = minus (times c g) (times n f)

-- c > 0 and n: the numbers of f and of g; k steps of the way, at most the whole of it
pub shrinks : (g f : Vector) (n c m k : ℤ) → pos 0 ≤ℤ n → pos 0 <ℤ c → pos 0 ≤ℤ k → pos 0 ≤ℤ m → pos 0 ≤ℤ (m *ℤ pos 1 +ℤ k *ℤ (pos 0 -ℤ c)) →
    dot_of (towards g f n c) f ≡ pos 0 →
    dot_of (plus (times m g) (times k (minus (times n f) (times c g)))) (plus (times m g) (times k (minus (times n f) (times c g)))) ≤ℤ (m *ℤ m *ℤ dot_of g g)
shrinks g f n c m k hn hc hk hm hs e =
    let tg = spot 0 in let tf = spot 3 in let tn = at 6 in let tc = at 7 in let tm = at 8 in let tk = at 9 in
    let te = tc ⊡ tg ⊟ tn ⊡ tf in
    let v = tm ⊡ tg ⊞ tk ⊡ (tn ⊡ tf ⊟ tc ⊡ tg) in
    let z : pos 0 ≤ℤ dot_of (towards g f n c) f = rw e (omega (arith, ints)) in
    let two : pos 0 ≤ℤ pos 2 = omega (arith, ints) in
    let q : pos 0 ≤ℤ c = omega (arith, ints) in
    certify (g.x ∷ g.y ∷ g.z ∷ f.x ∷ f.y ∷ f.z ∷ n ∷ c ∷ m ∷ k ∷ []) (tc ⊗ tc) (scalar v v) (tm ⊗ tm ⊗ scalar tg tg)
    (tk ⊗ tc ⊗ ((tm ⊗ lit (pos 1) ⊕ tk ⊗ (lit (pos 0) ⊖ tc)) ⊕ tm) ⊗ scalar te te ⊕ lit (pos 2) ⊗ tm ⊗ tn ⊗ tk ⊗ tc ⊗ scalar te tf)
    (mul_positive c c hc hc) refl
    (add_nonneg _ _
    (mul_nonneg _ _ (mul_nonneg _ _ (mul_nonneg _ _ hk q) (add_nonneg _ _ hs hm)) (length_nonneg (towards g f n c)))
    (mul_nonneg _ _ (mul_nonneg _ _ (mul_nonneg _ _ (mul_nonneg _ _ (mul_nonneg _ _ two hm) hn) hk) q) z))

-- ---- towards an aim
abbrev pub aim : Pose → Pose → Shift
aim w f = record { a2 = f.a2 *ℤ w.n -ℤ w.a2 *ℤ f.n; a3 = f.a3 *ℤ w.n -ℤ w.a3 *ℤ f.n; b2 = f.b2 *ℤ w.n -ℤ w.b2 *ℤ f.n; b3 = f.b3 *ℤ w.n -ℤ w.b3 *ℤ f.n }

aim_coordinate : (w f : Pose) (a b c p q r : ℤ) →
    (f.a2 *ℤ w.n -ℤ w.a2 *ℤ f.n) *ℤ (b -ℤ a) +ℤ (f.a3 *ℤ w.n -ℤ w.a3 *ℤ f.n) *ℤ (c -ℤ a) -ℤ ((f.b2 *ℤ w.n -ℤ w.b2 *ℤ f.n) *ℤ (q -ℤ p) +ℤ (f.b3 *ℤ w.n -ℤ w.b3 *ℤ f.n) *ℤ (r -ℤ p))
    ≡ w.n *ℤ ((f.n -ℤ f.a2 -ℤ f.a3) *ℤ a +ℤ f.a2 *ℤ b +ℤ f.a3 *ℤ c -ℤ ((f.n -ℤ f.b2 -ℤ f.b3) *ℤ p +ℤ f.b2 *ℤ q +ℤ f.b3 *ℤ r)) -ℤ f.n *ℤ ((w.n -ℤ w.a2 -ℤ w.a3) *ℤ a +ℤ w.a2 *ℤ b +ℤ w.a3 *ℤ c -ℤ ((w.n -ℤ w.b2 -ℤ w.b3) *ℤ p +ℤ w.b2 *ℤ q +ℤ w.b3 *ℤ r))
aim_coordinate w f a b c p q r =
    let n = at 0 in let w2 = at 1 in let w3 = at 2 in let v2 = at 3 in let v3 = at 4 in
    let fn = at 5 in let f2 = at 6 in let f3 = at 7 in let g2 = at 8 in let g3 = at 9 in
    let ta = at 10 in let tb = at 11 in let tc = at 12 in let tp = at 13 in let tq = at 14 in let tr = at 15 in
    ring (w.n ∷ w.a2 ∷ w.a3 ∷ w.b2 ∷ w.b3 ∷ f.n ∷ f.a2 ∷ f.a3 ∷ f.b2 ∷ f.b3 ∷ a ∷ b ∷ c ∷ p ∷ q ∷ r ∷ [])
    ((f2 ⊗ n ⊖ w2 ⊗ fn) ⊗ (tb ⊖ ta) ⊕ (f3 ⊗ n ⊖ w3 ⊗ fn) ⊗ (tc ⊖ ta) ⊖ ((g2 ⊗ n ⊖ v2 ⊗ fn) ⊗ (tq ⊖ tp) ⊕ (g3 ⊗ n ⊖ v3 ⊗ fn) ⊗ (tr ⊖ tp)))
    (n ⊗ ((fn ⊖ f2 ⊖ f3) ⊗ ta ⊕ f2 ⊗ tb ⊕ f3 ⊗ tc ⊖ ((fn ⊖ g2 ⊖ g3) ⊗ tp ⊕ g2 ⊗ tq ⊕ g3 ⊗ tr)) ⊖ fn ⊗ ((n ⊖ w2 ⊖ w3) ⊗ ta ⊕ w2 ⊗ tb ⊕ w3 ⊗ tc ⊖ ((n ⊖ v2 ⊖ v3) ⊗ tp ⊕ v2 ⊗ tq ⊕ v3 ⊗ tr)))
    refl

pub aim_drift : (t s : Face) (w f : Pose) → drift t s (aim w f) ≡ minus (times w.n (gap t s f)) (times f.n (gap t s w))
aim_drift t s w f =
    same_vector (drift t s (aim w f)) (minus (times w.n (gap t s f)) (times f.n (gap t s w)))
    (aim_coordinate w f t.a.x t.b.x t.c.x s.a.x s.b.x s.c.x)
    (aim_coordinate w f t.a.y t.b.y t.c.y s.a.y s.b.y s.c.y)
    (aim_coordinate w f t.a.z t.b.z t.c.z s.a.z s.b.z s.c.z)

-- k steps of the way, at most the whole of it
pub moved_towards : (t s : Face) (d : ℤ) (w f : Pose) (m k : ℤ) (c : IsClose t s d w) → pos 0 <ℤ m → pos 0 ≤ℤ k → pos 0 <ℤ f.n →
    pos 0 ≤ℤ (m *ℤ pos 1 +ℤ k *ℤ (pos 0 -ℤ f.n)) → dot_of (towards (gap t s w) (gap t s f) w.n f.n) (gap t s f) ≡ pos 0 → IsClose t s d (move m k w (aim w f))
moved_towards t s d w f m k c hm hk hh hs z =
    let g = gap t s w in
    let step = gap_moves t s m k w (aim w f) ∙ ap (λ (v : Vector). plus (times m g) (times k v)) (aim_drift t s w f) in
    moved t s d w (aim w f) m k c hm
    (subst (λ (v : Vector). dot_of v v ≤ℤ (m *ℤ m *ℤ dot_of g g)) (sym step)
    (let hn : pos 0 ≤ℤ w.n = omega (arith, ints, c.n_positive) in
    let hm' : pos 0 ≤ℤ m = omega (arith, ints) in
    shrinks g (gap t s f) w.n f.n m k hn hh hk hm' hs z))

add_zero : (x : ℤ) → x +ℤ pos 0 ≡ x
add_zero x = omega (arith, ints)

zero_times : (x : ℤ) → pos 0 ≤ℤ (x *ℤ pos 0)
zero_times x = omega (arith, ints)

-- at the end of the way a weight is k * n times the aim's
pub reached_weight : (m k h n w x : ℤ) → pos 0 <ℤ k → pos 0 <ℤ n → m *ℤ pos 1 +ℤ k *ℤ (pos 0 -ℤ h) ≡ pos 0 → pos 0 ≤ℤ (m *ℤ w +ℤ k *ℤ (x *ℤ n -ℤ w *ℤ h)) → pos 0 ≤ℤ x
reached_weight m k h n w x hk hn e b =
    let tm = at 0 in let tk = at 1 in let th = at 2 in let tn = at 3 in let tw = at 4 in let tx = at 5 in
    let z : pos 0 ≤ℤ ((pos 0 -ℤ w) *ℤ (m *ℤ pos 1 +ℤ k *ℤ (pos 0 -ℤ h))) = rw e (zero_times (pos 0 -ℤ w)) in
    certify (m ∷ k ∷ h ∷ n ∷ w ∷ x ∷ []) (tk ⊗ tn) (lit (pos 0)) tx
    ((tm ⊗ tw ⊕ tk ⊗ (tx ⊗ tn ⊖ tw ⊗ th)) ⊕ (lit (pos 0) ⊖ tw) ⊗ (tm ⊗ lit (pos 1) ⊕ tk ⊗ (lit (pos 0) ⊖ th)))
    (mul_positive k n hk hn) refl (add_nonneg _ _ b z)

-- so is the gap
reached_gap : (g f : Vector) (k h n d : ℤ) → pos 0 <ℤ k → pos 0 <ℤ n →
    dot_of (plus (times (k *ℤ h) g) (times k (minus (times n f) (times h g)))) (plus (times (k *ℤ h) g) (times k (minus (times n f) (times h g)))) ≤ℤ (d *ℤ (k *ℤ h *ℤ n *ℤ (k *ℤ h *ℤ n))) →
    dot_of f f ≤ℤ (d *ℤ (h *ℤ h))
reached_gap g f k h n d hk hn b =
    let tg = spot 0 in let tf = spot 3 in let tk = at 6 in let th = at 7 in let tn = at 8 in let td = at 9 in
    let v = tk ⊗ th ⊡ tg ⊞ tk ⊡ (tn ⊡ tf ⊟ th ⊡ tg) in
    let q : pos 0 <ℤ (k *ℤ n) = mul_positive k n hk hn in
    certify (g.x ∷ g.y ∷ g.z ∷ f.x ∷ f.y ∷ f.z ∷ k ∷ h ∷ n ∷ d ∷ []) (tk ⊗ tn ⊗ (tk ⊗ tn)) (scalar tf tf) (td ⊗ (th ⊗ th))
    (td ⊗ (tk ⊗ th ⊗ tn ⊗ (tk ⊗ th ⊗ tn)) ⊖ scalar v v)
    (mul_positive (k *ℤ n) (k *ℤ n) q q) refl (rest _ _ b)

whole_way : (m k h : ℤ) → m *ℤ pos 1 +ℤ k *ℤ (pos 0 -ℤ h) ≡ pos 0 → m ≡ k *ℤ h
whole_way m k h e = sym (ring (m ∷ k ∷ h ∷ []) (at 1 ⊗ at 2 ⊕ (at 0 ⊗ lit (pos 1) ⊕ at 1 ⊗ (lit (pos 0) ⊖ at 2))) (at 0) refl) ∙ ap (λ (z : ℤ). k *ℤ h +ℤ z) e ∙ add_zero (k *ℤ h)

some_step : (m k h : ℤ) → pos 0 <ℤ m → pos 0 ≤ℤ k → m ≡ k *ℤ h → pos 0 <ℤ k
some_step m (pos (suc k)) h hm hk e = omega (arith, ints)
some_step m (pos zero) h hm hk e = absurd (omega (arith, ints))
some_step m (negsuc k) h hm hk e = absurd (omega (arith, ints, hk))

-- the aim itself is close, where the whole way was gone
pub reached : (t s : Face) (d : ℤ) (w f : Pose) (m k : ℤ) → pos 0 <ℤ m → pos 0 ≤ℤ k → pos 0 <ℤ w.n → pos 0 <ℤ f.n →
    m *ℤ pos 1 +ℤ k *ℤ (pos 0 -ℤ f.n) ≡ pos 0 → IsClose t s d (move m k w (aim w f)) → (pos 0 <ℤ k) × IsClose t s d f
reached t s d w f m k hm hk hn hf e c =
    let whole = whole_way m k f.n e in
    let q = some_step m k f.n hm hk whole in
    let g = gap t s w in
    let step = gap_moves t s m k w (aim w f) ∙ ap (λ (v : Vector). plus (times m g) (times k v)) (aim_drift t s w f) in
    let b = subst (λ (v : Vector). dot_of v v ≤ℤ (d *ℤ (m *ℤ w.n *ℤ (m *ℤ w.n)))) step c.within in
    let b' = subst (λ (u : ℤ). dot_of (plus (times u g) (times k (minus (times w.n (gap t s f)) (times f.n g)))) (plus (times u g) (times k (minus (times w.n (gap t s f)) (times f.n g)))) ≤ℤ (d *ℤ (u *ℤ w.n *ℤ (u *ℤ w.n)))) whole b in
    (q, record { n_positive = hf; within = reached_gap g (gap t s f) k f.n w.n d q hn b' })
