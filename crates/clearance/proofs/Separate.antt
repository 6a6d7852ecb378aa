-- Two faces on the two sides of a gap across a direction are not near
use Rattle.std.proofs.Common.{ℕ, ◌≡◌, inl, inr, arith, ℤ, pos, ◌+ℤ◌, ◌-ℤ◌, ◌*ℤ◌, ◌≤ℤ◌, ◌<ℤ◌, refl, sym, subst, [], ◌∷◌}
use Rattle.std.proofs.lemmas.Int.{ints}
use Rattle.exact_arith.specs.Space.{Vector, minus, dot_of, Face, normal}
use Rattle.clearance.specs.Near.{FacesNear}
use Rattle.clearance.specs.inner.Planes.{Clear, IsClear}
use Rattle.exact_arith.proofs.Ring.{ring, at, lit, ◌⊕◌, ◌⊖◌, ◌⊗◌}
use Rattle.exact_arith.proofs.Triples.{spot, ◌⊞◌, ◌⊟◌, ◌⊡◌, scalar, crossed}
use Rattle.exact_arith.proofs.Order.{add_nonneg, mul_nonneg, mul_positive, certify, rest}
use Rattle.tri_exact.proofs.Pose.{Pose, gap, length_nonneg}
use Rattle.tri_exact.proofs.FootTest.{cauchy}
use Rattle.clearance.proofs.Gaps.{reach, near_swaps}
use Rattle.clearance.proofs.NearTest.{near_no}

-- the gap across v, by the corners' places across v
gap_across : (t s : Face) (w : Pose) (v : Vector) →
    (w.n -ℤ w.a2 -ℤ w.a3) *ℤ dot_of v t.a +ℤ w.a2 *ℤ dot_of v t.b +ℤ w.a3 *ℤ dot_of v t.c -ℤ ((w.n -ℤ w.b2 -ℤ w.b3) *ℤ dot_of v s.a +ℤ w.b2 *ℤ dot_of v s.b +ℤ w.b3 *ℤ dot_of v s.c) ≡ dot_of (gap t s w) v
gap_across t s w v =
    let tv = spot 0 in let ta = spot 3 in let tb = spot 6 in let tc = spot 9 in let sa = spot 12 in let sb = spot 15 in let sc = spot 18 in
    let n = at 21 in let a2 = at 22 in let a3 = at 23 in let b2 = at 24 in let b3 = at 25 in
    ring (v.x ∷ v.y ∷ v.z ∷ t.a.x ∷ t.a.y ∷ t.a.z ∷ t.b.x ∷ t.b.y ∷ t.b.z ∷ t.c.x ∷ t.c.y ∷ t.c.z ∷ s.a.x ∷ s.a.y ∷ s.a.z ∷ s.b.x ∷ s.b.y ∷ s.b.z ∷ s.c.x ∷ s.c.y ∷ s.c.z ∷ w.n ∷ w.a2 ∷ w.a3 ∷ w.b2 ∷ w.b3 ∷ [])
    ((n ⊖ a2 ⊖ a3) ⊗ scalar tv ta ⊕ a2 ⊗ scalar tv tb ⊕ a3 ⊗ scalar tv tc ⊖ ((n ⊖ b2 ⊖ b3) ⊗ scalar tv sa ⊕ b2 ⊗ scalar tv sb ⊕ b3 ⊗ scalar tv sc))
    (scalar (((n ⊖ a2 ⊖ a3) ⊡ ta ⊞ a2 ⊡ tb ⊞ a3 ⊡ tc) ⊟ ((n ⊖ b2 ⊖ b3) ⊡ sa ⊞ b2 ⊡ sb ⊞ b3 ⊡ sc)) tv) refl

two : pos 0 ≤ℤ pos 2
two = omega (arith, ints)

apart : (x y : ℤ) → x ≤ℤ y → y <ℤ x → ⊥
apart x y h k = omega (arith, ints)

-- a gap of at most d has at most the share d across v: f is the square of v, k that of the gap over n, g the gap across v
narrow : (n m d f g k : ℤ) → pos 0 <ℤ n → pos 0 ≤ℤ f → pos 0 <ℤ m → (n *ℤ m) ≤ℤ (pos 0 -ℤ g) → (g *ℤ g) ≤ℤ (k *ℤ f) → k ≤ℤ (d *ℤ (n *ℤ n)) → (m *ℤ m) ≤ℤ (d *ℤ f)
narrow n m d f g k hn hf hm h a b =
    let q : pos 0 ≤ℤ n = omega (arith, ints) in
    let hm' : pos 0 ≤ℤ m = omega (arith, ints) in
    let x = rest (n *ℤ m) (pos 0 -ℤ g) h in
    let tn = at 0 in let tm = at 1 in let td = at 2 in let tf = at 3 in let tg = at 4 in let tk = at 5 in
    let over = (lit (pos 0) ⊖ tg) ⊖ tn ⊗ tm in
    certify (n ∷ m ∷ d ∷ f ∷ g ∷ k ∷ []) (tn ⊗ tn) (tm ⊗ tm) (td ⊗ tf)
    (tf ⊗ (td ⊗ (tn ⊗ tn) ⊖ tk) ⊕ ((tk ⊗ tf ⊖ tg ⊗ tg) ⊕ over ⊗ (over ⊕ lit (pos 2) ⊗ (tn ⊗ tm))))
    (mul_positive n n hn hn) refl
    (add_nonneg _ _ (mul_nonneg _ _ hf (rest _ _ b)) (add_nonneg _ _ (rest _ _ a) (mul_nonneg _ _ x (add_nonneg _ _ x (mul_nonneg _ _ two (mul_nonneg _ _ q hm'))))))

pub separated : (t s : Face) (d : ℕ) (v : Vector) (hi lo : ℤ) → dot_of v t.a ≤ℤ hi → dot_of v t.b ≤ℤ hi → dot_of v t.c ≤ℤ hi → lo ≤ℤ dot_of v s.a → lo ≤ℤ dot_of v s.b → lo ≤ℤ dot_of v s.c →
    pos 0 <ℤ (lo -ℤ hi) → (pos d *ℤ pos d *ℤ dot_of v v) <ℤ ((lo -ℤ hi) *ℤ (lo -ℤ hi)) → FacesNear t s d → ⊥
separated t s d v hi lo ha hb hc hp hq hr hm far near =
    let c = near_no t s d near in let w = c.pose in let g = gap t s w in let m = lo -ℤ hi in
    let r = subst (λ (x : ℤ). (w.n *ℤ m) ≤ℤ (pos 0 -ℤ x)) (gap_across t s w v) (reach w (dot_of v t.a) (dot_of v t.b) (dot_of v t.c) (dot_of v s.a) (dot_of v s.b) (dot_of v s.c) hi lo c.nonneg ha hb hc hp hq hr) in
    apart (m *ℤ m) (pos d *ℤ pos d *ℤ dot_of v v) (narrow w.n m (pos d *ℤ pos d) (dot_of v v) (dot_of g v) (dot_of g g) c.close.n_positive (length_nonneg v) hm r (cauchy g v) c.close.within) far

-- ---- across a face's normal
level_b : (t : Face) → dot_of (normal t) t.b ≡ dot_of (normal t) t.a
level_b t =
    let a = spot 0 in let b = spot 3 in let c = spot 6 in let v = crossed (b ⊟ a) (c ⊟ a) in
    ring (t.a.x ∷ t.a.y ∷ t.a.z ∷ t.b.x ∷ t.b.y ∷ t.b.z ∷ t.c.x ∷ t.c.y ∷ t.c.z ∷ []) (scalar v b) (scalar v a) refl

level_c : (t : Face) → dot_of (normal t) t.c ≡ dot_of (normal t) t.a
level_c t =
    let a = spot 0 in let b = spot 3 in let c = spot 6 in let v = crossed (b ⊟ a) (c ⊟ a) in
    ring (t.a.x ∷ t.a.y ∷ t.a.z ∷ t.b.x ∷ t.b.y ∷ t.b.z ∷ t.c.x ∷ t.c.y ∷ t.c.z ∷ []) (scalar v c) (scalar v a) refl

pub height_apart : (v p a : Vector) → dot_of v p ≡ dot_of (minus p a) v +ℤ dot_of v a
height_apart v p a =
    ring (v.x ∷ v.y ∷ v.z ∷ p.x ∷ p.y ∷ p.z ∷ a.x ∷ a.y ∷ a.z ∷ []) (scalar (spot 0) (spot 3)) (scalar (spot 3 ⊟ spot 6) (spot 0) ⊕ scalar (spot 0) (spot 6)) refl

same_le : (x y : ℤ) → x ≡ y → x ≤ℤ y
same_le x y e = omega (arith, ints)

lifted : (l h x k : ℤ) → l ≤ℤ h → k ≡ h +ℤ x → (l +ℤ x) ≤ℤ k
lifted l h x k f e = omega (arith, ints)

over : (l x : ℤ) → l +ℤ x -ℤ x ≡ l
over l x = omega (arith, ints)

clear_above : (t s : Face) (d : ℕ) → Clear (dot_of (minus s.a t.a) (normal t)) (dot_of (minus s.b t.a) (normal t)) (dot_of (minus s.c t.a) (normal t)) (dot_of (normal t) (normal t)) d → FacesNear t s d → ⊥
clear_above t s d c near =
    let v = normal t in let x = dot_of v t.a in
    separated t s d v x (c.least +ℤ x) (same_le x x refl) (same_le _ _ (level_b t)) (same_le _ _ (level_c t))
    (lifted c.least (dot_of (minus s.a t.a) v) x (dot_of v s.a) c.a_in (height_apart v s.a t.a))
    (lifted c.least (dot_of (minus s.b t.a) v) x (dot_of v s.b) c.b_in (height_apart v s.b t.a))
    (lifted c.least (dot_of (minus s.c t.a) v) x (dot_of v s.c) c.c_in (height_apart v s.c t.a))
    (subst (λ (k : ℤ). pos 0 <ℤ k) (sym (over c.least x)) c.above)
    (subst (λ (k : ℤ). (pos d *ℤ pos d *ℤ dot_of v v) <ℤ (k *ℤ k)) (sym (over c.least x)) c.far) near

-- below: the same from the other face's side
sunk : (l h x k : ℤ) → l ≤ℤ (pos 0 -ℤ h) → k ≡ h +ℤ x → k ≤ℤ (x -ℤ l)
sunk l h x k f e = omega (arith, ints)

under : (l x : ℤ) → x -ℤ (x -ℤ l) ≡ l
under l x = omega (arith, ints)

clear_below : (t s : Face) (d : ℕ) → Clear (pos 0 -ℤ dot_of (minus s.a t.a) (normal t)) (pos 0 -ℤ dot_of (minus s.b t.a) (normal t)) (pos 0 -ℤ dot_of (minus s.c t.a) (normal t)) (dot_of (normal t) (normal t)) d → FacesNear t s d → ⊥
clear_below t s d c near =
    let v = normal t in let x = dot_of v t.a in
    separated s t d v (x -ℤ c.least) x
    (sunk c.least (dot_of (minus s.a t.a) v) x (dot_of v s.a) c.a_in (height_apart v s.a t.a))
    (sunk c.least (dot_of (minus s.b t.a) v) x (dot_of v s.b) c.b_in (height_apart v s.b t.a))
    (sunk c.least (dot_of (minus s.c t.a) v) x (dot_of v s.c) c.c_in (height_apart v s.c t.a))
    (same_le x x refl) (same_le _ _ (sym (level_b t))) (same_le _ _ (sym (level_c t)))
    (subst (λ (k : ℤ). pos 0 <ℤ k) (sym (under c.least x)) c.above)
    (subst (λ (k : ℤ). (pos d *ℤ pos d *ℤ dot_of v v) <ℤ (k *ℤ k)) (sym (under c.least x)) c.far) (near_swaps t s d near)

pub clear_far : (t s : Face) (d : ℕ) → IsClear (dot_of (minus s.a t.a) (normal t)) (dot_of (minus s.b t.a) (normal t)) (dot_of (minus s.c t.a) (normal t)) (dot_of (normal t) (normal t)) d → FacesNear t s d → ⊥
clear_far t s d (inl c) near = clear_above t s d c near
clear_far t s d (inr c) near = clear_below t s d c near
