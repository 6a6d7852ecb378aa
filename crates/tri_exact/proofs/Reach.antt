-- The gap at the foot of a point on a plane, and at the least distance of two lines
use Rattle.std.proofs.Common.{◌≡◌, arith, ℤ, pos, ◌+ℤ◌, ◌-ℤ◌, ◌*ℤ◌, refl, sym, ap, ◌∙◌, subst, [], ◌∷◌}
use Rattle.std.proofs.lemmas.Int.{ints}
use Rattle.exact_arith.specs.Space.{Vector, plus, minus, times, dot_of, cross_of, Face}
use Rattle.tri_exact.specs.Foot.{square_of, along_of, across_of, height_of}
use Rattle.exact_arith.proofs.Ring.{ring, at, lit, ◌⊕◌, ◌⊖◌, ◌⊗◌}
use Rattle.exact_arith.proofs.Triples.{spot, ◌⊞◌, ◌⊟◌, ◌⊡◌, scalar, crossed}
use Rattle.tri_exact.proofs.Pose.{same_vector, towards, Pose, gap}

zero_and : (x : ℤ) → pos 0 +ℤ x ≡ x
zero_and x = omega (arith, ints)

-- the gap to a plane with the normal v has no part along it but the height
flat_with : (e u r v : Vector) (a b n : ℤ) → let g = minus (plus (times a e) (times b u)) (times n r) in let f = times (pos 0 -ℤ dot_of r v) v in
    dot_of (towards g f n (dot_of v v)) f ≡ (pos 0 -ℤ dot_of r v) *ℤ dot_of v v *ℤ (a *ℤ dot_of e v +ℤ b *ℤ dot_of u v)
flat_with e u r v a b n =
    let te = spot 0 in let tu = spot 3 in let tr = spot 6 in let tv = spot 9 in let ta = at 12 in let tb = at 13 in let tn = at 14 in
    let g = ta ⊡ te ⊞ tb ⊡ tu ⊟ tn ⊡ tr in
    let h = lit (pos 0) ⊖ scalar tr tv in
    let f = h ⊡ tv in
    ring (e.x ∷ e.y ∷ e.z ∷ u.x ∷ u.y ∷ u.z ∷ r.x ∷ r.y ∷ r.z ∷ v.x ∷ v.y ∷ v.z ∷ a ∷ b ∷ n ∷ [])
    (scalar (scalar tv tv ⊡ g ⊟ tn ⊡ f) f) (h ⊗ scalar tv tv ⊗ (ta ⊗ scalar te tv ⊕ tb ⊗ scalar tu tv)) refl

pub upright_first : (e u : Vector) → dot_of e (cross_of e u) ≡ pos 0
upright_first e u = ring (e.x ∷ e.y ∷ e.z ∷ u.x ∷ u.y ∷ u.z ∷ []) (scalar (spot 0) (crossed (spot 0) (spot 3))) (lit (pos 0)) refl

pub upright_second : (e u : Vector) → dot_of u (cross_of e u) ≡ pos 0
upright_second e u = ring (e.x ∷ e.y ∷ e.z ∷ u.x ∷ u.y ∷ u.z ∷ []) (scalar (spot 3) (crossed (spot 0) (spot 3))) (lit (pos 0)) refl

none_left : (x a b p q : ℤ) → p ≡ pos 0 → q ≡ pos 0 → x *ℤ (a *ℤ p +ℤ b *ℤ q) ≡ pos 0
none_left x a b p q e f = rw (e, f) (ring (x ∷ a ∷ b ∷ []) (at 0 ⊗ (at 1 ⊗ lit (pos 0) ⊕ at 2 ⊗ lit (pos 0))) (lit (pos 0)) refl)

pub flat : (e u r : Vector) (a b n : ℤ) → let v = cross_of e u in let g = minus (plus (times a e) (times b u)) (times n r) in let f = times (pos 0 -ℤ dot_of r v) v in
    dot_of (towards g f n (dot_of v v)) f ≡ pos 0
flat e u r a b n =
    let v = cross_of e u in
    flat_with e u r v a b n ∙ none_left ((pos 0 -ℤ dot_of r v) *ℤ dot_of v v) a b (dot_of e v) (dot_of u v) (upright_first e u) (upright_second e u)

-- ---- a vector in the plane's own directions
pub split_x : (e u r : Vector) → along_of e u r *ℤ e.x +ℤ across_of e u r *ℤ u.x +ℤ height_of e u r *ℤ (cross_of e u).x -ℤ square_of e u *ℤ r.x ≡ pos 0
split_x e u r =
    let a = spot 0 in let b = spot 3 in let c = spot 6 in let v = crossed a b in
    ring (e.x ∷ e.y ∷ e.z ∷ u.x ∷ u.y ∷ u.z ∷ r.x ∷ r.y ∷ r.z ∷ []) (scalar (crossed c b) v ⊗ a.x ⊕ scalar (crossed a c) v ⊗ b.x ⊕ scalar c v ⊗ v.x ⊖ scalar v v ⊗ c.x) (lit (pos 0)) refl

pub split_y : (e u r : Vector) → along_of e u r *ℤ e.y +ℤ across_of e u r *ℤ u.y +ℤ height_of e u r *ℤ (cross_of e u).y -ℤ square_of e u *ℤ r.y ≡ pos 0
split_y e u r =
    let a = spot 0 in let b = spot 3 in let c = spot 6 in let v = crossed a b in
    ring (e.x ∷ e.y ∷ e.z ∷ u.x ∷ u.y ∷ u.z ∷ r.x ∷ r.y ∷ r.z ∷ []) (scalar (crossed c b) v ⊗ a.y ⊕ scalar (crossed a c) v ⊗ b.y ⊕ scalar c v ⊗ v.y ⊖ scalar v v ⊗ c.y) (lit (pos 0)) refl

pub split_z : (e u r : Vector) → along_of e u r *ℤ e.z +ℤ across_of e u r *ℤ u.z +ℤ height_of e u r *ℤ (cross_of e u).z -ℤ square_of e u *ℤ r.z ≡ pos 0
split_z e u r =
    let a = spot 0 in let b = spot 3 in let c = spot 6 in let v = crossed a b in
    ring (e.x ∷ e.y ∷ e.z ∷ u.x ∷ u.y ∷ u.z ∷ r.x ∷ r.y ∷ r.z ∷ []) (scalar (crossed c b) v ⊗ a.z ⊕ scalar (crossed a c) v ⊗ b.z ⊕ scalar c v ⊗ v.z ⊖ scalar v v ⊗ c.z) (lit (pos 0)) refl

-- ---- the aim: the foot of the corner a of s on t, or the nearest points of the lines ab of t and ab of s
abbrev pub foot_pose : Face → Vector → Pose
foot_pose t q =
    let e = minus t.b t.a in let u = minus t.c t.a in let r = minus q t.a in
    record { n = square_of e u; a2 = along_of e u r; a3 = across_of e u r; b2 = pos 0; b3 = pos 0 }

abbrev pub lines_pose : Vector → Vector → Vector → Vector → Pose
lines_pose a b p q =
    let e = minus b a in let u = minus q p in let r = minus p a in
    record { n = square_of e u; a2 = along_of e u r; a3 = pos 0; b2 = pos 0 -ℤ across_of e u r; b3 = pos 0 }

foot_coordinate : (n x y h a b c q s t v : ℤ) → x *ℤ (b -ℤ a) +ℤ y *ℤ (c -ℤ a) +ℤ h *ℤ v -ℤ n *ℤ (q -ℤ a) ≡ pos 0 →
    (n -ℤ x -ℤ y) *ℤ a +ℤ x *ℤ b +ℤ y *ℤ c -ℤ ((n -ℤ pos 0 -ℤ pos 0) *ℤ q +ℤ pos 0 *ℤ s +ℤ pos 0 *ℤ t) ≡ (pos 0 -ℤ h) *ℤ v
foot_coordinate n x y h a b c q s t v e =
    let tn = at 0 in let tx = at 1 in let ty = at 2 in let th = at 3 in let ta = at 4 in let tb = at 5 in let tc = at 6 in let tq = at 7 in let ts = at 8 in let tt' = at 9 in let tv = at 10 in let o = lit (pos 0) in
    ring (n ∷ x ∷ y ∷ h ∷ a ∷ b ∷ c ∷ q ∷ s ∷ t ∷ v ∷ []) ((tn ⊖ tx ⊖ ty) ⊗ ta ⊕ tx ⊗ tb ⊕ ty ⊗ tc ⊖ ((tn ⊖ o ⊖ o) ⊗ tq ⊕ o ⊗ ts ⊕ o ⊗ tt'))
    ((tx ⊗ (tb ⊖ ta) ⊕ ty ⊗ (tc ⊖ ta) ⊕ th ⊗ tv ⊖ tn ⊗ (tq ⊖ ta)) ⊕ (o ⊖ th) ⊗ tv) refl
    ∙ ap (λ (z : ℤ). z +ℤ (pos 0 -ℤ h) *ℤ v) e ∙ zero_and ((pos 0 -ℤ h) *ℤ v)

pub foot_gap : (t s : Face) → gap t s (foot_pose t s.a) ≡ times (pos 0 -ℤ height_of (minus t.b t.a) (minus t.c t.a) (minus s.a t.a)) (cross_of (minus t.b t.a) (minus t.c t.a))
foot_gap t s =
    let e = minus t.b t.a in let u = minus t.c t.a in let r = minus s.a t.a in let n = square_of e u in let x = along_of e u r in let y = across_of e u r in let h = height_of e u r in
    same_vector (gap t s (foot_pose t s.a)) (times (pos 0 -ℤ h) (cross_of e u))
    (foot_coordinate n x y h t.a.x t.b.x t.c.x s.a.x s.b.x s.c.x (cross_of e u).x (split_x e u r))
    (foot_coordinate n x y h t.a.y t.b.y t.c.y s.a.y s.b.y s.c.y (cross_of e u).y (split_y e u r))
    (foot_coordinate n x y h t.a.z t.b.z t.c.z s.a.z s.b.z s.c.z (cross_of e u).z (split_z e u r))

lines_coordinate : (n x y h a b c p q s v : ℤ) → x *ℤ (b -ℤ a) +ℤ y *ℤ (q -ℤ p) +ℤ h *ℤ v -ℤ n *ℤ (p -ℤ a) ≡ pos 0 →
    (n -ℤ x -ℤ pos 0) *ℤ a +ℤ x *ℤ b +ℤ pos 0 *ℤ c -ℤ ((n -ℤ (pos 0 -ℤ y) -ℤ pos 0) *ℤ p +ℤ (pos 0 -ℤ y) *ℤ q +ℤ pos 0 *ℤ s) ≡ (pos 0 -ℤ h) *ℤ v
lines_coordinate n x y h a b c p q s v e =
    let tn = at 0 in let tx = at 1 in let ty = at 2 in let th = at 3 in let ta = at 4 in let tb = at 5 in let tc = at 6 in let tp = at 7 in let tq = at 8 in let ts = at 9 in let tv = at 10 in let o = lit (pos 0) in
    ring (n ∷ x ∷ y ∷ h ∷ a ∷ b ∷ c ∷ p ∷ q ∷ s ∷ v ∷ []) ((tn ⊖ tx ⊖ o) ⊗ ta ⊕ tx ⊗ tb ⊕ o ⊗ tc ⊖ ((tn ⊖ (o ⊖ ty) ⊖ o) ⊗ tp ⊕ (o ⊖ ty) ⊗ tq ⊕ o ⊗ ts))
    ((tx ⊗ (tb ⊖ ta) ⊕ ty ⊗ (tq ⊖ tp) ⊕ th ⊗ tv ⊖ tn ⊗ (tp ⊖ ta)) ⊕ (o ⊖ th) ⊗ tv) refl
    ∙ ap (λ (z : ℤ). z +ℤ (pos 0 -ℤ h) *ℤ v) e ∙ zero_and ((pos 0 -ℤ h) *ℤ v)

pub lines_gap : (t s : Face) → gap t s (lines_pose t.a t.b s.a s.b) ≡ times (pos 0 -ℤ height_of (minus t.b t.a) (minus s.b s.a) (minus s.a t.a)) (cross_of (minus t.b t.a) (minus s.b s.a))
lines_gap t s =
    let e = minus t.b t.a in let u = minus s.b s.a in let r = minus s.a t.a in let n = square_of e u in let x = along_of e u r in let y = across_of e u r in let h = height_of e u r in
    same_vector (gap t s (lines_pose t.a t.b s.a s.b)) (times (pos 0 -ℤ h) (cross_of e u))
    (lines_coordinate n x y h t.a.x t.b.x t.c.x s.a.x s.b.x s.c.x (cross_of e u).x (split_x e u r))
    (lines_coordinate n x y h t.a.y t.b.y t.c.y s.a.y s.b.y s.c.y (cross_of e u).y (split_y e u r))
    (lines_coordinate n x y h t.a.z t.b.z t.c.z s.a.z s.b.z s.c.z (cross_of e u).z (split_z e u r))

-- ---- the pose's gap in the same directions
from_corner : (n x y a b c q s t : ℤ) → (n -ℤ x -ℤ y) *ℤ a +ℤ x *ℤ b +ℤ y *ℤ c -ℤ ((n -ℤ pos 0 -ℤ pos 0) *ℤ q +ℤ pos 0 *ℤ s +ℤ pos 0 *ℤ t) ≡ x *ℤ (b -ℤ a) +ℤ y *ℤ (c -ℤ a) -ℤ n *ℤ (q -ℤ a)
from_corner n x y a b c q s t =
    let tn = at 0 in let tx = at 1 in let ty = at 2 in let ta = at 3 in let tb = at 4 in let tc = at 5 in let tq = at 6 in let ts = at 7 in let tt' = at 8 in let o = lit (pos 0) in
    ring (n ∷ x ∷ y ∷ a ∷ b ∷ c ∷ q ∷ s ∷ t ∷ []) ((tn ⊖ tx ⊖ ty) ⊗ ta ⊕ tx ⊗ tb ⊕ ty ⊗ tc ⊖ ((tn ⊖ o ⊖ o) ⊗ tq ⊕ o ⊗ ts ⊕ o ⊗ tt')) (tx ⊗ (tb ⊖ ta) ⊕ ty ⊗ (tc ⊖ ta) ⊖ tn ⊗ (tq ⊖ ta)) refl

pub corner_gap : (t s : Face) (n x y : ℤ) → gap t s (record { n = n; a2 = x; a3 = y; b2 = pos 0; b3 = pos 0 }) ≡ minus (plus (times x (minus t.b t.a)) (times y (minus t.c t.a))) (times n (minus s.a t.a))
corner_gap t s n x y =
    same_vector (gap t s (record { n = n; a2 = x; a3 = y; b2 = pos 0; b3 = pos 0 })) (minus (plus (times x (minus t.b t.a)) (times y (minus t.c t.a))) (times n (minus s.a t.a)))
    (from_corner n x y t.a.x t.b.x t.c.x s.a.x s.b.x s.c.x)
    (from_corner n x y t.a.y t.b.y t.c.y s.a.y s.b.y s.c.y)
    (from_corner n x y t.a.z t.b.z t.c.z s.a.z s.b.z s.c.z)

from_edges : (n x y a b c p q s : ℤ) → (n -ℤ x -ℤ pos 0) *ℤ a +ℤ x *ℤ b +ℤ pos 0 *ℤ c -ℤ ((n -ℤ y -ℤ pos 0) *ℤ p +ℤ y *ℤ q +ℤ pos 0 *ℤ s) ≡ x *ℤ (b -ℤ a) +ℤ (pos 0 -ℤ y) *ℤ (q -ℤ p) -ℤ n *ℤ (p -ℤ a)
from_edges n x y a b c p q s =
    let tn = at 0 in let tx = at 1 in let ty = at 2 in let ta = at 3 in let tb = at 4 in let tc = at 5 in let tp = at 6 in let tq = at 7 in let ts = at 8 in let o = lit (pos 0) in
    ring (n ∷ x ∷ y ∷ a ∷ b ∷ c ∷ p ∷ q ∷ s ∷ []) ((tn ⊖ tx ⊖ o) ⊗ ta ⊕ tx ⊗ tb ⊕ o ⊗ tc ⊖ ((tn ⊖ ty ⊖ o) ⊗ tp ⊕ ty ⊗ tq ⊕ o ⊗ ts)) (tx ⊗ (tb ⊖ ta) ⊕ (o ⊖ ty) ⊗ (tq ⊖ tp) ⊖ tn ⊗ (tp ⊖ ta)) refl

pub edges_gap : (t s : Face) (n x y : ℤ) → gap t s (record { n = n; a2 = x; a3 = pos 0; b2 = y; b3 = pos 0 }) ≡ minus (plus (times x (minus t.b t.a)) (times (pos 0 -ℤ y) (minus s.b s.a))) (times n (minus s.a t.a))
edges_gap t s n x y =
    same_vector (gap t s (record { n = n; a2 = x; a3 = pos 0; b2 = y; b3 = pos 0 })) (minus (plus (times x (minus t.b t.a)) (times (pos 0 -ℤ y) (minus s.b s.a))) (times n (minus s.a t.a)))
    (from_edges n x y t.a.x t.b.x t.c.x s.a.x s.b.x s.c.x)
    (from_edges n x y t.a.y t.b.y t.c.y s.a.y s.b.y s.c.y)
    (from_edges n x y t.a.z t.b.z t.c.z s.a.z s.b.z s.c.z)

aimed : (g h f k : Vector) (n m : ℤ) → g ≡ h → f ≡ k → dot_of (towards h k n m) k ≡ pos 0 → dot_of (towards g f n m) f ≡ pos 0
aimed g h f k n m e e' z =
    subst (λ (v : Vector). dot_of (towards v f n m) f ≡ pos 0) (sym e) (subst (λ (v : Vector). dot_of (towards h v n m) v ≡ pos 0) (sym e') z)

-- a pose and its aim stand as `flat` says
pub foot_aims : (t s : Face) (n x y : ℤ) → let w : Pose = record { n = n; a2 = x; a3 = y; b2 = pos 0; b3 = pos 0 } in let f = foot_pose t s.a in
    dot_of (towards (gap t s w) (gap t s f) n f.n) (gap t s f) ≡ pos 0
foot_aims t s n x y =
    let e = minus t.b t.a in let u = minus t.c t.a in let r = minus s.a t.a in
    aimed _ _ _ _ n (square_of e u) (corner_gap t s n x y) (foot_gap t s) (flat e u r x y n)

pub lines_aim : (t s : Face) (n x y : ℤ) → let w : Pose = record { n = n; a2 = x; a3 = pos 0; b2 = y; b3 = pos 0 } in let f = lines_pose t.a t.b s.a s.b in
    dot_of (towards (gap t s w) (gap t s f) n f.n) (gap t s f) ≡ pos 0
lines_aim t s n x y =
    let e = minus t.b t.a in let u = minus s.b s.a in let r = minus s.a t.a in
    aimed _ _ _ _ n (square_of e u) (edges_gap t s n x y) (lines_gap t s) (flat e u r x (pos 0 -ℤ y) n)
