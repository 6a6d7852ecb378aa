-- The foot of a point in a face: its numbers say exactly what its weights say
use Rattle.std.proofs.Common.{ℕ, ◌≡◌, arith, ℤ, pos, negsuc, ◌+ℤ◌, ◌-ℤ◌, ◌*ℤ◌, ◌≤ℤ◌, ◌<ℤ◌, refl, sym, ap, ◌∙◌, subst, [], ◌∷◌}
use Rattle.std.proofs.lemmas.Int.{ints}
use Rattle.exact_arith.specs.Space.{Vector, plus, minus, times, dot_of, cross_of, Face}
use Rattle.tri_exact.specs.Within.{mix3, HasArea, FootWithin}
use Rattle.tri_exact.specs.Foot.{square_of, along_of, across_of, height_of}
use Rattle.exact_arith.proofs.Ring.{ring, at, lit, ◌⊕◌, ◌⊖◌, ◌⊗◌}
use Rattle.exact_arith.proofs.Triples.{spot, ◌⊞◌, ◌⊟◌, ◌⊡◌, scalar, crossed}
use Rattle.exact_arith.proofs.Order.{add_nonneg, mul_nonneg, mul_positive, certify, rest}
use Rattle.tri_exact.proofs.Pose.{same_vector, length_nonneg}
use Rattle.tri_exact.proofs.Reach.{split_x, split_y, split_z, upright_first, upright_second}
use Rattle.tri_exact.proofs.TwoFaces.{FootClose}

-- ---- from the numbers to weights
foot_weights : (p : Vector) (t : Face) (d : ℕ) (x y z : ℤ) → pos 0 ≤ℤ x → pos 0 ≤ℤ y → pos 0 ≤ℤ z → pos 0 <ℤ (x +ℤ y +ℤ z) →
    let g = minus (times (x +ℤ y +ℤ z) p) (mix3 t x y z) in dot_of g (minus t.b t.a) ≡ pos 0 → dot_of g (minus t.c t.a) ≡ pos 0 →
    dot_of g g ≤ℤ (pos d *ℤ pos d *ℤ ((x +ℤ y +ℤ z) *ℤ (x +ℤ y +ℤ z))) → FootWithin p t d
unfolding FootWithin
foot_weights p t d (pos i) (pos j) (pos k) hx hy hz hs e f h = (i, j, k, omega (arith, ints, hs), e, f, h)
foot_weights p t d (pos i) (pos j) (negsuc k) hx hy hz hs e f h = absurd (omega (arith, ints, hz))
foot_weights p t d (pos i) (negsuc j) z hx hy hz hs e f h = absurd (omega (arith, ints, hy))
foot_weights p t d (negsuc i) y z hx hy hz hs e f h = absurd (omega (arith, ints, hx))

less_zero : (x : ℤ) → x -ℤ pos 0 ≡ x
less_zero x = omega (arith, ints)

times_zero : (x : ℤ) → x *ℤ pos 0 ≡ pos 0
times_zero x = omega (arith, ints)

natural : (n : ℕ) → pos 0 ≤ℤ pos n
natural n = omega (arith, ints)

way_coordinate : (n x y h a b c q v : ℤ) → x *ℤ (b -ℤ a) +ℤ y *ℤ (c -ℤ a) +ℤ h *ℤ v -ℤ n *ℤ (q -ℤ a) ≡ pos 0 → (n -ℤ x -ℤ y +ℤ x +ℤ y) *ℤ q -ℤ ((n -ℤ x -ℤ y) *ℤ a +ℤ x *ℤ b +ℤ y *ℤ c) ≡ h *ℤ v
way_coordinate n x y h a b c q v e =
    let tn = at 0 in let tx = at 1 in let ty = at 2 in let th = at 3 in let ta = at 4 in let tb = at 5 in let tc = at 6 in let tq = at 7 in let tv = at 8 in
    ring (n ∷ x ∷ y ∷ h ∷ a ∷ b ∷ c ∷ q ∷ v ∷ []) ((tn ⊖ tx ⊖ ty ⊕ tx ⊕ ty) ⊗ tq ⊖ ((tn ⊖ tx ⊖ ty) ⊗ ta ⊕ tx ⊗ tb ⊕ ty ⊗ tc)) (th ⊗ tv ⊖ (tx ⊗ (tb ⊖ ta) ⊕ ty ⊗ (tc ⊖ ta) ⊕ th ⊗ tv ⊖ tn ⊗ (tq ⊖ ta))) refl
    ∙ ap (λ (z : ℤ). h *ℤ v -ℤ z) e ∙ less_zero (h *ℤ v)

upright_times : (h : ℤ) (v e : Vector) → dot_of e v ≡ pos 0 → dot_of (times h v) e ≡ pos 0
upright_times h v e z =
    ring (h ∷ v.x ∷ v.y ∷ v.z ∷ e.x ∷ e.y ∷ e.z ∷ []) (scalar (at 0 ⊡ spot 1) (spot 4)) (at 0 ⊗ scalar (spot 4) (spot 1)) refl ∙ ap (λ (x : ℤ). h *ℤ x) z ∙ times_zero h

sum_back : (n x y : ℤ) → n -ℤ x -ℤ y +ℤ x +ℤ y ≡ n
sum_back n x y = omega (arith, ints)

pub low_square : (h d : ℤ) (v : Vector) → (h *ℤ h) ≤ℤ (d *ℤ dot_of v v) → dot_of (times h v) (times h v) ≤ℤ (d *ℤ (dot_of v v *ℤ dot_of v v))
low_square h d v k =
    let f = length_nonneg v in
    certify (h ∷ d ∷ v.x ∷ v.y ∷ v.z ∷ []) (lit (pos 1)) (scalar (at 0 ⊡ spot 2) (at 0 ⊡ spot 2)) (at 1 ⊗ (scalar (spot 2) (spot 2) ⊗ scalar (spot 2) (spot 2))) (scalar (spot 2) (spot 2) ⊗ (at 1 ⊗ scalar (spot 2) (spot 2) ⊖ at 0 ⊗ at 0))
    (omega (arith, ints)) refl (mul_nonneg _ _ f (rest _ _ k))

pub foot_yes : (p : Vector) (t : Face) (d : ℕ) → FootClose p t (pos d *ℤ pos d) → FootWithin p t d
foot_yes p t d c =
    let e = minus t.b t.a in let u = minus t.c t.a in let r = minus p t.a in
    let n = square_of e u in let x = along_of e u r in let y = across_of e u r in let h = height_of e u r in let v = cross_of e u in
    let w = n -ℤ x -ℤ y in
    let g : minus (times (w +ℤ x +ℤ y) p) (mix3 t w x y) ≡ times h v = same_vector (minus (times (w +ℤ x +ℤ y) p) (mix3 t w x y)) (times h v)
    (way_coordinate n x y h t.a.x t.b.x t.c.x p.x v.x (split_x e u r)) (way_coordinate n x y h t.a.y t.b.y t.c.y p.y v.y (split_y e u r)) (way_coordinate n x y h t.a.z t.b.z t.c.z p.z v.z (split_z e u r)) in
    foot_weights p t d w x y c.a_in c.b_in c.c_in (subst (λ (k : ℤ). pos 0 <ℤ k) (sym (sum_back n x y)) c.area)
    (ap (λ (k : Vector). dot_of k e) g ∙ upright_times h v e (upright_first e u))
    (ap (λ (k : Vector). dot_of k u) g ∙ upright_times h v u (upright_second e u))
    (subst (λ (k : Vector). dot_of k k ≤ℤ (pos d *ℤ pos d *ℤ ((w +ℤ x +ℤ y) *ℤ (w +ℤ x +ℤ y)))) (sym g)
    (subst (λ (k : ℤ). dot_of (times h v) (times h v) ≤ℤ (pos d *ℤ pos d *ℤ (k *ℤ k))) (sym (sum_back n x y)) (low_square h (pos d *ℤ pos d) v c.low)))

-- ---- from weights to the numbers
pub binet_first : (e u g : Vector) → along_of e u g ≡ dot_of g e *ℤ dot_of u u -ℤ dot_of g u *ℤ dot_of e u
binet_first e u g =
    let a = spot 0 in let b = spot 3 in let c = spot 6 in
    ring (e.x ∷ e.y ∷ e.z ∷ u.x ∷ u.y ∷ u.z ∷ g.x ∷ g.y ∷ g.z ∷ []) (scalar (crossed c b) (crossed a b)) (scalar c a ⊗ scalar b b ⊖ scalar c b ⊗ scalar a b) refl

pub binet_second : (e u g : Vector) → across_of e u g ≡ dot_of g u *ℤ dot_of e e -ℤ dot_of g e *ℤ dot_of e u
binet_second e u g =
    let a = spot 0 in let b = spot 3 in let c = spot 6 in
    ring (e.x ∷ e.y ∷ e.z ∷ u.x ∷ u.y ∷ u.z ∷ g.x ∷ g.y ∷ g.z ∷ []) (scalar (crossed a c) (crossed a b)) (scalar c b ⊗ scalar a a ⊖ scalar c a ⊗ scalar a b) refl

-- g = n * r - j * e - k * u
abbrev part : Vector → Vector → Vector → ℤ → ℤ → ℤ → Vector
part e u r n j k = minus (times n r) (plus (times j e) (times k u))

along_part : (e u r : Vector) (n j k : ℤ) → along_of e u (part e u r n j k) ≡ n *ℤ along_of e u r -ℤ j *ℤ square_of e u
along_part e u r n j k =
    let a = spot 0 in let b = spot 3 in let c = spot 6 in let g = at 9 ⊡ c ⊟ (at 10 ⊡ a ⊞ at 11 ⊡ b) in
    ring (e.x ∷ e.y ∷ e.z ∷ u.x ∷ u.y ∷ u.z ∷ r.x ∷ r.y ∷ r.z ∷ n ∷ j ∷ k ∷ []) (scalar (crossed g b) (crossed a b)) (at 9 ⊗ scalar (crossed c b) (crossed a b) ⊖ at 10 ⊗ scalar (crossed a b) (crossed a b)) refl

across_part : (e u r : Vector) (n j k : ℤ) → across_of e u (part e u r n j k) ≡ n *ℤ across_of e u r -ℤ k *ℤ square_of e u
across_part e u r n j k =
    let a = spot 0 in let b = spot 3 in let c = spot 6 in let g = at 9 ⊡ c ⊟ (at 10 ⊡ a ⊞ at 11 ⊡ b) in
    ring (e.x ∷ e.y ∷ e.z ∷ u.x ∷ u.y ∷ u.z ∷ r.x ∷ r.y ∷ r.z ∷ n ∷ j ∷ k ∷ []) (scalar (crossed a g) (crossed a b)) (at 9 ⊗ scalar (crossed a c) (crossed a b) ⊖ at 11 ⊗ scalar (crossed a b) (crossed a b)) refl

height_part : (e u r : Vector) (n j k : ℤ) → height_of e u (part e u r n j k) ≡ n *ℤ height_of e u r
height_part e u r n j k =
    let a = spot 0 in let b = spot 3 in let c = spot 6 in let g = at 9 ⊡ c ⊟ (at 10 ⊡ a ⊞ at 11 ⊡ b) in
    ring (e.x ∷ e.y ∷ e.z ∷ u.x ∷ u.y ∷ u.z ∷ r.x ∷ r.y ∷ r.z ∷ n ∷ j ∷ k ∷ []) (scalar g (crossed a b)) (at 9 ⊗ scalar c (crossed a b)) refl

none_of_two : (a b p q : ℤ) → p ≡ pos 0 → q ≡ pos 0 → p *ℤ a -ℤ q *ℤ b ≡ pos 0
none_of_two a b p q e f = rw (e, f) (omega (arith, ints))

-- g * v squared is at most the product of the squares
pub cauchy : (g v : Vector) → (dot_of g v *ℤ dot_of g v) ≤ℤ (dot_of g g *ℤ dot_of v v)
cauchy g v =
    let a = spot 0 in let b = spot 3 in
    certify (g.x ∷ g.y ∷ g.z ∷ v.x ∷ v.y ∷ v.z ∷ []) (lit (pos 1)) (scalar a b ⊗ scalar a b) (scalar a a ⊗ scalar b b) (scalar (crossed a b) (crossed a b)) (omega (arith, ints)) refl (length_nonneg (cross_of g v))

weight_in : (n f j x : ℤ) → pos 0 <ℤ n → pos 0 ≤ℤ f → pos 0 ≤ℤ j → n *ℤ x -ℤ j *ℤ f ≡ pos 0 → pos 0 ≤ℤ x
weight_in n f j x hn hf hj e =
    let z : pos 0 ≤ℤ (n *ℤ x -ℤ j *ℤ f) = rw e (omega (arith, ints)) in
    certify (n ∷ f ∷ j ∷ x ∷ []) (at 0) (lit (pos 0)) (at 3) ((at 0 ⊗ at 3 ⊖ at 2 ⊗ at 1) ⊕ at 2 ⊗ at 1) hn refl (add_nonneg _ _ z (mul_nonneg _ _ hj hf))

last_in : (i j k f x y : ℤ) → pos 0 <ℤ (i +ℤ j +ℤ k) → pos 0 ≤ℤ i → pos 0 ≤ℤ f → (i +ℤ j +ℤ k) *ℤ x -ℤ j *ℤ f ≡ pos 0 → (i +ℤ j +ℤ k) *ℤ y -ℤ k *ℤ f ≡ pos 0 → pos 0 ≤ℤ (f -ℤ x -ℤ y)
last_in i j k f x y hn hi hf e e' =
    let ti = at 0 in let tj = at 1 in let tk = at 2 in let tf = at 3 in let tx = at 4 in let ty = at 5 in let n = ti ⊕ tj ⊕ tk in
    let z : pos 0 ≤ℤ (pos 0 -ℤ ((i +ℤ j +ℤ k) *ℤ x -ℤ j *ℤ f)) = rw e (omega (arith, ints)) in
    let z' : pos 0 ≤ℤ (pos 0 -ℤ ((i +ℤ j +ℤ k) *ℤ y -ℤ k *ℤ f)) = rw e' (omega (arith, ints)) in
    certify (i ∷ j ∷ k ∷ f ∷ x ∷ y ∷ []) n (lit (pos 0)) (tf ⊖ tx ⊖ ty) (((lit (pos 0) ⊖ (n ⊗ tx ⊖ tj ⊗ tf)) ⊕ (lit (pos 0) ⊖ (n ⊗ ty ⊖ tk ⊗ tf))) ⊕ ti ⊗ tf) hn refl (add_nonneg _ _ (add_nonneg _ _ z z') (mul_nonneg _ _ hi hf))

height_in : (n f h d q w : ℤ) → pos 0 <ℤ n → pos 0 ≤ℤ f → w ≡ n *ℤ h → (w *ℤ w) ≤ℤ (q *ℤ f) → q ≤ℤ (d *ℤ (n *ℤ n)) → (h *ℤ h) ≤ℤ (d *ℤ f)
height_in n f h d q w hn hf e a b =
    let a' : (n *ℤ h *ℤ (n *ℤ h)) ≤ℤ (q *ℤ f) = subst (λ (x : ℤ). (x *ℤ x) ≤ℤ (q *ℤ f)) e a in
    let tn = at 0 in let tf = at 1 in let th = at 2 in let td = at 3 in let tq = at 4 in
    certify (n ∷ f ∷ h ∷ d ∷ q ∷ []) (tn ⊗ tn) (th ⊗ th) (td ⊗ tf) ((tq ⊗ tf ⊖ tn ⊗ th ⊗ (tn ⊗ th)) ⊕ tf ⊗ (td ⊗ (tn ⊗ tn) ⊖ tq)) (mul_positive n n hn hn) refl (add_nonneg _ _ (rest _ _ a') (mul_nonneg _ _ hf (rest _ _ b)))

mixed_coordinate : (i j k a b c p : ℤ) → (i +ℤ j +ℤ k) *ℤ p -ℤ (i *ℤ a +ℤ j *ℤ b +ℤ k *ℤ c) ≡ (i +ℤ j +ℤ k) *ℤ (p -ℤ a) -ℤ (j *ℤ (b -ℤ a) +ℤ k *ℤ (c -ℤ a))
mixed_coordinate i j k a b c p =
    let ti = at 0 in let tj = at 1 in let tk = at 2 in let ta = at 3 in let tb = at 4 in let tc = at 5 in let tp = at 6 in let n = ti ⊕ tj ⊕ tk in
    ring (i ∷ j ∷ k ∷ a ∷ b ∷ c ∷ p ∷ []) (n ⊗ tp ⊖ (ti ⊗ ta ⊕ tj ⊗ tb ⊕ tk ⊗ tc)) (n ⊗ (tp ⊖ ta) ⊖ (tj ⊗ (tb ⊖ ta) ⊕ tk ⊗ (tc ⊖ ta))) refl

pub foot_no : (p : Vector) (t : Face) (d : ℕ) → HasArea t → FootWithin p t d → FootClose p t (pos d *ℤ pos d)
unfolding FootWithin
foot_no p t d area (i, j, k, hn, e0, u0, h) =
    let e = minus t.b t.a in let u = minus t.c t.a in let r = minus p t.a in
    let n = pos i +ℤ pos j +ℤ pos k in
    let g = part e u r n (pos j) (pos k) in
    let same : minus (times n p) (mix3 t (pos i) (pos j) (pos k)) ≡ g = same_vector (minus (times n p) (mix3 t (pos i) (pos j) (pos k))) g
    (mixed_coordinate (pos i) (pos j) (pos k) t.a.x t.b.x t.c.x p.x) (mixed_coordinate (pos i) (pos j) (pos k) t.a.y t.b.y t.c.y p.y) (mixed_coordinate (pos i) (pos j) (pos k) t.a.z t.b.z t.c.z p.z) in
    let e1 = subst (λ (v : Vector). dot_of v e ≡ pos 0) same e0 in
    let u1 = subst (λ (v : Vector). dot_of v u ≡ pos 0) same u0 in
    let h1 = subst (λ (v : Vector). dot_of v v ≤ℤ (pos d *ℤ pos d *ℤ (n *ℤ n))) same h in
    let f = square_of e u in
    let x = sym (along_part e u r n (pos j) (pos k)) ∙ binet_first e u g ∙ none_of_two (dot_of u u) (dot_of e u) (dot_of g e) (dot_of g u) e1 u1 in
    let y = sym (across_part e u r n (pos j) (pos k)) ∙ binet_second e u g ∙ none_of_two (dot_of e e) (dot_of e u) (dot_of g u) (dot_of g e) u1 e1 in
    let hn' : pos 0 <ℤ n = omega (arith, ints, hn) in
    let hf = length_nonneg (cross_of e u) in
    record {
      area = area;
      a_in = last_in (pos i) (pos j) (pos k) f (along_of e u r) (across_of e u r) hn' (natural i) hf x y;
      b_in = weight_in n f (pos j) (along_of e u r) hn' hf (natural j) x;
      c_in = weight_in n f (pos k) (across_of e u r) hn' hf (natural k) y;
      low = height_in n f (height_of e u r) (pos d *ℤ pos d) (dot_of g g) (height_of e u g) hn' hf (height_part e u r n (pos j) (pos k)) (cauchy g (cross_of e u)) h1;
    }
