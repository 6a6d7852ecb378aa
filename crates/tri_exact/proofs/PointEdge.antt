-- A point and an edge
use Rattle.std.proofs.Common.{ℕ, ◌+◌, ◌*◌, ◌≡◌, ◌↔◌, arith, ℤ, pos, negsuc, ◌+ℤ◌, ◌-ℤ◌, ◌*ℤ◌, ◌≤ℤ◌, ◌<ℤ◌, refl, subst, [], ◌∷◌}
use Rattle.std.proofs.lemmas.Int.{ints}
use Rattle.exact_arith.specs.Space.{Vector, minus, times, dot_of}
use Rattle.tri_exact.specs.Within.{mix2, PointEdgeWithin}
use Rattle.exact_arith.proofs.Ring.{ring, at, lit, ◌⊕◌, ◌⊖◌, ◌⊗◌}
use Rattle.exact_arith.proofs.Triples.{spot, ◌⊞◌, ◌⊟◌, ◌⊡◌, scalar}
use Rattle.exact_arith.proofs.Order.{mul_nonneg, mul_positive, rest, certify, nonneg}

-- the square of a gap, in the edge's own numbers
gap_square : (p a b : Vector) (i j : ℤ) → let u = minus b a in let w = minus p a in let n = i +ℤ j in let g = minus (times n p) (mix2 a b i j) in
    dot_of g g ≡ n *ℤ n *ℤ dot_of w w -ℤ pos 2 *ℤ n *ℤ j *ℤ dot_of w u +ℤ j *ℤ j *ℤ dot_of u u
gap_square p a b i j =
    let tp = spot 0 in let ta = spot 3 in let tb = spot 6 in let ti = at 9 in let tj = at 10 in
    let u = tb ⊟ ta in let w = tp ⊟ ta in let n = ti ⊕ tj in let g = n ⊡ tp ⊟ (ti ⊡ ta ⊞ tj ⊡ tb) in
    ring (p.x ∷ p.y ∷ p.z ∷ a.x ∷ a.y ∷ a.z ∷ b.x ∷ b.y ∷ b.z ∷ i ∷ j ∷ []) (scalar g g) (n ⊗ n ⊗ scalar w w ⊖ lit (pos 2) ⊗ n ⊗ tj ⊗ scalar w u ⊕ tj ⊗ tj ⊗ scalar u u) refl

-- ---- the numbers of a gap: n the sum of the weights, j the second weight, w the square of the way from a to p, s its share along the edge, l the edge's square, m the bound's square
abbrev square_at : ℤ → ℤ → ℤ → ℤ → ℤ → ℤ
square_at n j w s l = n *ℤ n *ℤ w -ℤ pos 2 *ℤ n *ℤ j *ℤ s +ℤ j *ℤ j *ℤ l

module _ (n j w s l m : ℤ) (n_positive : pos 0 <ℤ n) (close : square_at n j w s l ≤ℤ (m *ℤ (n *ℤ n))) where
  start_no : pos 0 ≤ℤ j → pos 0 ≤ℤ l → s ≤ℤ pos 0 → w ≤ℤ m
  start_no hj hl hs =
      let f : pos 0 ≤ℤ (m *ℤ (n *ℤ n) -ℤ square_at n j w s l) = rest _ _ close in
      let g : pos 0 ≤ℤ (pos 0 -ℤ s) = rest _ _ hs in
      let q : pos 0 ≤ℤ n = omega (arith, ints) in
      let two : pos 0 ≤ℤ pos 2 = omega (arith, ints) in
      let tn = at 0 in let tj = at 1 in let tw = at 2 in let ts = at 3 in let tl = at 4 in let tm = at 5 in
      certify (n ∷ j ∷ w ∷ s ∷ l ∷ m ∷ []) (tn ⊗ tn) tw tm
      ((tm ⊗ (tn ⊗ tn) ⊖ (tn ⊗ tn ⊗ tw ⊖ lit (pos 2) ⊗ tn ⊗ tj ⊗ ts ⊕ tj ⊗ tj ⊗ tl)) ⊕ (lit (pos 2) ⊗ (tn ⊗ (tj ⊗ (lit (pos 0) ⊖ ts))) ⊕ tj ⊗ tj ⊗ tl))
      (mul_positive n n n_positive n_positive) refl (search nonneg)

  end_no : j ≤ℤ n → pos 0 ≤ℤ l → l ≤ℤ s → (w -ℤ pos 2 *ℤ s +ℤ l) ≤ℤ m
  end_no hj hl hs =
      let f : pos 0 ≤ℤ (m *ℤ (n *ℤ n) -ℤ square_at n j w s l) = rest _ _ close in
      let g : pos 0 ≤ℤ (s -ℤ l) = rest _ _ hs in
      let k : pos 0 ≤ℤ (n -ℤ j) = rest _ _ hj in
      let q : pos 0 ≤ℤ n = omega (arith, ints) in
      let two : pos 0 ≤ℤ pos 2 = omega (arith, ints) in
      let tn = at 0 in let tj = at 1 in let tw = at 2 in let ts = at 3 in let tl = at 4 in let tm = at 5 in
      certify (n ∷ j ∷ w ∷ s ∷ l ∷ m ∷ []) (tn ⊗ tn) (tw ⊖ lit (pos 2) ⊗ ts ⊕ tl) tm
      ((tm ⊗ (tn ⊗ tn) ⊖ (tn ⊗ tn ⊗ tw ⊖ lit (pos 2) ⊗ tn ⊗ tj ⊗ ts ⊕ tj ⊗ tj ⊗ tl)) ⊕ (lit (pos 2) ⊗ (tn ⊗ ((tn ⊖ tj) ⊗ (ts ⊖ tl))) ⊕ (tn ⊖ tj) ⊗ (tn ⊖ tj) ⊗ tl))
      (mul_positive n n n_positive n_positive) refl (search nonneg)

  inside_no : pos 0 ≤ℤ l → (l *ℤ w -ℤ s *ℤ s) ≤ℤ (m *ℤ l)
  inside_no hl =
      let f : pos 0 ≤ℤ (m *ℤ (n *ℤ n) -ℤ square_at n j w s l) = rest _ _ close in
      let tn = at 0 in let tj = at 1 in let tw = at 2 in let ts = at 3 in let tl = at 4 in let tm = at 5 in
      certify (n ∷ j ∷ w ∷ s ∷ l ∷ m ∷ []) (tn ⊗ tn) (tl ⊗ tw ⊖ ts ⊗ ts) (tm ⊗ tl)
      (tl ⊗ (tm ⊗ (tn ⊗ tn) ⊖ (tn ⊗ tn ⊗ tw ⊖ lit (pos 2) ⊗ tn ⊗ tj ⊗ ts ⊕ tj ⊗ tj ⊗ tl)) ⊕ (tn ⊗ ts ⊖ tj ⊗ tl) ⊗ (tn ⊗ ts ⊖ tj ⊗ tl))
      (mul_positive n n n_positive n_positive) refl (search nonneg)

-- ---- the three cases, exactly
length_nonneg : (v : Vector) → pos 0 ≤ℤ dot_of v v
length_nonneg v = search nonneg

whole : (l s : ℤ) → pos 0 <ℤ l → pos 0 <ℤ (l -ℤ s +ℤ s)
whole l s h = omega (arith, ints)

weaken : (s : ℤ) → pos 0 <ℤ s → pos 0 ≤ℤ s
weaken s h = omega (arith, ints)

between : (s l : ℤ) → s <ℤ l → pos 0 ≤ℤ (l -ℤ s)
between s l h = omega (arith, ints)

above : (s l : ℤ) → pos 0 <ℤ s → s <ℤ l → pos 0 <ℤ l
above s l h k = omega (arith, ints)

pub point_weights : (p a b : Vector) (d : ℕ) (x y : ℤ) → pos 0 ≤ℤ x → pos 0 ≤ℤ y → pos 0 <ℤ (x +ℤ y) → let g = minus (times (x +ℤ y) p) (mix2 a b x y) in dot_of g g ≤ℤ (pos d *ℤ pos d *ℤ ((x +ℤ y) *ℤ (x +ℤ y))) → PointEdgeWithin p a b d
unfolding PointEdgeWithin
point_weights p a b d (pos i) (pos j) hx hy hs h = (i, j, omega (arith, ints, hs), h)
point_weights p a b d (pos i) (negsuc j) hx hy hs h = absurd (omega (arith, ints, hy))
point_weights p a b d (negsuc i) y hx hy hs h = absurd (omega (arith, ints, hx))

module _ (p a b : Vector) (d : ℕ) where
  pub start_yes : dot_of (minus p a) (minus p a) ≤ℤ (pos d *ℤ pos d) → PointEdgeWithin p a b d
  start_yes h =
      let tp = spot 0 in let ta = spot 3 in let tb = spot 6 in let m = at 9 ⊗ at 9 in let w = tp ⊟ ta in
      let one = lit (pos 1) in let o = lit (pos 0) in let g = (one ⊕ o) ⊡ tp ⊟ (one ⊡ ta ⊞ o ⊡ tb) in
      point_weights p a b d (pos 1) (pos 0) (omega (arith, ints)) (omega (arith, ints)) (omega (arith, ints))
      (certify (p.x ∷ p.y ∷ p.z ∷ a.x ∷ a.y ∷ a.z ∷ b.x ∷ b.y ∷ b.z ∷ pos d ∷ []) one (scalar g g) (m ⊗ ((one ⊕ o) ⊗ (one ⊕ o))) (m ⊖ scalar w w) (omega (arith, ints)) refl (rest _ _ h))

  end_yes : (dot_of (minus p a) (minus p a) -ℤ pos 2 *ℤ dot_of (minus p a) (minus b a) +ℤ dot_of (minus b a) (minus b a)) ≤ℤ (pos d *ℤ pos d) → PointEdgeWithin p a b d
  end_yes h =
      let tp = spot 0 in let ta = spot 3 in let tb = spot 6 in let m = at 9 ⊗ at 9 in let w = tp ⊟ ta in let u = tb ⊟ ta in
      let one = lit (pos 1) in let o = lit (pos 0) in let g = (o ⊕ one) ⊡ tp ⊟ (o ⊡ ta ⊞ one ⊡ tb) in
      point_weights p a b d (pos 0) (pos 1) (omega (arith, ints)) (omega (arith, ints)) (omega (arith, ints))
      (certify (p.x ∷ p.y ∷ p.z ∷ a.x ∷ a.y ∷ a.z ∷ b.x ∷ b.y ∷ b.z ∷ pos d ∷ []) one (scalar g g) (m ⊗ ((o ⊕ one) ⊗ (o ⊕ one))) (m ⊖ (scalar w w ⊖ lit (pos 2) ⊗ scalar w u ⊕ scalar u u)) (omega (arith, ints)) refl (rest _ _ h))

  pub inside_yes : pos 0 ≤ℤ dot_of (minus p a) (minus b a) → pos 0 ≤ℤ (dot_of (minus b a) (minus b a) -ℤ dot_of (minus p a) (minus b a)) → pos 0 <ℤ dot_of (minus b a) (minus b a) →
      (dot_of (minus b a) (minus b a) *ℤ dot_of (minus p a) (minus p a) -ℤ dot_of (minus p a) (minus b a) *ℤ dot_of (minus p a) (minus b a)) ≤ℤ (pos d *ℤ pos d *ℤ dot_of (minus b a) (minus b a)) → PointEdgeWithin p a b d
  inside_yes hs hl hp h =
      let tp = spot 0 in let ta = spot 3 in let tb = spot 6 in let m = at 9 ⊗ at 9 in let w = tp ⊟ ta in let u = tb ⊟ ta in
      let s = scalar w u in let l = scalar u u in
      let sv = dot_of (minus p a) (minus b a) in let lv = dot_of (minus b a) (minus b a) in
      let g = (l ⊖ s ⊕ s) ⊡ tp ⊟ ((l ⊖ s) ⊡ ta ⊞ s ⊡ tb) in
      let f : pos 0 ≤ℤ lv = omega (arith, ints, hp) in
      point_weights p a b d (lv -ℤ sv) sv hl hs (whole lv sv hp)
      (certify (p.x ∷ p.y ∷ p.z ∷ a.x ∷ a.y ∷ a.z ∷ b.x ∷ b.y ∷ b.z ∷ pos d ∷ []) (lit (pos 1)) (scalar g g) (m ⊗ ((l ⊖ s ⊕ s) ⊗ (l ⊖ s ⊕ s))) (l ⊗ (m ⊗ l ⊖ (l ⊗ scalar w w ⊖ s ⊗ s))) (omega (arith, ints)) refl (mul_nonneg _ _ f (rest _ _ h)))

  closeness : (i j : ℕ) → dot_of (minus (times (pos (i + j)) p) (mix2 a b (pos i) (pos j))) (minus (times (pos (i + j)) p) (mix2 a b (pos i) (pos j))) ≤ℤ pos (d * d * ((i + j) * (i + j))) →
      square_at (pos i +ℤ pos j) (pos j) (dot_of (minus p a) (minus p a)) (dot_of (minus p a) (minus b a)) (dot_of (minus b a) (minus b a)) ≤ℤ (pos d *ℤ pos d *ℤ ((pos i +ℤ pos j) *ℤ (pos i +ℤ pos j)))
  closeness i j h = subst (λ (x : ℤ). x ≤ℤ (pos d *ℤ pos d *ℤ ((pos i +ℤ pos j) *ℤ (pos i +ℤ pos j)))) (gap_square p a b (pos i) (pos j)) h

  pub start_exact : dot_of (minus p a) (minus b a) ≤ℤ pos 0 → (dot_of (minus p a) (minus p a) ≤ℤ (pos d *ℤ pos d)) ↔ PointEdgeWithin p a b d
  unfolding PointEdgeWithin
  start_exact hs = (
    λ h. start_yes h,
    λ (i, j, hn, h). start_no (pos i +ℤ pos j) (pos j) (dot_of (minus p a) (minus p a)) (dot_of (minus p a) (minus b a)) (dot_of (minus b a) (minus b a)) (pos d *ℤ pos d) (omega (arith, ints)) (closeness i j h) (omega (arith, ints)) (length_nonneg (minus b a)) hs,
  )

  pub end_exact : dot_of (minus b a) (minus b a) ≤ℤ dot_of (minus p a) (minus b a) → ((dot_of (minus p a) (minus p a) -ℤ pos 2 *ℤ dot_of (minus p a) (minus b a) +ℤ dot_of (minus b a) (minus b a)) ≤ℤ (pos d *ℤ pos d)) ↔ PointEdgeWithin p a b d
  unfolding PointEdgeWithin
  end_exact hs = (
    λ h. end_yes h,
    λ (i, j, hn, h). end_no (pos i +ℤ pos j) (pos j) (dot_of (minus p a) (minus p a)) (dot_of (minus p a) (minus b a)) (dot_of (minus b a) (minus b a)) (pos d *ℤ pos d) (omega (arith, ints)) (closeness i j h) (omega (arith, ints)) (length_nonneg (minus b a)) hs,
  )

  pub inside_exact : pos 0 <ℤ dot_of (minus p a) (minus b a) → dot_of (minus p a) (minus b a) <ℤ dot_of (minus b a) (minus b a) →
      ((dot_of (minus b a) (minus b a) *ℤ dot_of (minus p a) (minus p a) -ℤ dot_of (minus p a) (minus b a) *ℤ dot_of (minus p a) (minus b a)) ≤ℤ (pos d *ℤ pos d *ℤ dot_of (minus b a) (minus b a))) ↔ PointEdgeWithin p a b d
  unfolding PointEdgeWithin
  inside_exact hs hl = (
    λ h. inside_yes (weaken _ hs) (between _ _ hl) (above _ _ hs hl) h,
    λ (i, j, hn, h). inside_no (pos i +ℤ pos j) (pos j) (dot_of (minus p a) (minus p a)) (dot_of (minus p a) (minus b a)) (dot_of (minus b a) (minus b a)) (pos d *ℤ pos d) (omega (arith, ints)) (closeness i j h) (length_nonneg (minus b a)),
  )
