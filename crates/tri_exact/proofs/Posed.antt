-- Points of two triangles that are close, from each of the tests
use Rattle.std.proofs.Common.{ℕ, ◌≡◌, ◌⊎◌, inl, inr, arith, ℤ, pos, negsuc, ◌-ℤ◌, ◌*ℤ◌, ◌≤ℤ◌, ◌<ℤ◌, refl, sym, subst, [], ◌∷◌}
use Rattle.std.proofs.lemmas.Int.{ints}
use Rattle.exact_arith.specs.Space.{Vector, minus, dot_of, cross_of, Face, nowhere}
use Rattle.tri_exact.specs.Foot.{square_of, height_of}
use Rattle.tri_exact.specs.Pierce.{weight_b, weight_c, PiercesFace}
use Rattle.tri_exact.proofs.Pierce.{slope, depth, Sits, SitsFace, pierce_pose, pierce_gap}
use Rattle.exact_arith.proofs.Ring.{ring, at, lit, ◌⊖◌, ◌⊗◌}
use Rattle.exact_arith.proofs.Order.{mul_nonneg, square_nonneg}
use Rattle.tri_exact.proofs.Pose.{Pose, IsClose}
use Rattle.tri_exact.proofs.Weights.{Six, a1, a2, a3, b1, b2, b3, weight, NoNegative}
use Rattle.tri_exact.proofs.Reach.{foot_pose, foot_gap}
use Rattle.tri_exact.proofs.Through.{up_or_down, pierces_ways}
use Rattle.tri_exact.proofs.FootTest.{low_square}
use Rattle.tri_exact.proofs.TwoEdges.{edges_pose, EdgesClose}
use Rattle.tri_exact.proofs.TwoFaces.{Corner, ca, cb, cc, corner, next, turn, turned, turned_close, turned_nonneg, swap, swap_close, swap_nonneg, FootClose, Pierces, SomeEdges, plain_gap}

-- points of both that are close
pub record Posed (t s : Face) (d : ℤ) : Type 0 where
  pub pose : Pose
  pub close : IsClose t s d pose
  pub nonneg : NoNegative pose

turned_back : (t s : Face) (d : ℤ) → Posed t (turn s) d → Posed t s d
turned_back t s d w =
    record {
      pose = turned (turned w.pose);
      close = turned_close t (turn (turn s)) d (turned w.pose) (turned_close t (turn s) d w.pose w.close);
      nonneg = turned_nonneg (turned w.pose) (turned_nonneg w.pose w.nonneg);
    }

pub swapped : (t s : Face) (d : ℤ) → Posed s t d → Posed t s d
swapped t s d w = record { pose = swap w.pose; close = swap_close s t d w.pose w.close; nonneg = swap_nonneg w.pose w.nonneg }

-- ---- each test gives close points
plain_posed : (t s : Face) (d : ℤ) → EdgesClose t.a t.b s.a s.b d → Posed t s d
plain_posed t s d c =
    record {
      pose = edges_pose c.n c.x c.y;
      nonneg = c.nonneg;
      close = record { n_positive = c.close.n_positive; within = subst (λ (v : Vector). dot_of v v ≤ℤ (d *ℤ (c.n *ℤ c.n))) (plain_gap t s c.n c.x c.y) c.close.within };
    }

at_s : (t s : Face) (d : ℤ) (j : Corner) → EdgesClose t.a t.b (corner j s) (corner (next j) s) d → Posed t s d
at_s t s d ca c = plain_posed t s d c
at_s t s d cb c = turned_back t s d (plain_posed t (turn s) d c)
at_s t s d cc c = turned_back t s d (turned_back t (turn s) d (plain_posed t (turn (turn s)) d c))

pub at_t : (t s : Face) (d : ℤ) (i j : Corner) → EdgesClose (corner i t) (corner (next i) t) (corner j s) (corner (next j) s) d → Posed t s d
at_t t s d ca j c = at_s t s d j c
at_t t s d cb j c = swapped t s d (turned_back s t d (swapped s (turn t) d (at_s (turn t) s d j c)))
at_t t s d cc j c = swapped t s d (turned_back s t d (turned_back s (turn t) d (swapped s (turn (turn t)) d (at_s (turn (turn t)) s d j c))))

minus_square : (h : ℤ) → (pos 0 -ℤ h) *ℤ (pos 0 -ℤ h) ≡ h *ℤ h
minus_square h = ring (h ∷ []) ((lit (pos 0) ⊖ at 0) ⊗ (lit (pos 0) ⊖ at 0)) (at 0 ⊗ at 0) refl

foot_first : (t s : Face) (d : ℤ) → FootClose s.a t d → Posed t s d
foot_first t s d c =
    let e = minus t.b t.a in let u = minus t.c t.a in let r = minus s.a t.a in
    let n = square_of e u in let h = height_of e u r in
    record {
      pose = foot_pose t s.a;
      close = record { n_positive = c.area; within = subst (λ (v : Vector). dot_of v v ≤ℤ (d *ℤ (n *ℤ n))) (sym (foot_gap t s)) (low_square (pos 0 -ℤ h) d (cross_of e u) (subst (λ (k : ℤ). k ≤ℤ (d *ℤ n)) (sym (minus_square h)) c.low)) };
      nonneg = λ i. elim i as (λ (i : Six). pos 0 ≤ℤ weight i (foot_pose t s.a)) [ a1 ↦ c.a_in | a2 ↦ c.b_in | a3 ↦ c.c_in | b1 ↦ omega (arith, ints, c.area) | b2 ↦ omega (arith, ints) | b3 ↦ omega (arith, ints) ];
    }

pub foot_posed : (t s : Face) (d : ℤ) (j : Corner) → FootClose (corner j s) t d → Posed t s d
foot_posed t s d ca c = foot_first t s d c
foot_posed t s d cb c = turned_back t s d (foot_first t (turn s) d c)
foot_posed t s d cc c = turned_back t s d (turned_back t (turn s) d (foot_first t (turn (turn s)) d c))

nowhere_within : (d n : ℤ) → pos 0 ≤ℤ d → dot_of nowhere nowhere ≤ℤ (d *ℤ (n *ℤ n))
nowhere_within d n h = mul_nonneg d (n *ℤ n) h (square_nonneg n)

less_none : (x y : ℤ) → pos 0 ≤ℤ (x -ℤ y) → pos 0 ≤ℤ (x -ℤ y -ℤ pos 0)
less_none x y h = omega (arith, ints)

through_first : (t s : Face) (d : ℤ) (k : ℤ) → pos 0 ≤ℤ d → Pierces k s.a s.b t → Posed t s d
through_first t s d k hd c =
    let f = pierce_pose k s.a s.b t in
    record {
      pose = f;
      close = record { n_positive = c.steep; within = subst (λ (v : Vector). dot_of v v ≤ℤ (d *ℤ (f.n *ℤ f.n))) (sym (pierce_gap k t s)) (nowhere_within d f.n hd) };
      nonneg = λ i. elim i as (λ (i : Six). pos 0 ≤ℤ weight i f) [ a1 ↦ c.in_a | a2 ↦ c.in_b | a3 ↦ c.in_c | b1 ↦ less_none f.n f.b2 c.before_q | b2 ↦ c.after_p | b3 ↦ omega (arith, ints) ];
    }

pub through_posed : (t s : Face) (d : ℤ) (k : ℤ) (j : Corner) → pos 0 ≤ℤ d → Pierces k (corner j s) (corner (next j) s) t → Posed t s d
through_posed t s d k ca hd c = through_first t s d k hd c
through_posed t s d k cb hd c = turned_back t s d (through_first t (turn s) d k hd c)
through_posed t s d k cc hd c = turned_back t s d (turned_back t (turn s) d (through_first t (turn (turn s)) d k hd c))

-- ---- in the words of the code
once : (z : ℤ) → pos 1 *ℤ z ≡ z
once z = omega (arith, ints)

back : (z : ℤ) → negsuc 0 *ℤ z ≡ pos 0 -ℤ z
back z = omega (arith, ints)

sits_up : (p q : Vector) (t : Face) → Pierces (pos 1) p q t → Sits (slope p q t) (weight_b p q t) (weight_c p q t) (depth p t)
sits_up p q t c =
    let s = slope p q t in let v = weight_b p q t in let w = weight_c p q t in let x = depth p t in
    record {
      steep = subst (λ (k : ℤ). pos 0 <ℤ k) (once s) c.steep;
      in_a = subst (λ (k : ℤ). pos 0 ≤ℤ (k -ℤ v -ℤ w)) (once s) (subst (λ (k : ℤ). pos 0 ≤ℤ (pos 1 *ℤ s -ℤ k -ℤ w)) (once v) (subst (λ (k : ℤ). pos 0 ≤ℤ (pos 1 *ℤ s -ℤ pos 1 *ℤ v -ℤ k)) (once w) c.in_a));
      in_b = subst (λ (k : ℤ). pos 0 ≤ℤ k) (once v) c.in_b;
      in_c = subst (λ (k : ℤ). pos 0 ≤ℤ k) (once w) c.in_c;
      after_p = subst (λ (k : ℤ). pos 0 ≤ℤ k) (once x) c.after_p;
      before_q = subst (λ (k : ℤ). pos 0 ≤ℤ (k -ℤ x)) (once s) (subst (λ (k : ℤ). pos 0 ≤ℤ (pos 1 *ℤ s -ℤ k)) (once x) c.before_q);
    }

sits_down : (p q : Vector) (t : Face) → Pierces (negsuc 0) p q t → Sits (pos 0 -ℤ slope p q t) (pos 0 -ℤ weight_b p q t) (pos 0 -ℤ weight_c p q t) (pos 0 -ℤ depth p t)
sits_down p q t c =
    let s = slope p q t in let v = weight_b p q t in let w = weight_c p q t in let x = depth p t in let o = pos 0 in
    record {
      steep = subst (λ (k : ℤ). pos 0 <ℤ k) (back s) c.steep;
      in_a = subst (λ (k : ℤ). pos 0 ≤ℤ (k -ℤ (o -ℤ v) -ℤ (o -ℤ w))) (back s) (subst (λ (k : ℤ). pos 0 ≤ℤ (negsuc 0 *ℤ s -ℤ k -ℤ (o -ℤ w))) (back v) (subst (λ (k : ℤ). pos 0 ≤ℤ (negsuc 0 *ℤ s -ℤ negsuc 0 *ℤ v -ℤ k)) (back w) c.in_a));
      in_b = subst (λ (k : ℤ). pos 0 ≤ℤ k) (back v) c.in_b;
      in_c = subst (λ (k : ℤ). pos 0 ≤ℤ k) (back w) c.in_c;
      after_p = subst (λ (k : ℤ). pos 0 ≤ℤ k) (back x) c.after_p;
      before_q = subst (λ (k : ℤ). pos 0 ≤ℤ (k -ℤ (o -ℤ x))) (back s) (subst (λ (k : ℤ). pos 0 ≤ℤ (negsuc 0 *ℤ s -ℤ k)) (back x) c.before_q);
    }

up_sits : (p q : Vector) (t : Face) → Sits (slope p q t) (weight_b p q t) (weight_c p q t) (depth p t) → Pierces (pos 1) p q t
up_sits p q t c =
    let s = slope p q t in let v = weight_b p q t in let w = weight_c p q t in let x = depth p t in
    record {
      steep = subst (λ (k : ℤ). pos 0 <ℤ k) (sym (once s)) c.steep;
      in_a = subst (λ (k : ℤ). pos 0 ≤ℤ (pos 1 *ℤ s -ℤ pos 1 *ℤ v -ℤ k)) (sym (once w)) (subst (λ (k : ℤ). pos 0 ≤ℤ (pos 1 *ℤ s -ℤ k -ℤ w)) (sym (once v)) (subst (λ (k : ℤ). pos 0 ≤ℤ (k -ℤ v -ℤ w)) (sym (once s)) c.in_a));
      in_b = subst (λ (k : ℤ). pos 0 ≤ℤ k) (sym (once v)) c.in_b;
      in_c = subst (λ (k : ℤ). pos 0 ≤ℤ k) (sym (once w)) c.in_c;
      after_p = subst (λ (k : ℤ). pos 0 ≤ℤ k) (sym (once x)) c.after_p;
      before_q = subst (λ (k : ℤ). pos 0 ≤ℤ (pos 1 *ℤ s -ℤ k)) (sym (once x)) (subst (λ (k : ℤ). pos 0 ≤ℤ (k -ℤ x)) (sym (once s)) c.before_q);
    }

down_sits : (p q : Vector) (t : Face) → Sits (pos 0 -ℤ slope p q t) (pos 0 -ℤ weight_b p q t) (pos 0 -ℤ weight_c p q t) (pos 0 -ℤ depth p t) → Pierces (negsuc 0) p q t
down_sits p q t c =
    let s = slope p q t in let v = weight_b p q t in let w = weight_c p q t in let x = depth p t in let o = pos 0 in
    record {
      steep = subst (λ (k : ℤ). pos 0 <ℤ k) (sym (back s)) c.steep;
      in_a = subst (λ (k : ℤ). pos 0 ≤ℤ (negsuc 0 *ℤ s -ℤ negsuc 0 *ℤ v -ℤ k)) (sym (back w)) (subst (λ (k : ℤ). pos 0 ≤ℤ (negsuc 0 *ℤ s -ℤ k -ℤ (o -ℤ w))) (sym (back v)) (subst (λ (k : ℤ). pos 0 ≤ℤ (k -ℤ (o -ℤ v) -ℤ (o -ℤ w))) (sym (back s)) c.in_a));
      in_b = subst (λ (k : ℤ). pos 0 ≤ℤ k) (sym (back v)) c.in_b;
      in_c = subst (λ (k : ℤ). pos 0 ≤ℤ k) (sym (back w)) c.in_c;
      after_p = subst (λ (k : ℤ). pos 0 ≤ℤ k) (sym (back x)) c.after_p;
      before_q = subst (λ (k : ℤ). pos 0 ≤ℤ (negsuc 0 *ℤ s -ℤ k)) (sym (back x)) (subst (λ (k : ℤ). pos 0 ≤ℤ (k -ℤ (o -ℤ x))) (sym (back s)) c.before_q);
    }

pub pierces_yes : (p q : Vector) (t : Face) (k : ℤ) → (k ≡ pos 1) ⊎ (k ≡ negsuc 0) → Pierces k p q t → PiercesFace p q t
pierces_yes p q t k (inl e) c = pierces_ways p q t (inl (sits_up p q t (subst (λ (l : ℤ). Pierces l p q t) e c)))
pierces_yes p q t k (inr e) c = pierces_ways p q t (inr (sits_down p q t (subst (λ (l : ℤ). Pierces l p q t) e c)))

square_in : (d : ℕ) → pos 0 ≤ℤ (pos d *ℤ pos d)
square_in d = square_nonneg (pos d)

sits_posed : (t s : Face) (d : ℕ) (j : Corner) → SitsFace (corner j s) (corner (next j) s) t → Posed t s (pos d *ℤ pos d)
sits_posed t s d j (inl c) = through_posed t s (pos d *ℤ pos d) (pos 1) j (square_in d) (up_sits (corner j s) (corner (next j) s) t c)
sits_posed t s d j (inr c) = through_posed t s (pos d *ℤ pos d) (negsuc 0) j (square_in d) (down_sits (corner j s) (corner (next j) s) t c)

pub pierce_posed : (t s : Face) (d : ℕ) (j : Corner) → PiercesFace (corner j s) (corner (next j) s) t → Posed t s (pos d *ℤ pos d)
pierce_posed t s d j c = sits_posed t s d j (up_or_down (corner j s) (corner (next j) s) t c)
