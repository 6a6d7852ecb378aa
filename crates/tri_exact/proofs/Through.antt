-- A segment through a face, by the heights of its ends
use Rattle.std.proofs.Common.{◌≡◌, inl, inr, arith, ℤ, pos, ◌+ℤ◌, ◌-ℤ◌, refl, ◌∙◌, [], ◌∷◌}
use Rattle.std.proofs.lemmas.Int.{ints}
use Rattle.exact_arith.specs.Space.{Vector, minus, dot_of, cross_of, Face, normal}
use Rattle.tri_exact.proofs.Pierce.{Sits, SitsFace, slope, depth, slope_is}
use Rattle.tri_exact.specs.Pierce.{weight_a, weight_b, weight_c, height, PiercesFace, Rises}
use Rattle.exact_arith.proofs.Ring.{ring, lit, ◌⊖◌}
use Rattle.exact_arith.proofs.Triples.{spot, ◌⊟◌, scalar, crossed}

depth_is : (p : Vector) (t : Face) → depth p t ≡ pos 0 -ℤ height p t
depth_is p t =
    let tp = spot 0 in let a = spot 3 in let b = spot 6 in let c = spot 9 in
    ring (p.x ∷ p.y ∷ p.z ∷ t.a.x ∷ t.a.y ∷ t.a.z ∷ t.b.x ∷ t.b.y ∷ t.b.z ∷ t.c.x ∷ t.c.y ∷ t.c.z ∷ [])
    (scalar (crossed (a ⊟ tp) (b ⊟ tp)) (c ⊟ tp)) (lit (pos 0) ⊖ scalar (tp ⊟ a) (crossed (b ⊟ a) (c ⊟ a))) refl

way_up : (p q v a : Vector) → dot_of (minus q p) v ≡ dot_of (minus q a) v -ℤ dot_of (minus p a) v
way_up p q v a =
    ring (p.x ∷ p.y ∷ p.z ∷ q.x ∷ q.y ∷ q.z ∷ v.x ∷ v.y ∷ v.z ∷ a.x ∷ a.y ∷ a.z ∷ []) (scalar (spot 3 ⊟ spot 0) (spot 6)) (scalar (spot 3 ⊟ spot 9) (spot 6) ⊖ scalar (spot 0 ⊟ spot 9) (spot 6)) refl

slope_up : (p q : Vector) (t : Face) → slope p q t ≡ height q t -ℤ height p t
slope_up p q t = slope_is p q t ∙ way_up p q (normal t) t.a

-- the other way the volumes change their signs
back_volume : (p q b c : Vector) → dot_of (cross_of (minus b p) (minus c p)) (minus q p) ≡ pos 0 -ℤ dot_of (cross_of (minus b q) (minus c q)) (minus p q)
back_volume p q b c =
    let tp = spot 0 in let tq = spot 3 in let tb = spot 6 in let tc = spot 9 in
    ring (p.x ∷ p.y ∷ p.z ∷ q.x ∷ q.y ∷ q.z ∷ b.x ∷ b.y ∷ b.z ∷ c.x ∷ c.y ∷ c.z ∷ []) (scalar (crossed (tb ⊟ tp) (tc ⊟ tp)) (tq ⊟ tp)) (lit (pos 0) ⊖ scalar (crossed (tb ⊟ tq) (tc ⊟ tq)) (tp ⊟ tq)) refl

-- plain facts on numbers: s the slope, x the depth, h and k the heights
sits : (s v w x h k u : ℤ) → s ≡ u +ℤ v +ℤ w → s ≡ k -ℤ h → x ≡ pos 0 -ℤ h → Rises h k u v w → Sits s v w x
sits s v w x h k u e f g r =
    record {
      steep = omega (arith, ints, r.steep);
      in_a = omega (arith, ints, r.a_in);
      in_b = r.b_in;
      in_c = r.c_in;
      after_p = omega (arith, ints, r.low);
      before_q = omega (arith, ints, r.high);
    }

stands : (s v w x h k u : ℤ) → s ≡ u +ℤ v +ℤ w → s ≡ k -ℤ h → x ≡ pos 0 -ℤ h → Sits s v w x → Rises h k u v w
stands s v w x h k u e f g r =
    record {
      steep = omega (arith, ints, r.steep);
      a_in = omega (arith, ints, r.in_a);
      b_in = r.in_b;
      c_in = r.in_c;
      low = omega (arith, ints, r.after_p);
      high = omega (arith, ints, r.before_q);
    }

-- for the segment the other way
sits_down : (s v w x h k u a b c : ℤ) → s ≡ u +ℤ v +ℤ w → s ≡ k -ℤ h → x ≡ pos 0 -ℤ h → u ≡ pos 0 -ℤ a → v ≡ pos 0 -ℤ b → w ≡ pos 0 -ℤ c → Rises k h a b c → Sits (pos 0 -ℤ s) (pos 0 -ℤ v) (pos 0 -ℤ w) (pos 0 -ℤ x)
sits_down s v w x h k u a b c e f g hu hv hw r =
    record {
      steep = omega (arith, ints, r.steep);
      in_a = omega (arith, ints, r.a_in);
      in_b = omega (arith, ints, r.b_in);
      in_c = omega (arith, ints, r.c_in);
      after_p = omega (arith, ints, r.high);
      before_q = omega (arith, ints, r.low);
    }

stands_down : (s v w x h k u a b c : ℤ) → s ≡ u +ℤ v +ℤ w → s ≡ k -ℤ h → x ≡ pos 0 -ℤ h → u ≡ pos 0 -ℤ a → v ≡ pos 0 -ℤ b → w ≡ pos 0 -ℤ c → Sits (pos 0 -ℤ s) (pos 0 -ℤ v) (pos 0 -ℤ w) (pos 0 -ℤ x) → Rises k h a b c
stands_down s v w x h k u a b c e f g hu hv hw r =
    record {
      steep = omega (arith, ints, r.steep);
      a_in = omega (arith, ints, r.in_a);
      b_in = omega (arith, ints, r.in_b);
      c_in = omega (arith, ints, r.in_c);
      high = omega (arith, ints, r.after_p);
      low = omega (arith, ints, r.before_q);
    }

pub up_or_down : (p q : Vector) (t : Face) → PiercesFace p q t → SitsFace p q t
up_or_down p q t (inl r) = inl (sits (slope p q t) (weight_b p q t) (weight_c p q t) (depth p t) (height p t) (height q t) (weight_a p q t) refl (slope_up p q t) (depth_is p t) r)
up_or_down p q t (inr r) =
    inr (sits_down (slope p q t) (weight_b p q t) (weight_c p q t) (depth p t) (height p t) (height q t) (weight_a p q t) (weight_a q p t) (weight_b q p t) (weight_c q p t) refl (slope_up p q t) (depth_is p t)
    (back_volume p q t.b t.c) (back_volume p q t.c t.a) (back_volume p q t.a t.b) r)

pub pierces_ways : (p q : Vector) (t : Face) → SitsFace p q t → PiercesFace p q t
pierces_ways p q t (inl r) = inl (stands (slope p q t) (weight_b p q t) (weight_c p q t) (depth p t) (height p t) (height q t) (weight_a p q t) refl (slope_up p q t) (depth_is p t) r)
pierces_ways p q t (inr r) =
    inr (stands_down (slope p q t) (weight_b p q t) (weight_c p q t) (depth p t) (height p t) (height q t) (weight_a p q t) (weight_a q p t) (weight_b q p t) (weight_c q p t) refl (slope_up p q t) (depth_is p t)
    (back_volume p q t.b t.c) (back_volume p q t.c t.a) (back_volume p q t.a t.b) r)
