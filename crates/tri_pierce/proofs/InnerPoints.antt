-- Points inside two faces that are the same, by weights of one sum
use Rattle.std.proofs.Common.{◌≡◌, arith, ℤ, pos, ◌+ℤ◌, ◌-ℤ◌, ◌*ℤ◌, ◌<ℤ◌, refl, sym, ap, ◌∙◌, subst, inl, inr, [], ◌∷◌}
use Rattle.std.proofs.lemmas.Int.{ints}
use Rattle.exact_arith.specs.Space.{Vector, minus, times, Face, nowhere}
use Rattle.tri_exact.specs.Within.{mix3}
use Rattle.tri_exact.specs.Pierce.{height}
use Rattle.exact_arith.proofs.Ring.{ring, at, ◌⊕◌, ◌⊖◌, ◌⊗◌}
use Rattle.exact_arith.proofs.Order.{mul_positive}
use Rattle.tri_exact.proofs.Pose.{Pose, gap, same_vector}
use Rattle.tri_exact.proofs.Weights.{Six, a1, a2, a3, b1, b2, b3, weight}
use Rattle.tri_exact.proofs.TwoFaces.{swap, turned}
use Rattle.tri_pierce.specs.Piercing.{CommonPoint, OffPlane, FacesPierce}
use Rattle.tri_pierce.specs.inner.LoneCorners.{turn_of, mirror_of}
use Rattle.tri_pierce.proofs.PlaneSides.{turned_height, mirrored_height, flat, off_area}

-- a point inside both faces
pub record Inner (t s : Face) : Type 0 where
  pub pose : Pose
  pub gone : gap t s pose ≡ nowhere
  pub inside : (i : Six) → pos 0 <ℤ weight i pose

-- ---- from weights with sums of their own, and back
positive_by : (x y : ℤ) → x ≡ y → pos 0 <ℤ y → pos 0 <ℤ x
positive_by x y e h = subst (λ (z : ℤ). pos 0 <ℤ z) (sym e) h

sum_positive : (x y z : ℤ) → pos 0 <ℤ x → pos 0 <ℤ y → pos 0 <ℤ z → pos 0 <ℤ (x +ℤ y +ℤ z)
sum_positive x y z h k l = omega (arith, ints, h, k, l)

rest_a : (i j k n : ℤ) → (i +ℤ j +ℤ k) *ℤ n -ℤ n *ℤ j -ℤ n *ℤ k ≡ n *ℤ i
rest_a i j k n = ring (i ∷ j ∷ k ∷ n ∷ []) ((at 0 ⊕ at 1 ⊕ at 2) ⊗ at 3 ⊖ at 3 ⊗ at 1 ⊖ at 3 ⊗ at 2) (at 3 ⊗ at 0) refl

rest_b : (m j k l : ℤ) → m *ℤ (j +ℤ k +ℤ l) -ℤ m *ℤ k -ℤ m *ℤ l ≡ m *ℤ j
rest_b m j k l = ring (m ∷ j ∷ k ∷ l ∷ []) (at 0 ⊗ (at 1 ⊕ at 2 ⊕ at 3) ⊖ at 0 ⊗ at 2 ⊖ at 0 ⊗ at 3) (at 0 ⊗ at 1) refl

joined_coordinate : (i j k l m n a b c p q r : ℤ) → (l +ℤ m +ℤ n) *ℤ (i *ℤ a +ℤ j *ℤ b +ℤ k *ℤ c) -ℤ (i +ℤ j +ℤ k) *ℤ (l *ℤ p +ℤ m *ℤ q +ℤ n *ℤ r)
    ≡ ((i +ℤ j +ℤ k) *ℤ (l +ℤ m +ℤ n) -ℤ (l +ℤ m +ℤ n) *ℤ j -ℤ (l +ℤ m +ℤ n) *ℤ k) *ℤ a +ℤ (l +ℤ m +ℤ n) *ℤ j *ℤ b +ℤ (l +ℤ m +ℤ n) *ℤ k *ℤ c -ℤ (((i +ℤ j +ℤ k) *ℤ (l +ℤ m +ℤ n) -ℤ (i +ℤ j +ℤ k) *ℤ m -ℤ (i +ℤ j +ℤ k) *ℤ n) *ℤ p +ℤ (i +ℤ j +ℤ k) *ℤ m *ℤ q +ℤ (i +ℤ j +ℤ k) *ℤ n *ℤ r)
joined_coordinate i j k l m n a b c p q r =
    let ti = at 0 in let tj = at 1 in let tk = at 2 in let tl = at 3 in let tm = at 4 in let tn = at 5 in let ta = at 6 in let tb = at 7 in let tc = at 8 in let tp = at 9 in let tq = at 10 in let tr = at 11 in
    let x = ti ⊕ tj ⊕ tk in let y = tl ⊕ tm ⊕ tn in
    ring (i ∷ j ∷ k ∷ l ∷ m ∷ n ∷ a ∷ b ∷ c ∷ p ∷ q ∷ r ∷ []) (y ⊗ (ti ⊗ ta ⊕ tj ⊗ tb ⊕ tk ⊗ tc) ⊖ x ⊗ (tl ⊗ tp ⊕ tm ⊗ tq ⊕ tn ⊗ tr))
    ((x ⊗ y ⊖ y ⊗ tj ⊖ y ⊗ tk) ⊗ ta ⊕ y ⊗ tj ⊗ tb ⊕ y ⊗ tk ⊗ tc ⊖ ((x ⊗ y ⊖ x ⊗ tm ⊖ x ⊗ tn) ⊗ tp ⊕ x ⊗ tm ⊗ tq ⊕ x ⊗ tn ⊗ tr)) refl

none : (x : ℤ) → x -ℤ x ≡ pos 0
none x = omega (arith, ints)

self_minus : (v : Vector) → minus v v ≡ nowhere
self_minus v = same_vector (minus v v) nowhere (none v.x) (none v.y) (none v.z)

pub inner_of : (t s : Face) → CommonPoint t s → Inner t s
inner_of t s c =
    let x = c.a1 +ℤ c.a2 +ℤ c.a3 in let y = c.b1 +ℤ c.b2 +ℤ c.b3 in
    let hx : pos 0 <ℤ x = sum_positive c.a1 c.a2 c.a3 c.a1_in c.a2_in c.a3_in in
    let hy : pos 0 <ℤ y = sum_positive c.b1 c.b2 c.b3 c.b1_in c.b2_in c.b3_in in
    let w : Pose = record { n = x *ℤ y; a2 = y *ℤ c.a2; a3 = y *ℤ c.a3; b2 = x *ℤ c.b2; b3 = x *ℤ c.b3 } in
    let f = times y (mix3 t c.a1 c.a2 c.a3) in let h = times x (mix3 s c.b1 c.b2 c.b3) in
    let e : minus f h ≡ gap t s w = same_vector (minus f h) (gap t s w)
    (joined_coordinate c.a1 c.a2 c.a3 c.b1 c.b2 c.b3 t.a.x t.b.x t.c.x s.a.x s.b.x s.c.x)
    (joined_coordinate c.a1 c.a2 c.a3 c.b1 c.b2 c.b3 t.a.y t.b.y t.c.y s.a.y s.b.y s.c.y)
    (joined_coordinate c.a1 c.a2 c.a3 c.b1 c.b2 c.b3 t.a.z t.b.z t.c.z s.a.z s.b.z s.c.z) in
    record {
      pose = w;
      gone = sym e ∙ (ap (λ (v : Vector). minus v h) c.same ∙ self_minus h);
      inside = λ o. elim o as (λ (o : Six). pos 0 <ℤ weight o w) [
        | a1 ↦ positive_by _ _ (rest_a c.a1 c.a2 c.a3 y) (mul_positive y c.a1 hy c.a1_in)
        | a2 ↦ mul_positive y c.a2 hy c.a2_in
        | a3 ↦ mul_positive y c.a3 hy c.a3_in
        | b1 ↦ positive_by _ _ (rest_b x c.b1 c.b2 c.b3) (mul_positive x c.b1 hx c.b1_in)
        | b2 ↦ mul_positive x c.b2 hx c.b2_in
        | b3 ↦ mul_positive x c.b3 hx c.b3_in
      ];
    }

split : (n x y v w a b c p q r : ℤ) → (n -ℤ v -ℤ w +ℤ v +ℤ w) *ℤ ((n -ℤ x -ℤ y) *ℤ a +ℤ x *ℤ b +ℤ y *ℤ c) ≡ (n -ℤ x -ℤ y +ℤ x +ℤ y) *ℤ ((n -ℤ v -ℤ w) *ℤ p +ℤ v *ℤ q +ℤ w *ℤ r) +ℤ n *ℤ ((n -ℤ x -ℤ y) *ℤ a +ℤ x *ℤ b +ℤ y *ℤ c -ℤ ((n -ℤ v -ℤ w) *ℤ p +ℤ v *ℤ q +ℤ w *ℤ r))
split n x y v w a b c p q r =
    let tn = at 0 in let tx = at 1 in let ty = at 2 in let tv = at 3 in let tw = at 4 in let ta = at 5 in let tb = at 6 in let tc = at 7 in let tp = at 8 in let tq = at 9 in let tr = at 10 in
    let m = (tn ⊖ tx ⊖ ty) ⊗ ta ⊕ tx ⊗ tb ⊕ ty ⊗ tc in let k = (tn ⊖ tv ⊖ tw) ⊗ tp ⊕ tv ⊗ tq ⊕ tw ⊗ tr in
    ring (n ∷ x ∷ y ∷ v ∷ w ∷ a ∷ b ∷ c ∷ p ∷ q ∷ r ∷ []) ((tn ⊖ tv ⊖ tw ⊕ tv ⊕ tw) ⊗ m) ((tn ⊖ tx ⊖ ty ⊕ tx ⊕ ty) ⊗ k ⊕ tn ⊗ (m ⊖ k)) refl

and_none : (x n g : ℤ) → g ≡ pos 0 → x +ℤ n *ℤ g ≡ x
and_none x n g e = rw e (omega (arith, ints))

pub point_of : (t s : Face) → Inner t s → CommonPoint t s
point_of t s c =
    let w = c.pose in let n = w.n in let g = gap t s w in let z = c.gone in
    let x = n -ℤ w.a2 -ℤ w.a3 in let u = n -ℤ w.b2 -ℤ w.b3 in
    record {
      a1 = x;
      a2 = w.a2;
      a3 = w.a3;
      b1 = u;
      b2 = w.b2;
      b3 = w.b3;
      a1_in = c.inside a1;
      a2_in = c.inside a2;
      a3_in = c.inside a3;
      b1_in = c.inside b1;
      b2_in = c.inside b2;
      b3_in = c.inside b3;
      same = same_vector (times (u +ℤ w.b2 +ℤ w.b3) (mix3 t x w.a2 w.a3)) (times (x +ℤ w.a2 +ℤ w.a3) (mix3 s u w.b2 w.b3))
          (split n w.a2 w.a3 w.b2 w.b3 t.a.x t.b.x t.c.x s.a.x s.b.x s.c.x ∙ and_none _ n g.x (ap (λ (k : Vector). k.x) z))
          (split n w.a2 w.a3 w.b2 w.b3 t.a.y t.b.y t.c.y s.a.y s.b.y s.c.y ∙ and_none _ n g.y (ap (λ (k : Vector). k.y) z))
          (split n w.a2 w.a3 w.b2 w.b3 t.a.z t.b.z t.c.z s.a.z s.b.z s.c.z ∙ and_none _ n g.z (ap (λ (k : Vector). k.z) z));
    }

-- ---- the corners of the second face in another order, and the faces in the other order
abbrev pub mirrored : Pose → Pose
mirrored w = record { n = w.n; a2 = w.a2; a3 = w.a3; b2 = w.b3; b3 = w.b2 }

turned_coordinate : (n x y a b c v w p q r : ℤ) → (n -ℤ x -ℤ y) *ℤ a +ℤ x *ℤ b +ℤ y *ℤ c -ℤ ((n -ℤ w -ℤ (n -ℤ v -ℤ w)) *ℤ q +ℤ w *ℤ r +ℤ (n -ℤ v -ℤ w) *ℤ p) ≡ (n -ℤ x -ℤ y) *ℤ a +ℤ x *ℤ b +ℤ y *ℤ c -ℤ ((n -ℤ v -ℤ w) *ℤ p +ℤ v *ℤ q +ℤ w *ℤ r)
turned_coordinate n x y a b c v w p q r =
    let tn = at 0 in let tx = at 1 in let ty = at 2 in let ta = at 3 in let tb = at 4 in let tc = at 5 in let tv = at 6 in let tw = at 7 in let tp = at 8 in let tq = at 9 in let tr = at 10 in
    let m = (tn ⊖ tx ⊖ ty) ⊗ ta ⊕ tx ⊗ tb ⊕ ty ⊗ tc in
    ring (n ∷ x ∷ y ∷ a ∷ b ∷ c ∷ v ∷ w ∷ p ∷ q ∷ r ∷ []) (m ⊖ ((tn ⊖ tw ⊖ (tn ⊖ tv ⊖ tw)) ⊗ tq ⊕ tw ⊗ tr ⊕ (tn ⊖ tv ⊖ tw) ⊗ tp)) (m ⊖ ((tn ⊖ tv ⊖ tw) ⊗ tp ⊕ tv ⊗ tq ⊕ tw ⊗ tr)) refl

mirrored_coordinate : (n x y a b c v w p q r : ℤ) → (n -ℤ x -ℤ y) *ℤ a +ℤ x *ℤ b +ℤ y *ℤ c -ℤ ((n -ℤ w -ℤ v) *ℤ p +ℤ w *ℤ r +ℤ v *ℤ q) ≡ (n -ℤ x -ℤ y) *ℤ a +ℤ x *ℤ b +ℤ y *ℤ c -ℤ ((n -ℤ v -ℤ w) *ℤ p +ℤ v *ℤ q +ℤ w *ℤ r)
mirrored_coordinate n x y a b c v w p q r =
    let tn = at 0 in let tx = at 1 in let ty = at 2 in let ta = at 3 in let tb = at 4 in let tc = at 5 in let tv = at 6 in let tw = at 7 in let tp = at 8 in let tq = at 9 in let tr = at 10 in
    let m = (tn ⊖ tx ⊖ ty) ⊗ ta ⊕ tx ⊗ tb ⊕ ty ⊗ tc in
    ring (n ∷ x ∷ y ∷ a ∷ b ∷ c ∷ v ∷ w ∷ p ∷ q ∷ r ∷ []) (m ⊖ ((tn ⊖ tw ⊖ tv) ⊗ tp ⊕ tw ⊗ tr ⊕ tv ⊗ tq)) (m ⊖ ((tn ⊖ tv ⊖ tw) ⊗ tp ⊕ tv ⊗ tq ⊕ tw ⊗ tr)) refl

first_turned : (n v w : ℤ) → pos 0 <ℤ v → pos 0 <ℤ (n -ℤ w -ℤ (n -ℤ v -ℤ w))
first_turned n v w h = omega (arith, ints, h)

first_mirrored : (n v w : ℤ) → pos 0 <ℤ (n -ℤ v -ℤ w) → pos 0 <ℤ (n -ℤ w -ℤ v)
first_mirrored n v w h = omega (arith, ints, h)

pub turned_inner : (t s : Face) → Inner t s → Inner t (turn_of s)
turned_inner t s c =
    let w = c.pose in
    let e : gap t (turn_of s) (turned w) ≡ gap t s w = same_vector (gap t (turn_of s) (turned w)) (gap t s w)
    (turned_coordinate w.n w.a2 w.a3 t.a.x t.b.x t.c.x w.b2 w.b3 s.a.x s.b.x s.c.x)
    (turned_coordinate w.n w.a2 w.a3 t.a.y t.b.y t.c.y w.b2 w.b3 s.a.y s.b.y s.c.y)
    (turned_coordinate w.n w.a2 w.a3 t.a.z t.b.z t.c.z w.b2 w.b3 s.a.z s.b.z s.c.z) in
    record {
      pose = turned w;
      gone = e ∙ c.gone;
      inside = λ o. elim o as (λ (o : Six). pos 0 <ℤ weight o (turned w)) [
        | a1 ↦ c.inside a1
        | a2 ↦ c.inside a2
        | a3 ↦ c.inside a3
        | b1 ↦ first_turned w.n w.b2 w.b3 (c.inside b2)
        | b2 ↦ c.inside b3
        | b3 ↦ c.inside b1
      ];
    }

pub mirrored_inner : (t s : Face) → Inner t s → Inner t (mirror_of s)
mirrored_inner t s c =
    let w = c.pose in
    let e : gap t (mirror_of s) (mirrored w) ≡ gap t s w = same_vector (gap t (mirror_of s) (mirrored w)) (gap t s w)
    (mirrored_coordinate w.n w.a2 w.a3 t.a.x t.b.x t.c.x w.b2 w.b3 s.a.x s.b.x s.c.x)
    (mirrored_coordinate w.n w.a2 w.a3 t.a.y t.b.y t.c.y w.b2 w.b3 s.a.y s.b.y s.c.y)
    (mirrored_coordinate w.n w.a2 w.a3 t.a.z t.b.z t.c.z w.b2 w.b3 s.a.z s.b.z s.c.z) in
    record {
      pose = mirrored w;
      gone = e ∙ c.gone;
      inside = λ o. elim o as (λ (o : Six). pos 0 <ℤ weight o (mirrored w)) [
        | a1 ↦ c.inside a1
        | a2 ↦ c.inside a2
        | a3 ↦ c.inside a3
        | b1 ↦ first_mirrored w.n w.b2 w.b3 (c.inside b1)
        | b2 ↦ c.inside b3
        | b3 ↦ c.inside b2
      ];
    }

back_none : (x y : ℤ) → x -ℤ y ≡ pos 0 → y -ℤ x ≡ pos 0
back_none x y e = omega (arith, ints, e)

back_minus : (u v : Vector) → minus u v ≡ nowhere → minus v u ≡ nowhere
back_minus u v e = same_vector (minus v u) nowhere (back_none u.x v.x (ap (λ (k : Vector). k.x) e)) (back_none u.y v.y (ap (λ (k : Vector). k.y) e)) (back_none u.z v.z (ap (λ (k : Vector). k.z) e))

pub swapped_gap : (t s : Face) (w : Pose) → gap t s w ≡ nowhere → gap s t (swap w) ≡ nowhere
swapped_gap t s w e = back_minus (mix3 t (w.n -ℤ w.a2 -ℤ w.a3) w.a2 w.a3) (mix3 s (w.n -ℤ w.b2 -ℤ w.b3) w.b2 w.b3) e

pub swapped_inner : (t s : Face) → Inner t s → Inner s t
swapped_inner t s c =
    record {
      pose = swap c.pose;
      gone = swapped_gap t s c.pose c.gone;
      inside = λ o. elim o as (λ (o : Six). pos 0 <ℤ weight o (swap c.pose)) [
        | a1 ↦ c.inside b1
        | a2 ↦ c.inside b2
        | a3 ↦ c.inside b3
        | b1 ↦ c.inside a1
        | b2 ↦ c.inside a2
        | b3 ↦ c.inside a3
      ];
    }

-- ---- faces with such a point that don't lie in one plane
pub record Cross (t s : Face) : Type 0 where
  pub off_t : OffPlane t s
  pub off_s : OffPlane s t
  pub inner : Inner t s

pub pierce_cross : (t s : Face) → FacesPierce t s → Cross t s
pierce_cross t s p =
    record {
      off_t = elim p.off [ inl f ↦ f | inr f ↦ λ h. f (flat t s p.first_area h) ];
      off_s = elim p.off [ inl f ↦ λ h. f (flat s t p.second_area h) | inr f ↦ f ];
      inner = inner_of t s p.inside;
    }

pub cross_pierce : (t s : Face) → Cross t s → FacesPierce t s
cross_pierce t s c = record { first_area = off_area t s c.off_t; second_area = off_area s t c.off_s; off = inl c.off_t; inside = point_of t s c.inner }

from_back : (x : ℤ) → pos 0 -ℤ x ≡ pos 0 → x ≡ pos 0
from_back x e = omega (arith, ints, e)

pub swapped : (t s : Face) → Cross t s → Cross s t
swapped t s c = record { off_t = c.off_s; off_s = c.off_t; inner = swapped_inner t s c.inner }

pub turned_cross : (t s : Face) → Cross t s → Cross t (turn_of s)
turned_cross t s c =
    record {
      off_t = λ h. c.off_t (record { a_in = h.c_in; b_in = h.a_in; c_in = h.b_in });
      off_s = λ h. c.off_s (record { a_in = sym (turned_height t.a s) ∙ h.a_in; b_in = sym (turned_height t.b s) ∙ h.b_in; c_in = sym (turned_height t.c s) ∙ h.c_in });
      inner = turned_inner t s c.inner;
    }

pub mirrored_cross : (t s : Face) → Cross t s → Cross t (mirror_of s)
mirrored_cross t s c =
    record {
      off_t = λ h. c.off_t (record { a_in = h.a_in; b_in = h.c_in; c_in = h.b_in });
      off_s = λ h. c.off_s (record {
        a_in = from_back (height t.a s) (sym (mirrored_height t.a s) ∙ h.a_in);
        b_in = from_back (height t.b s) (sym (mirrored_height t.b s) ∙ h.b_in);
        c_in = from_back (height t.c s) (sym (mirrored_height t.c s) ∙ h.c_in);
      });
      inner = mirrored_inner t s c.inner;
    }
