-- Faces with a common point inside, their corners brought in the order in which the first are alone above the other's plane
use Rattle.std.proofs.Common.{◌≡◌, ◌↔◌, inl, inr, arith, ℤ, pos, ◌+ℤ◌, ◌-ℤ◌, ◌<ℤ◌, sym, subst}
use Rattle.std.proofs.lemmas.Int.{ints}
use Rattle.exact_arith.specs.Space.{Face}
use Rattle.tri_exact.specs.Pierce.{height}
use Rattle.tri_pierce.specs.Piercing.{FacesPierce}
use Rattle.tri_pierce.specs.PiercingSigns.{face_by}
use Rattle.tri_pierce.specs.inner.LoneCorners.{turn_of, mirror_of, Split, Alone, Lone, AloneOver, LoneOver}
use Rattle.tri_pierce.proofs.PlaneSides.{turned_height, mirrored_height}
use Rattle.tri_pierce.proofs.InnerPoints.{Cross, pierce_cross, cross_pierce, swapped, turned_cross, mirrored_cross}
use Rattle.tri_exact.proofs.Weights.{b1, b2, b3}
use Rattle.tri_pierce.proofs.Overlap.{Linked, balance, linked_cross, inner_linked}
use Rattle.tri_pierce.proofs.LoneSigns.{split_by, lone_of}

-- ---- heights in other names
alone_along : {h k l p q r : ℤ} → h ≡ p → k ≡ q → l ≡ r → Alone h k l → Alone p q r
alone_along {h} {k} {l} {p} {q} {r} e f g a = subst (λ (z : ℤ). Alone p q z) g (subst (λ (y : ℤ). Alone p y l) f (subst (λ (x : ℤ). Alone x k l) e a))

pub lone_along : {h k l p q r : ℤ} → h ≡ p → k ≡ q → l ≡ r → Lone h k l → Lone p q r
lone_along {h} {k} {l} {p} {q} {r} e f g a = subst (λ (z : ℤ). Lone p q z) g (subst (λ (y : ℤ). Lone p y l) f (subst (λ (x : ℤ). Lone x k l) e a))

-- ---- the plane's face, or the other, in another order
pub turned_under : (t s : Face) → LoneOver t s → LoneOver (turn_of t) s
turned_under t s a = lone_along (sym (turned_height s.a t)) (sym (turned_height s.b t)) (sym (turned_height s.c t)) a

mirrored_under : (t s : Face) → Alone (pos 0 -ℤ height s.a t) (pos 0 -ℤ height s.b t) (pos 0 -ℤ height s.c t) → AloneOver (mirror_of t) s
mirrored_under t s a = alone_along (sym (mirrored_height s.a t)) (sym (mirrored_height s.b t)) (sym (mirrored_height s.c t)) a

comm : (k l : ℤ) → (k +ℤ l) <ℤ pos 0 → (l +ℤ k) <ℤ pos 0
comm k l h = omega (arith, ints, h)

alone_mirrored : {h k l : ℤ} → Alone h k l → Alone h l k
alone_mirrored {h} {k} {l} a = record { above = a.above; second = a.third; third = a.second; below = comm k l a.below }

-- ---- a corner that is alone, by the side on which it is
clash : (x : ℤ) → pos 0 <ℤ x → pos 0 <ℤ (pos 0 -ℤ x) → ⊥
clash x h k = omega (arith, ints, h, k)

pub over_up : (t s : Face) → LoneOver t s → pos 0 <ℤ height s.a t → AloneOver t s
over_up t s (inl a) h = a
over_up t s (inr a) h = absurd (clash (height s.a t) h a.above)

pub over_down : (t s : Face) → LoneOver t s → (pos 0 <ℤ height s.a t → ⊥) → AloneOver (mirror_of t) s
over_down t s (inl a) h = absurd (h a.above)
over_down t s (inr a) h = mirrored_under t s a

pub mirrored_over : (t s : Face) → AloneOver t s → AloneOver t (mirror_of s)
mirrored_over t s a = alone_mirrored a

-- ---- the first face in another order
turned_cross_first : (t s : Face) → Cross t s → Cross (turn_of t) s
turned_cross_first t s c = swapped s (turn_of t) (turned_cross s t (swapped t s c))

mirrored_first : (t s : Face) → Cross t s → Cross (mirror_of t) s
mirrored_first t s c = swapped s (mirror_of t) (mirrored_cross s t (swapped t s c))

-- ---- the orders of the corners
pub data Order : Type 0 where
  abc : Order
  bca : Order
  cab : Order
  acb : Order
  bac : Order
  cba : Order

abbrev pub ordered : Order → Face → Face
ordered abc t = face_by t.a t.b t.c
ordered bca t = face_by t.b t.c t.a
ordered cab t = face_by t.c t.a t.b
ordered acb t = face_by t.a t.c t.b
ordered bac t = face_by t.b t.a t.c
ordered cba t = face_by t.c t.b t.a

abbrev pub Found : Face → Face → Type 0
Found t s = (i : Order) × (j : Order) × Linked (ordered i t) (ordered j s)

turned_first : (t s : Face) → Found (turn_of t) s → Found t s
turned_first t s (abc, j, l) = (bca, j, l)
turned_first t s (bca, j, l) = (cab, j, l)
turned_first t s (cab, j, l) = (abc, j, l)
turned_first t s (acb, j, l) = (bac, j, l)
turned_first t s (bac, j, l) = (cba, j, l)
turned_first t s (cba, j, l) = (acb, j, l)

turned_second : (t s : Face) → Found t (turn_of s) → Found t s
turned_second t s (i, abc, l) = (i, bca, l)
turned_second t s (i, bca, l) = (i, cab, l)
turned_second t s (i, cab, l) = (i, abc, l)
turned_second t s (i, acb, l) = (i, bac, l)
turned_second t s (i, bac, l) = (i, cba, l)
turned_second t s (i, cba, l) = (i, acb, l)

-- ---- from faces that pierce to an order
heights_split : (t s : Face) → Cross t s → Split (height s.a t) (height s.b t) (height s.c t)
heights_split t s c =
    let w = c.inner.pose in
    split_by (w.n -ℤ w.b2 -ℤ w.b3) w.b2 w.b3 (height s.a t) (height s.b t) (height s.c t) (c.inner.inside b1) (c.inner.inside b2) (c.inner.inside b3)
    (λ z. c.off_t (record { a_in = z.0; b_in = z.1.0; c_in = z.1.1 })) (balance t s w c.inner.gone)

both_lone : (t s : Face) → LoneOver t s → LoneOver s t → Cross t s → Found t s
both_lone t s (inl f) (inl g) c = (abc, abc, inner_linked t s f g c.inner)
both_lone t s (inl f) (inr g) c = (abc, acb, inner_linked t (mirror_of s) (mirrored_over t s f) (mirrored_under s t g) (mirrored_cross t s c).inner)
both_lone t s (inr f) (inl g) c = (acb, abc, inner_linked (mirror_of t) s (mirrored_under t s f) (mirrored_over s t g) (mirrored_first t s c).inner)
both_lone t s (inr f) (inr g) c =
    (acb, acb, inner_linked (mirror_of t) (mirror_of s) (mirrored_over (mirror_of t) s (mirrored_under t s f)) (mirrored_over (mirror_of s) t (mirrored_under s t g)) (mirrored_cross (mirror_of t) s (mirrored_first t s c)).inner)

first_lone : (t s : Face) → LoneOver t s → Cross t s → Found t s
first_lone t s f c =
    elim (lone_of (height t.a s) (height t.b s) (height t.c s) (heights_split s t (swapped t s c))) [
      | inl g ↦ both_lone t s f g c
      | inr z ↦ elim z [
        | inl g ↦ turned_first t s (both_lone (turn_of t) s (turned_under t s f) g (turned_cross_first t s c))
        | inr g ↦
            let u = turn_of t in
            turned_first t s (turned_first u s (both_lone (turn_of u) s (turned_under u s (turned_under t s f)) g (turned_cross_first u s (turned_cross_first t s c))))
      ]
    ]

pub cross_found : (t s : Face) → Cross t s → Found t s
cross_found t s c =
    elim (lone_of (height s.a t) (height s.b t) (height s.c t) (heights_split t s c)) [
      | inl f ↦ first_lone t s f c
      | inr z ↦ elim z [
        | inl f ↦ turned_second t s (first_lone t (turn_of s) f (turned_cross t s c))
        | inr f ↦
            let u = turn_of s in
            turned_second t s (turned_second t u (first_lone t (turn_of u) f (turned_cross t u (turned_cross t s c))))
      ]
    ]

-- ---- and back
order_first : (t s : Face) (i : Order) → Cross (ordered i t) s → Cross t s
order_first t s abc c = c
order_first t s bca c = turned_cross_first (turn_of (turn_of t)) s (turned_cross_first (turn_of t) s c)
order_first t s cab c = turned_cross_first (turn_of (turn_of t)) s c
order_first t s acb c = mirrored_first (mirror_of t) s c
order_first t s bac c = turned_cross_first (turn_of (turn_of t)) s (turned_cross_first (turn_of t) s (mirrored_first (mirror_of (turn_of t)) s c))
order_first t s cba c = turned_cross_first (turn_of (turn_of t)) s (mirrored_first (mirror_of (turn_of (turn_of t))) s c)

pub found_cross : (t s : Face) → Found t s → Cross t s
found_cross t s (i, j, l) =
    let c = linked_cross (ordered i t) (ordered j s) l in
    order_first t s i (swapped s (ordered i t) (order_first s (ordered i t) j (swapped (ordered i t) (ordered j s) c)))

-- ---- piercing of faces in other orders
pub turned_pierces : (t s : Face) → FacesPierce t (turn_of s) ↔ FacesPierce t s
turned_pierces t s = (
  λ p. let u = turn_of s in cross_pierce t s (turned_cross t (turn_of u) (turned_cross t u (pierce_cross t u p))),
  λ p. cross_pierce t (turn_of s) (turned_cross t s (pierce_cross t s p)),
)

pub turned_first_pierces : (t s : Face) → FacesPierce (turn_of t) s ↔ FacesPierce t s
turned_first_pierces t s = (
  λ p. let u = turn_of t in cross_pierce t s (turned_cross_first (turn_of u) s (turned_cross_first u s (pierce_cross u s p))),
  λ p. cross_pierce (turn_of t) s (turned_cross_first t s (pierce_cross t s p)),
)

pub mirrored_pierces : (t s : Face) → FacesPierce t (mirror_of s) ↔ FacesPierce t s
mirrored_pierces t s = (
  λ p. cross_pierce t s (mirrored_cross t (mirror_of s) (pierce_cross t (mirror_of s) p)),
  λ p. cross_pierce t (mirror_of s) (mirrored_cross t s (pierce_cross t s p)),
)

pub mirrored_first_pierces : (t s : Face) → FacesPierce (mirror_of t) s ↔ FacesPierce t s
mirrored_first_pierces t s = (
  λ p. cross_pierce t s (mirrored_first (mirror_of t) s (pierce_cross (mirror_of t) s p)),
  λ p. cross_pierce (mirror_of t) s (mirrored_first t s (pierce_cross t s p)),
)

-- what the code tests of faces whose first corners are alone above the other's plane
pub linked_pierces : (t s : Face) → Linked t s → FacesPierce t s
linked_pierces t s l = cross_pierce t s (linked_cross t s l)

pub pierces_linked : (t s : Face) → AloneOver t s → AloneOver s t → FacesPierce t s → Linked t s
pierces_linked t s f g p = inner_linked t s f g (pierce_cross t s p).inner

-- the heights of a face that pierces another are on both sides of its plane
pub pierces_split : (t s : Face) → FacesPierce t s → Split (height s.a t) (height s.b t) (height s.c t)
pierces_split t s p = heights_split t s (pierce_cross t s p)

pub pierces_swap : (t s : Face) → FacesPierce t s → FacesPierce s t
pierces_swap t s p = cross_pierce s t (swapped t s (pierce_cross t s p))

-- ---- the code's answers, for faces in other names
pub chain : {P Q R : Type 0} → P ↔ Q → Q ↔ R → P ↔ R
chain f g = (λ x. g.0 (f.0 x), λ y. f.1 (g.1 y))

pub pierces_along : {P : Type 0} (t s p q : Face) → t ≡ p → s ≡ q → P ↔ FacesPierce t s → P ↔ FacesPierce p q
pierces_along {P} t s p q e f h = subst (λ (x : Face). P ↔ FacesPierce p x) f (subst (λ (x : Face). P ↔ FacesPierce x s) e h)
