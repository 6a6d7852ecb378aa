-- The truth values say what the definitions by weights say.
use Rattle.std.proofs.Common.{Bool, true, false, ◌&&◌, ◌||◌, ◌≡◌, ◌↔◌, ◌⊎◌, inl, inr, IsTrue, arith, ℤ, pos, ◌+ℤ◌, ◌≤ℤ◌, ◌<ℤ◌, List, refl}
use Rattle.std.specs.Prelude.{Any, int_le, int_lt}
use Rattle.std.specs.Bool.{Decides}
use Rattle.std.specs.List.{list_any}
use Rattle.std.proofs.lemmas.Bool.Decides.{Decides-and, Decides-or, Decides-like, same_from_decides}
use Rattle.std.proofs.lemmas.List.Folds.{Any-from_list_any, list_any-from_Any}
use Rattle.std.proofs.lemmas.Int.{ints}
use Rattle.exact_arith.specs.Space.{Face}
use Rattle.bim_model.specs.Points.{shape_of}
use Rattle.bim_model.specs.declared.geometry.Triangle.{Triangle}
use Rattle.bim_model.specs.declared.element.Element.{Element}
use Rattle.tri_exact.specs.Foot.{orient_of}
use Rattle.tri_exact.specs.Pierce.{height}
use Rattle.clearance.proofs.Lists.{any_map}
use Rattle.tri_pierce.specs.Piercing.{FacesPierce, Pierces, PiercesAny, ListsPierce, ElementsPierce}
use Rattle.tri_pierce.specs.PiercingSigns.{is_alone, is_alone_over, is_linked, is_in_some_order, is_face_piercing, is_piercing_triangles, is_piercing_lists, is_piercing}
use Rattle.tri_pierce.specs.inner.LoneCorners.{Alone, AloneOver}
use Rattle.tri_pierce.proofs.InnerPoints.{pierce_cross, cross_pierce}
use Rattle.tri_pierce.proofs.Overlap.{Linked}
use Rattle.tri_pierce.proofs.CornerOrders.{Order, abc, bca, cab, acb, bac, cba, ordered, found_cross, cross_found, pierces_swap}

-- ---- comparisons
unless : (t : Bool) → (t ≡ false → ⊥) → t ≡ true
unless true f = refl
unless false f = absurd (f refl)

le : (a b : ℤ) → Decides (int_le a b) (a ≤ℤ b)
le a b = (λ e. omega (arith, ints, e), λ h. unless (int_le a b) (λ e. omega (arith, ints, e, h)))

lt : (a b : ℤ) → Decides (int_lt a b) (a <ℤ b)
lt a b = (λ e. omega (arith, ints, e), λ h. unless (int_lt a b) (λ e. omega (arith, ints, e, h)))

-- ---- one order
alone : (h k l : ℤ) → Decides (is_alone h k l) (Alone h k l)
alone h k l =
    Decides-like (is_alone h k l)
    (λ c. record { above = c.0; second = c.1.0; third = c.1.1.0; below = c.1.1.1 }) (λ c. (c.above, (c.second, (c.third, c.below))))
    (Decides-and (int_lt (pos 0) h) (int_le k (pos 0) && (int_le l (pos 0) && int_lt (k +ℤ l) (pos 0))) (lt (pos 0) h)
    (Decides-and (int_le k (pos 0)) (int_le l (pos 0) && int_lt (k +ℤ l) (pos 0)) (le k (pos 0))
    (Decides-and (int_le l (pos 0)) (int_lt (k +ℤ l) (pos 0)) (le l (pos 0)) (lt (k +ℤ l) (pos 0)))))

alone_over : (t s : Face) → Decides (is_alone_over t s) (AloneOver t s)
alone_over t s = alone (height s.a t) (height s.b t) (height s.c t)

linked_numbers : {P Q : Type 0} (x y : Bool) (u v : ℤ) → Decides x P → Decides y Q → Decides (x && (y && (int_lt u (pos 0) && int_lt (pos 0) v))) (P × (Q × ((u <ℤ pos 0) × (pos 0 <ℤ v))))
linked_numbers x y u v p q =
    Decides-and x (y && (int_lt u (pos 0) && int_lt (pos 0) v)) p
    (Decides-and y (int_lt u (pos 0) && int_lt (pos 0) v) q
    (Decides-and (int_lt u (pos 0)) (int_lt (pos 0) v) (lt u (pos 0)) (lt (pos 0) v)))

linked : (t s : Face) → Decides (is_linked t s) (Linked t s)
linked t s =
    Decides-like (is_linked t s)
    (λ c. record { over_t = c.0; over_s = c.1.0; second = c.1.1.0; third = c.1.1.1 }) (λ l. (l.over_t, (l.over_s, (l.second, l.third))))
    (linked_numbers (is_alone_over t s) (is_alone_over s t) (orient_of t.a t.b s.a s.b) (orient_of t.a t.c s.a s.c) (alone_over t s) (alone_over s t))

-- ---- some order
abbrev Some : (Face → Type 0) → Face → Type 0
Some P t = P (ordered abc t) ⊎ (P (ordered bca t) ⊎ (P (ordered cab t) ⊎ (P (ordered acb t) ⊎ (P (ordered bac t) ⊎ P (ordered cba t)))))

some : (f : Face → Bool) (P : Face → Type 0) → ((t : Face) → Decides (f t) (P t)) → (t : Face) → Decides (is_in_some_order f t) (Some P t)
some f P each t =
    let a = ordered abc t in let b = ordered bca t in let c = ordered cab t in let d = ordered acb t in let e = ordered bac t in let g = ordered cba t in
    Decides-or (f a) (f b || (f c || (f d || (f e || f g)))) (each a)
    (Decides-or (f b) (f c || (f d || (f e || f g))) (each b)
    (Decides-or (f c) (f d || (f e || f g)) (each c)
    (Decides-or (f d) (f e || f g) (each d)
    (Decides-or (f e) (f g) (each e) (each g)))))

to_some : (P : Face → Type 0) (t : Face) (i : Order) → P (ordered i t) → Some P t
to_some P t abc p = inl p
to_some P t bca p = inr (inl p)
to_some P t cab p = inr (inr (inl p))
to_some P t acb p = inr (inr (inr (inl p)))
to_some P t bac p = inr (inr (inr (inr (inl p))))
to_some P t cba p = inr (inr (inr (inr (inr p))))

from_some : (P : Face → Type 0) (t : Face) → Some P t → (i : Order) × P (ordered i t)
from_some P t (inl p) = (abc, p)
from_some P t (inr (inl p)) = (bca, p)
from_some P t (inr (inr (inl p))) = (cab, p)
from_some P t (inr (inr (inr (inl p)))) = (acb, p)
from_some P t (inr (inr (inr (inr (inl p))))) = (bac, p)
from_some P t (inr (inr (inr (inr (inr p))))) = (cba, p)

abbrev Both : Face → Face → Type 0
Both t s = Some (λ (u : Face). Some (λ (v : Face). Linked u v) s) t

both_pierce : (t s : Face) → Both t s → FacesPierce t s
both_pierce t s b =
    let r = from_some (λ (u : Face). Some (λ (v : Face). Linked u v) s) t b in
    let q = from_some (λ (v : Face). Linked (ordered r.0 t) v) s r.1 in
    cross_pierce t s (found_cross t s (r.0, q.0, q.1))

pierce_both : (t s : Face) → FacesPierce t s → Both t s
pierce_both t s p =
    let (i, j, l) = cross_found t s (pierce_cross t s p) in
    to_some (λ (u : Face). Some (λ (v : Face). Linked u v) s) t i (to_some (λ (v : Face). Linked (ordered i t) v) s j l)

face_decided : (t s : Face) → Decides (is_face_piercing t s) (FacesPierce t s)
face_decided t s =
    Decides-like (is_face_piercing t s) (both_pierce t s) (pierce_both t s)
    (some (λ (u : Face). is_in_some_order (λ (v : Face). is_linked u v) s) (λ (u : Face). Some (λ (v : Face). Linked u v) s)
    (λ u. some (λ (v : Face). is_linked u v) (λ (v : Face). Linked u v) (λ v. linked u v) s) t)

-- ---- triangles, lists and elements
pub triangles_decided : (p q : Triangle) → IsTrue (is_piercing_triangles p q) ↔ Pierces p q
unfolding is_piercing_triangles Pierces
triangles_decided p q = face_decided (shape_of p) (shape_of q)

any_decided : {X : Type 0} (test : X → Bool) (P : X → Type 0) (xs : List X) → ((x : X) → Decides (test x) (P x)) → Decides (list_any test xs) (Any P xs)
any_decided test P xs each = (
  λ e. any_map (λ x. test x ≡ true) P xs (λ x. (each x).0) (Any-from_list_any test xs e),
  λ a. list_any-from_Any test xs (any_map P (λ x. test x ≡ true) xs (λ x. (each x).1) a),
)

pub lists_decided : (ps qs : List Triangle) → IsTrue (is_piercing_lists ps qs) ↔ ListsPierce ps qs
unfolding is_piercing_lists
lists_decided ps qs =
    any_decided (λ (p : Triangle). list_any (λ (q : Triangle). is_piercing_triangles p q) qs) (λ (p : Triangle). PiercesAny p qs) ps
    (λ p. any_decided (λ (q : Triangle). is_piercing_triangles p q) (λ (q : Triangle). Pierces p q) qs (λ q. triangles_decided p q))

pub elements_decided : (a b : Element) → IsTrue (is_piercing a b) ↔ ElementsPierce a b
unfolding is_piercing ElementsPierce
elements_decided a b = lists_decided a.triangles b.triangles

-- ---- an answer that is true exactly where they pierce is the truth value
pub triangles_told : (r : Bool) (p q : Triangle) → IsTrue r ↔ Pierces p q → r ≡ is_piercing_triangles p q
triangles_told r p q h = same_from_decides r (is_piercing_triangles p q) h (triangles_decided p q)

pub lists_told : (r : Bool) (ps qs : List Triangle) → IsTrue r ↔ ListsPierce ps qs → r ≡ is_piercing_lists ps qs
lists_told r ps qs h = same_from_decides r (is_piercing_lists ps qs) h (lists_decided ps qs)

pub elements_told : (r : Bool) (a b : Element) → IsTrue r ↔ ElementsPierce a b → r ≡ is_piercing a b
elements_told r a b h = same_from_decides r (is_piercing a b) h (elements_decided a b)

-- ---- each pierces the other
pub triangles_swap : (p q : Triangle) → Pierces p q → Pierces q p
unfolding Pierces
triangles_swap p q h = pierces_swap (shape_of p) (shape_of q) h

pub lists_swap : (ps qs : List Triangle) → ListsPierce ps qs → ListsPierce qs ps
lists_swap ps qs (k, p, lt, e, (l, q, gt, f, h)) = (l, q, gt, f, (k, p, lt, e, triangles_swap p q h))

pub elements_swap : (a b : Element) → ElementsPierce a b → ElementsPierce b a
unfolding ElementsPierce
elements_swap a b (k, p, lt, e, (l, q, gt, f, h)) = (l, q, gt, f, (k, p, lt, e, triangles_swap p q h))
