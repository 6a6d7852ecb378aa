-- Surfaces that are near have boxes with small gaps.
use Rattle.std.proofs.Common.{◌≡◌, ℕ, ◌<◌, inl, inr, ℤ, ◌≤ℤ◌, ◌&&◌, leb, Bool, true, List, [], ◌∷◌, length, get_or, map, All, IsTrue, refl, sym, subst, arith}
use Rattle.std.proofs.lemmas.List.{get_or-map, length-map}
use Rattle.std.proofs.lemmas.List.Elements.{All-head, All-tail, All-nil, All-cons}
use Rattle.std.proofs.lemmas.Bool.Decides.{leb_tells}
use Rattle.bim_model.specs.Boxes.{corners_of, Bounds, IsExtentOf}
use Rattle.bim_model.specs.Points.{vector_of, shape_of}
use Rattle.bim_model.specs.Gaps.{gap, is_within}
use Rattle.bim_model.specs.declared.geometry.Point.{Point}
use Rattle.bim_model.specs.declared.geometry.Triangle.{Triangle}
use Rattle.bim_model.specs.declared.geometry.Extent.{Extent}
use Rattle.bim_model.specs.declared.element.Element.{Element}
use Rattle.clearance.specs.Near.{ListsNear, ElementsNear}
use Rattle.clearance.specs.inner.BoxContainment.{Between, InExtent, IsOff}
use Rattle.clearance.proofs.OffBoxes.{off_far}

-- ---- the triangles lie in their box
least_of : (f : Point → ℤ) (ps : List Point) (low : ℤ) → All (λ n. low ≤ℤ n) (map f ps) → (k : ℕ) (d : Point) → k < length ps → low ≤ℤ f (get_or ps k d)
least_of f ps low h k d l = subst (λ z. low ≤ℤ z) (get_or-map f ps k d (f d) l) (h k (f d) (subst (λ n. k < n) (sym (length-map ps f)) l))

greatest_of : (f : Point → ℤ) (ps : List Point) (high : ℤ) → All (λ n. n ≤ℤ high) (map f ps) → (k : ℕ) (d : Point) → k < length ps → f (get_or ps k d) ≤ℤ high
greatest_of f ps high h k d l = subst (λ z. z ≤ℤ high) (get_or-map f ps k d (f d) l) (h k (f d) (subst (λ n. k < n) (sym (length-map ps f)) l))

abbrev IsInside : Extent → Point → Type 0
IsInside e p = Between (vector_of e.low) (vector_of e.high) (vector_of p)

inside : (ps : List Point) (e : Extent) → Bounds ps e → All (IsInside e) ps
inside ps e b k d l = record {
  x_low = least_of (λ (p : Point). p.x) ps e.low.x b.low_x.bound k d l;
  y_low = least_of (λ (p : Point). p.y) ps e.low.y b.low_y.bound k d l;
  z_low = least_of (λ (p : Point). p.z) ps e.low.z b.low_z.bound k d l;
  x_high = greatest_of (λ (p : Point). p.x) ps e.high.x b.high_x.bound k d l;
  y_high = greatest_of (λ (p : Point). p.y) ps e.high.y b.high_y.bound k d l;
  z_high = greatest_of (λ (p : Point). p.z) ps e.high.z b.high_z.bound k d l;
}

by_corners : (ts : List Triangle) (e : Extent) → All (IsInside e) (corners_of ts) → All (λ (t : Triangle). InExtent e (shape_of t)) ts
by_corners [] e h = All-nil (λ (t : Triangle). InExtent e (shape_of t))
by_corners (t ∷ ts) e h =
    let b = All-tail (IsInside e) t.a (t.b ∷ t.c ∷ corners_of ts) h in
    let c = All-tail (IsInside e) t.b (t.c ∷ corners_of ts) b in
    All-cons (λ (u : Triangle). InExtent e (shape_of u)) t ts
    (record { a_in = All-head (IsInside e) t.a (t.b ∷ t.c ∷ corners_of ts) h; b_in = All-head (IsInside e) t.b (t.c ∷ corners_of ts) b; c_in = All-head (IsInside e) t.c (corners_of ts) c })
    (by_corners ts e (All-tail (IsInside e) t.c (corners_of ts) c))

pub in_extent : (ts : List Triangle) (e : Extent) → IsExtentOf ts e → All (λ (t : Triangle). InExtent e (shape_of t)) ts
in_extent ts e b = by_corners ts e (inside (corners_of ts) e b)

-- ---- lists with a gap between their boxes are not near
off_lists : (ps qs : List Triangle) (k m : Extent) (d : ℕ) → IsExtentOf ps k → IsExtentOf qs m → IsOff k m d → ListsNear ps qs d → ⊥
off_lists ps qs k m d f g off near =
    let p = near.1 in
    let found = near.4 in
    let q = found.1 in
    let p_in = subst (λ (t : Triangle). InExtent k (shape_of t)) near.3 (in_extent ps k f near.0 p near.2) in
    let q_in = subst (λ (t : Triangle). InExtent m (shape_of t)) found.3 (in_extent qs m g found.0 q found.2) in
    off_far k m (shape_of p) (shape_of q) d p_in q_in off found.4

close : (low high other_low other_high : ℤ) (d : ℕ) → (d < gap low high other_low other_high → ⊥) → leb (gap other_low other_high low high) d ≡ true
close low high other_low other_high d never =
    elim (leb_tells (gap other_low other_high low high) d) [ inl y ↦ y.0 | inr y ↦ let z = y.1 in absurd (never (omega (arith, z))) ]

all_three : (a b c : Bool) → a ≡ true → b ≡ true → c ≡ true → (a && b && c) ≡ true
all_three a b c e f g = rw (e, f, g) refl

pub not_off : (k m : Extent) (d : ℕ) → (IsOff k m d → ⊥) → IsTrue (is_within k d m)
not_off k m d never =
    all_three _ _ _ (close k.low.x k.high.x m.low.x m.high.x d (λ h. never (inl h))) (close k.low.y k.high.y m.low.y m.high.y d (λ h. never (inr (inl h)))) (close k.low.z k.high.z m.low.z m.high.z d (λ h. never (inr (inr h))))

pub lists_within : (ps qs : List Triangle) (k m : Extent) (d : ℕ) → IsExtentOf ps k → IsExtentOf qs m → ListsNear ps qs d → IsTrue (is_within k d m)
lists_within ps qs k m d f g near = not_off k m d (λ o. off_lists ps qs k m d f g o near)

pub elements_within : (a b : Element) (k m : Extent) (d : ℕ) → IsExtentOf a.triangles k → IsExtentOf b.triangles m → ElementsNear a b d → IsTrue (is_within k d m)
unfolding ElementsNear
elements_within a b k m d f g near = lists_within a.triangles b.triangles k m d f g near
