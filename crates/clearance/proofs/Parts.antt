-- What holds of a list exactly where it holds of its front or of what is behind, and what is left of a list
use Rattle.std.proofs.Common.{ℕ, zero, suc, ◌≡◌, ◌⊎◌, inl, inr, List, [], ◌∷◌, ◌++◌, length, take, drop, ◌<◌, ◌≤◌, ◌+◌, ◌-◌, ◌*◌, ◌==◌, min, false, refl, ap, ◌∙◌, arith, subst, sym, take_all}
use Rattle.std.specs.Prelude.{slice_index_or, slice_set}
use Rattle.std.proofs.lemmas.List.{drop_more, take_more_set, append_assoc, append-nil}
use Rattle.bim_model.specs.declared.geometry.Triangle.{Triangle}
use Rattle.bim_model.specs.declared.geometry.Extent.{Extent}
use Rattle.clearance.specs.Near.{Near, NearAny, ListsNear}
use Rattle.bim_model.specs.Points.{shape_of}
use Rattle.clearance.specs.inner.BoxContainment.{InExtent, Wider, IsOff}
use Rattle.clearance.specs.inner.TriangleRuns.{RunsIn, Reaches}
use Rattle.clearance.proofs.OffBoxes.{off_far, widened}
use Rattle.clearance.proofs.Lists.{any_map, any_front, any_behind, any_parts, none_any}

pub record HasParts (F : List Triangle → Type 0) : Type 0 where
  pub front : (n : ℕ) (xs : List Triangle) → F (take n xs) → F xs
  pub behind : (n : ℕ) (xs : List Triangle) → F (drop n xs) → F xs
  pub parts : (n : ℕ) (xs : List Triangle) → F xs → F (take n xs) ⊎ F (drop n xs)
  pub none : (xs : List Triangle) → xs ≡ [] → F xs → ⊥

-- F holds of the whole exactly where it holds of what is left
abbrev pub IsLeft : (List Triangle → Type 0) → List Triangle → List Triangle → Type 0
IsLeft F whole left = (F left → F whole) × (F whole → F left)

pub left_found : (F : List Triangle → Type 0) → HasParts F → (n : ℕ) (whole left front : List Triangle) → front ≡ take n left → IsLeft F whole left → F front → F whole
left_found F h n whole left front e l x = l.0 (h.front n left (subst F e x))

pub left_more : (F : List Triangle → Type 0) → HasParts F → (n : ℕ) (whole left front behind : List Triangle) → front ≡ take n left → behind ≡ drop n left → IsLeft F whole left → (F front → ⊥) → IsLeft F whole behind
left_more F h n whole left front behind e f l never = (
  λ x. l.0 (h.behind n left (subst F f x)),
  λ x. elim (h.parts n left (l.1 x)) [ inl y ↦ absurd (never (subst F (sym e) y)) | inr y ↦ subst F (sym f) y ],
)

pub left_none : (F : List Triangle → Type 0) → HasParts F → (whole left : List Triangle) → left ≡ [] → IsLeft F whole left → F whole → ⊥
left_none F h whole left e l x = h.none left e (l.1 x)

-- ---- two lists near, by parts of either
pub second_parts : (ps : List Triangle) (d : ℕ) → HasParts (λ (qs : List Triangle). ListsNear ps qs d)
second_parts ps d =
    record {
      front = λ n qs. any_map (λ (p : Triangle). NearAny p (take n qs) d) (λ (p : Triangle). NearAny p qs d) ps (λ p. any_front (λ (q : Triangle). Near p q d) n qs);
      behind = λ n qs. any_map (λ (p : Triangle). NearAny p (drop n qs) d) (λ (p : Triangle). NearAny p qs d) ps (λ p. any_behind (λ (q : Triangle). Near p q d) n qs);
      parts = λ n qs (k, p, lt, e, a). elim (any_parts (λ (q : Triangle). Near p q d) n qs a) [ inl y ↦ inl (k, p, lt, e, y) | inr y ↦ inr (k, p, lt, e, y) ];
      none = λ qs e (k, p, lt, f, a). none_any (λ (q : Triangle). Near p q d) qs e a;
    }

-- one triangle and a list, by parts of the list
pub any_parts_of : (p : Triangle) (d : ℕ) → HasParts (λ (qs : List Triangle). NearAny p qs d)
any_parts_of p d =
    record {
      front = any_front (λ (q : Triangle). Near p q d);
      behind = any_behind (λ (q : Triangle). Near p q d);
      parts = any_parts (λ (q : Triangle). Near p q d);
      none = none_any (λ (q : Triangle). Near p q d);
    }

-- ---- the next box
pub next_run : (around : Extent) (d : ℕ) (runs : List Extent) (i : ℕ) (k : Extent) (ts : List Triangle) → i < length runs → RunsIn around d (drop i runs) ts → RunsIn around d (slice_index_or runs i k ∷ drop (i + 1) runs) ts
next_run around d runs i k ts lt r = subst (λ (ks : List Extent). RunsIn around d ks ts) (drop_more runs i k lt) r

-- a box for one triangle more
pub reached_more : (around : Extent) (d : ℕ) (f m : Extent) (t : Triangle) → Wider f m → Reaches around d f t → Reaches around d m t
reached_more around d f m t w r = λ s h n. widened f m (shape_of t) w (r s h n)

pub reached_next : (around : Extent) (d : ℕ) (e m : Extent) (t : Triangle) → InExtent e (shape_of t) → IsOff around e d ⊎ Wider e m → Reaches around d m t
reached_next around d e m t h (inl o) = λ s g n. absurd (off_far around e s (shape_of t) d g h o n)
reached_next around d e m t h (inr w) = λ s g n. widened e m (shape_of t) w h

-- ---- lengths of what is left
pub few_left : (r b k : ℕ) → b ≡ r - 16 → r + 16 * k ≤ 512 → k < 32 → b + 16 * (k + 1) ≤ 512
few_left r b k e h lt = omega (arith, e, h, lt)

pub fewer_left : (r b n : ℕ) → b ≡ r - n → 0 < n → (r == 0) ≡ false → b < r
fewer_left zero b n e h k = absurd (cc k)
fewer_left (suc r) b n e h k = omega (arith, e, h)

pub at_most_front : (f n r : ℕ) → f ≡ min n r → f ≤ n
at_most_front f n r e = omega (arith, e)

pub empty_list : {X : Type 0} (xs : List X) → length xs ≤ 0 → xs ≡ []
empty_list [] h = refl
empty_list (x ∷ xs) h = absurd (omega (arith, h))

-- ---- one more box
pub box_more : (runs ks : List Extent) (k : ℕ) (m : Extent) → k < length runs → take (k + 1) (slice_set runs k m) ++ ks ≡ take k runs ++ (m ∷ ks)
box_more runs ks k m lt = ap (λ (xs : List Extent). xs ++ ks) (take_more_set runs k m lt) ∙ append_assoc (take k runs) (m ∷ []) ks

pub boxes_all : (runs : List Extent) (k : ℕ) → length runs ≤ k → take k runs ++ [] ≡ runs
boxes_all runs k h = append-nil (take k runs) ∙ take_all k runs h
