-- The first number that passes a test, and the corners that a triangle is free of.
use Rattle.std.proofs.Common.{◌≡◌, ◌∙◌, ap, sym, refl, ℕ, zero, suc, ◌+◌, ◌<◌, ◌≤◌, Bool, true, false, cond, List, [], ◌∷◌, ◌&&◌, length, Option, Some, None, inl, inr, arith}
use Rattle.std.specs.Prelude.{slice_index_or, ◌==◌}
use Rattle.std.specs.List.{list_all}
use Rattle.std.proofs.lemmas.Bool.{cases_lt}
use Rattle.std.proofs.lemmas.Bool.Decides.{nat_tests}
use Rattle.std.proofs.lemmas.List.Folds.{list_all_at}
use Rattle.ear_cut.specs.declared.polygon_view.View.{View}
use Rattle.ear_cut.specs.declared.corners.Corner.{Corner}
use Rattle.ear_cut.specs.declared.corners.Turn.{Turn}
use Rattle.ear_cut.specs.declared.corners.Angle.{Angle}
use Rattle.ear_cut.specs.declared.corners.Angle.TheVariants.{Straight, Convex, Reflex}
use Rattle.exact_arith.specs.Space.{is_nowhere, cross_of}
use Rattle.bim_model.specs.Points.{step}
use Rattle.ear_cut.specs.Corners.{nobody, angle_of}
use Rattle.ear_cut.specs.Removal.{first_from, is_free, is_ear, is_ear_at}
use Rattle.ear_cut.specs.inner.EarNotes.{IsFirst, IsClearTo, settles}

none_from : (test : ℕ → Bool) (i n : ℕ) → ((k : ℕ) → i ≤ k → k < i + n → test k ≡ false) → first_from test i n ≡ None
none_from test i zero h = refl
none_from test i (suc n) h =
    ap (λ (b : Bool). cond b (Some i) (first_from test (i + 1) n)) (h i (omega arith) (omega arith))
    ∙ none_from test (i + 1) n (λ k l m. h k (omega arith) (omega arith))

some_from : (test : ℕ → Bool) (i n j : ℕ) → i ≤ j → j < i + n → test j ≡ true → ((k : ℕ) → i ≤ k → k < j → test k ≡ false) → first_from test i n ≡ Some j
some_from test i zero j f g t h = absurd (omega arith)
some_from test i (suc n) j f g t h =
    elim (cases_lt i j) [
      | inl l ↦ ap (λ (b : Bool). cond b (Some i) (first_from test (i + 1) n)) (h i (omega arith) l)
          ∙ some_from test (i + 1) n j (omega arith) (omega arith) t (λ k o m. h k (omega arith) m)
      | inr l ↦ let e : j ≡ i = omega arith in
          ap (λ (b : Bool). cond b (Some i) (first_from test (i + 1) n)) (sym (ap test e) ∙ t) ∙ ap Some (sym e)
    ]

pub first_is : (test : ℕ → Bool) (n : ℕ) (r : Option ℕ) → IsFirst test n r → r ≡ first_from test 0 n
first_is test n (Some i) h = sym (some_from test 0 n i (omega arith) (omega (arith, h.0)) h.1 (λ k l m. h.2 k m))
first_is test n None h = sym (none_from test 0 n (λ k l m. h k (omega arith)))

-- the numbers pass another test alike
pub first_same : (test other : ℕ → Bool) (n m : ℕ) (r : Option ℕ) → n ≡ m → ((k : ℕ) → k < m → other k ≡ test k) → IsFirst test n r → IsFirst other m r
first_same test other n m (Some i) e h f = (omega (arith, f.0), h i (omega (arith, f.0)) ∙ f.1, λ k l. h k (omega (arith, f.0)) ∙ f.2 k l)
first_same test other n m None e h f = λ k l. h k l ∙ f k (omega arith)

pub all_pass : (p : Corner → Bool) (xs : List Corner) → ((k : ℕ) → k < length xs → p (slice_index_or xs k nobody) ≡ true) → list_all p xs ≡ true
all_pass p [] h = refl
all_pass p (x ∷ xs) h = ap (λ (b : Bool). b && list_all p xs) (h 0 (omega arith)) ∙ all_pass p xs (λ k l. h (suc k) (omega arith))

same_number : (n m : ℕ) → m ≤ n → n ≤ m → (n == m) ≡ true
same_number n m h k = grind (arith, nat_tests)

other_number : (n m : ℕ) → n < m → (n == m) ≡ false
other_number n m h = grind (arith, nat_tests)

-- how far a triangle is clear says whether it holds no corner
pub clear_tells : (view : Option View) (left : List Corner) (t : Turn) (n : ℕ) → IsClearTo view left t n → (n < length left → is_free view t (slice_index_or left n nobody) ≡ false) → (n == length left) ≡ list_all (λ (o : Corner). is_free view t o) left
clear_tells view left t n h k =
    elim (cases_lt n (length left)) [
      | inl l ↦ other_number n (length left) l ∙ sym (list_all_at (λ (o : Corner). is_free view t o) left n nobody l (k l))
      | inr l ↦ same_number n (length left) l h.within ∙ sym (all_pass (λ (o : Corner). is_free view t o) left (λ j m. h.free j (omega arith)))
    ]

-- a corner that isn't settled is convex
pub open_convex : (a : Angle) (held : Bool) → settles a held ≡ false → a ≡ Convex
open_convex Convex held h = refl
open_convex Straight held h = absurd (cc h)
open_convex Reflex held h = absurd (cc h)

-- without a view no corner is an ear
pub no_ear : (left : List Corner) (t : Turn) → is_ear None left t ≡ false
unfolding angle_of
no_ear left t = flat left t (is_nowhere (cross_of (step t.before.point t.corner.point) (step t.corner.point t.after.point)))
  where
    flat : (left : List Corner) (t : Turn) (b : Bool) → is_ear_at None left t (cond b Straight Reflex) ≡ false
    flat left t true = refl
    flat left t false = refl
