-- A polygon whose corners lie round the last one is cut from there: the first corner that is left always goes.
use Rattle.std.proofs.Common.{◌≡◌, ◌∙◌, ap, sym, refl, subst, ℕ, zero, suc, ◌+◌, ◌-◌, ◌<◌, ◌≤◌, inl, inr, ℤ, pos, ◌-ℤ◌, ◌<ℤ◌, Bool, true, false, not, ◌&&◌, ◌||◌, List, drop, length, Option, Some, None, arith}
use Rattle.std.specs.Prelude.{slice_index_or, remove, int_lt}
use Rattle.std.proofs.lemmas.Int.{ints}
use Rattle.std.proofs.lemmas.Bool.{cases_lt}
use Rattle.std.proofs.lemmas.Bool.Decides.{nat_tests, Decides-int_eq}
use Rattle.std.specs.Ordering.{int_eq}
use Rattle.std.proofs.lemmas.List.{length-drop, get_or-drop, drop-drop}
use Rattle.ear_cut.specs.declared.polygon_view.View.{View}
use Rattle.ear_cut.specs.declared.corners.Corner.{Corner}
use Rattle.ear_cut.specs.declared.corners.Turn.{Turn}
use Rattle.ear_cut.specs.declared.corners.Angle.TheVariants.{Convex}
use Rattle.ear_cut.specs.PolygonViews.{Spot, seen, area, same_spot, is_corner, holds}
use Rattle.ear_cut.specs.Corners.{previous, next, nobody, turn_at, angle_of, is_straight, by_sign}
use Rattle.ear_cut.specs.Removal.{choice, first_from, or_else, is_ear, is_ear_at, is_free}
use Rattle.ear_cut.specs.inner.Fans.{spot_at, area_at, IsFan}
use Rattle.ear_cut.proofs.Spokes.{area_cyclic, area_turned, area_behind, convex_sign}
use Rattle.ear_cut.proofs.Search.{first_is, all_pass}
use Rattle.ear_cut.proofs.Taken.{same_turn}

-- ---- the j-th corner is after the i-th round the last
behind : (view : View) (left : List Corner) (i d : ℕ) → IsFan view left → (i + d) + 2 < length left → pos 0 <ℤ area_at view left (length left - 1) i (suc (i + d))
behind view left i zero f h =
    let r = (f.each (suc (i + 0)) (omega arith) (omega (arith, h))).round in
    subst (λ (j : ℕ). pos 0 <ℤ area_at view left (length left - 1) j (suc (i + 0))) (same i) r
  where
    same : (i : ℕ) → suc (i + 0) - 1 ≡ i
    same i = omega arith
behind view left zero (suc d) f h = (f.each (suc (0 + suc d)) (omega arith) (omega (arith, h))).half
behind view left (suc i) (suc d) f h =
    let o = length left - 1 in
    let j = suc (suc i + d) in
    let u = f.each (suc i) (omega arith) (omega (arith, h)) in
    let v = f.each j (omega arith) (omega (arith, h)) in
    let w = f.each (suc (suc i + suc d)) (omega arith) (omega (arith, h)) in
    let uv = behind view left (suc i) d f (omega (arith, h)) in
    area_behind view (spot_at view left o) (spot_at view left 0) (spot_at view left (suc i)) (spot_at view left j) (spot_at view left (suc (suc i + suc d)))
    u.half v.half w.half uv (subst (λ (k : ℕ). pos 0 <ℤ area_at view left o k (suc (suc i + suc d))) (same i d) w.round)
  where
    same : (i d : ℕ) → suc (suc i + suc d) - 1 ≡ suc (suc i + d)
    same i d = omega arith

pub later : (view : View) (left : List Corner) (i j : ℕ) → IsFan view left → i < j → j + 1 < length left → pos 0 <ℤ area_at view left (length left - 1) i j
later view left i j f h k =
    let e : suc (i + (j - suc i)) ≡ j = omega (arith, h) in
    subst (λ (m : ℕ). pos 0 <ℤ area_at view left (length left - 1) i m) e (behind view left i (j - suc i) f (omega (arith, h, k)))

-- ---- the corners from the i-th on
same_area : (view : View) (left : List Corner) (a b c d e f : ℕ) → a ≡ d → b ≡ e → c ≡ f → area_at view left a b c ≡ area_at view left d e f
same_area view left a b c d e f h k l = ap (λ (x : ℕ). area_at view left x b c) h ∙ (ap (λ (x : ℕ). area_at view left d x c) k ∙ ap (λ (x : ℕ). area_at view left d e x) l)

-- the triangle at the k-th of them
turn_area : (view : View) (left : List Corner) (i k : ℕ) → angle_of (Some view) (turn_at (drop i left) k) ≡ by_sign (area_at view left (i + previous (length left - i) k) (i + k) (i + next (length left - i) k))
unfolding angle_of turn_at
turn_area view left i k =
    let at = λ (j : ℕ). ap (λ (c : Corner). seen view.axis c.point) (get_or-drop i left j nobody) in
    let m = length-drop i left in
    ap (λ (x : ℕ). by_sign (area view (spot_at view (drop i left) (previous x k)) (spot_at view (drop i left) k) (spot_at view (drop i left) (next x k)))) m
    ∙ ap by_sign (ap (λ (s : Spot). area view s (spot_at view (drop i left) k) (spot_at view (drop i left) (next (length left - i) k))) (at (previous (length left - i) k))
    ∙ (ap (λ (s : Spot). area view (spot_at view left (i + previous (length left - i) k)) s (spot_at view (drop i left) (next (length left - i) k))) (at k)
    ∙ ap (λ (s : Spot). area view (spot_at view left (i + previous (length left - i) k)) (spot_at view left (i + k)) s) (at (next (length left - i) k))))

before_first : (i n : ℕ) → i + 3 ≤ n → i + previous (n - i) 0 ≡ n - 1
before_first i n h = grind (arith, nat_tests)

behind_first : (i n : ℕ) → i + 3 ≤ n → i + next (n - i) 0 ≡ i + 1
behind_first i n h = grind (arith, nat_tests)

before_middle : (i n k : ℕ) → 0 < k → i + previous (n - i) k ≡ (i + k) - 1
before_middle i n k h = grind (arith, nat_tests)

behind_middle : (i n k : ℕ) → (i + k) + 1 < n → i + next (n - i) k ≡ (i + k) + 1
behind_middle i n k h = grind (arith, nat_tests)

behind_last : (i n k : ℕ) → (i + k) + 1 ≡ n → i + next (n - i) k ≡ i
behind_last i n k h = grind (arith, nat_tests)

itself : (i : ℕ) → i + 0 ≡ i
itself i = omega arith

convex_at : (view : View) (left : List Corner) (i k a b c : ℕ) → i + previous (length left - i) k ≡ a → i + k ≡ b → i + next (length left - i) k ≡ c → pos 0 <ℤ area_at view left a b c → angle_of (Some view) (turn_at (drop i left) k) ≡ Convex
convex_at view left i k a b c d e g h =
    turn_area view left i k ∙ (ap by_sign (same_area view left (i + previous (length left - i) k) (i + k) (i + next (length left - i) k) a b c d e g) ∙ convex_sign (area_at view left a b c) h)

-- each of them is convex
pub all_convex : (view : View) (left : List Corner) (i k : ℕ) → IsFan view left → i + 3 ≤ length left → i + k < length left → angle_of (Some view) (turn_at (drop i left) k) ≡ Convex
all_convex view left i zero f h l =
    convex_at view left i 0 (length left - 1) i (i + 1) (before_first i (length left) h) (itself i) (behind_first i (length left) h) (later view left i (i + 1) f (omega arith) (omega (arith, h)))
all_convex view left i (suc k) f h l =
    elim (cases_lt ((i + suc k) + 1) (length left)) [
      | inl m ↦ convex_at view left i (suc k) ((i + suc k) - 1) (i + suc k) ((i + suc k) + 1) (before_middle i (length left) (suc k) (omega arith)) refl (behind_middle i (length left) (suc k) m) (f.each (i + suc k) (omega arith) m).convex
      | inr m ↦
          let e : (i + suc k) + 1 ≡ length left = omega arith in
          let o = length left - 1 in
          let p : i + suc k ≡ o = omega (arith, e) in
          let q : (i + suc k) - 1 ≡ length left - 2 = omega (arith, e) in
          let r = later view left i (length left - 2) f (omega (arith, h)) (omega (arith, h)) in
          convex_at view left i (suc k) (length left - 2) o i (before_middle i (length left) (suc k) (omega arith) ∙ q) p (behind_last i (length left) (suc k) e)
          (subst (λ (x : ℤ). pos 0 <ℤ x) (area_cyclic view (spot_at view left (length left - 2)) (spot_at view left o) (spot_at view left i)) r)
    ]

-- ---- the first of them between the last corner and the next one
abbrev pub fan_turn : List Corner → ℕ → Turn
fan_turn left i = record { before = slice_index_or left (length left - 1) nobody; corner = slice_index_or left i nobody; after = slice_index_or left (i + 1) nobody }

turn_is : (left : List Corner) (i k a b c : ℕ) → i + previous (length left - i) k ≡ a → i + k ≡ b → i + next (length left - i) k ≡ c → turn_at (drop i left) k ≡ record { before = slice_index_or left a nobody; corner = slice_index_or left b nobody; after = slice_index_or left c nobody }
unfolding turn_at
turn_is left i k a b c e f g =
    let m = length-drop i left in
    same_turn _ _ _ _ _ _
    (ap (λ (x : ℕ). slice_index_or (drop i left) (previous x k) nobody) m ∙ (get_or-drop i left (previous (length left - i) k) nobody ∙ ap (λ (x : ℕ). slice_index_or left x nobody) e))
    (get_or-drop i left k nobody ∙ ap (λ (x : ℕ). slice_index_or left x nobody) f)
    (ap (λ (x : ℕ). slice_index_or (drop i left) (next x k) nobody) m ∙ (get_or-drop i left (next (length left - i) k) nobody ∙ ap (λ (x : ℕ). slice_index_or left x nobody) g))

pub first_turn : (left : List Corner) (i : ℕ) → i + 3 ≤ length left → turn_at (drop i left) 0 ≡ fan_turn left i
first_turn left i h = turn_is left i 0 (length left - 1) i (i + 1) (before_first i (length left) h) (itself i) (behind_first i (length left) h)

-- the last three
pub last_turn : (left : List Corner) (i : ℕ) → i + 3 ≡ length left → turn_at (drop i left) 1 ≡ record { before = slice_index_or left ((length left - 1) - 2) nobody; corner = slice_index_or left ((length left - 1) - 1) nobody; after = slice_index_or left (length left - 1) nobody }
last_turn left i h =
    let a : (i + 1) - 1 ≡ (length left - 1) - 2 = omega (arith, h) in
    let b : i + 1 ≡ (length left - 1) - 1 = omega (arith, h) in
    let c : (i + 1) + 1 ≡ length left - 1 = omega (arith, h) in
    turn_is left i 1 ((length left - 1) - 2) ((length left - 1) - 1) (length left - 1) (before_middle i (length left) 1 (omega arith) ∙ a) b (behind_middle i (length left) 1 (omega (arith, h)) ∙ c)

corner_free : (x y z c : Bool) → c ≡ true → not (not x && (not y && (not z && not c))) ≡ true
corner_free true y z c h = refl
corner_free false true z c h = refl
corner_free false false true c h = refl
corner_free false false false true h = refl
corner_free false false false false h = absurd (cc h)

outside_free : (x y z c : Bool) → z ≡ true → not (not x && (not y && (not z && not c))) ≡ true
outside_free true y z c h = refl
outside_free false true z c h = refl
outside_free false false true c h = refl
outside_free false false false c h = absurd (cc h)

same_itself : (s : Spot) → same_spot s s ≡ true
same_itself s = ap (λ (b : Bool). b && int_eq s.v s.v) ((Decides-int_eq s.u s.u).1 refl) ∙ (Decides-int_eq s.v s.v).1 refl

or_true : (x : Bool) → (x || true) ≡ true
or_true true = refl
or_true false = refl

below_zero : (x y : ℤ) → x ≡ pos 0 -ℤ y → pos 0 <ℤ y → int_lt x (pos 0) ≡ true
below_zero x y e h = grind (arith, ints)

at_a : (a b c p : Spot) → p ≡ a → is_corner a b c p ≡ true
at_a a b c p e = ap (λ (s : Spot). is_corner s b c p) (sym e) ∙ ap (λ (x : Bool). x || (same_spot p b || same_spot p c)) (same_itself p)

at_b : (a b c p : Spot) → p ≡ b → is_corner a b c p ≡ true
at_b a b c p e = ap (λ (s : Spot). is_corner a s c p) (sym e) ∙ (ap (λ (x : Bool). same_spot p a || (x || same_spot p c)) (same_itself p) ∙ or_true (same_spot p a))

at_c : (a b c p : Spot) → p ≡ c → is_corner a b c p ≡ true
at_c a b c p e = ap (λ (s : Spot). is_corner a b s p) (sym e) ∙ (ap (λ (x : Bool). same_spot p a || (same_spot p b || x)) (same_itself p) ∙ (ap (λ (x : Bool). same_spot p a || x) (or_true (same_spot p b)) ∙ or_true (same_spot p a)))

-- the triangle at the first of them is free of each
free_at : (view : View) (left : List Corner) (i j : ℕ) → IsFan view left → i + 3 ≤ length left → i ≤ j → j < length left → is_free (Some view) (fan_turn left i) (slice_index_or left j nobody) ≡ true
unfolding holds
free_at view left i j f h l m =
    let o = length left - 1 in
    let a = spot_at view left o in let b = spot_at view left i in let c = spot_at view left (i + 1) in let p = spot_at view left j in
    let x = int_lt (area view a b p) (pos 0) in let y = int_lt (area view b c p) (pos 0) in let z = int_lt (area view c a p) (pos 0) in
    elim (cases_lt i j) [
      | inr e ↦ let g : j ≡ i = omega arith in corner_free x y z (is_corner a b c p) (at_b a b c p (ap (spot_at view left) g))
      | inl e ↦ elim (cases_lt (i + 1) j) [
        | inr g ↦ let k : j ≡ i + 1 = omega arith in corner_free x y z (is_corner a b c p) (at_c a b c p (ap (spot_at view left) k))
        | inl g ↦ elim (cases_lt (j + 1) (length left)) [
          | inr k ↦ let q : j ≡ o = omega arith in corner_free x y z (is_corner a b c p) (at_a a b c p (ap (spot_at view left) q))
          | inl k ↦ outside_free x y z (is_corner a b c p) (below_zero (area view c a p) (area view a c p) (area_turned view a c p) (later view left (i + 1) j f g k))
        ]
      ]
    ]

ear_first : (view : View) (left : List Corner) (i : ℕ) → IsFan view left → i + 3 ≤ length left → is_ear (Some view) (drop i left) (turn_at (drop i left) 0) ≡ true
ear_first view left i f h =
    let rest = drop i left in
    ap (is_ear_at (Some view) rest (turn_at rest 0)) (all_convex view left i 0 f h (omega arith))
    ∙ all_pass (λ (c : Corner). is_free (Some view) (turn_at rest 0) c) rest (λ k l.
    ap (λ (t : Turn). is_free (Some view) t (slice_index_or rest k nobody)) (first_turn left i h)
    ∙ (ap (is_free (Some view) (fan_turn left i)) (get_or-drop i left k nobody)
    ∙ free_at view left i (i + k) f h (omega arith) (omega (arith, l, length-drop i left, h))))

-- the first of them goes
pub first_goes : (view : View) (left : List Corner) (i : ℕ) → IsFan view left → i + 3 ≤ length left → Some 0 ≡ choice (Some view) (drop i left)
unfolding choice
first_goes view left i f h =
    let rest = drop i left in let m = length-drop i left in
    let straight = λ (k : ℕ). is_straight (angle_of (Some view) (turn_at rest k)) in
    let ear = λ (k : ℕ). is_ear (Some view) rest (turn_at rest k) in
    let none = first_is straight (length rest) None (λ k l. ap is_straight (all_convex view left i k f h (omega (arith, l, m, h)))) in
    let one = first_is ear (length rest) (Some 0) (omega (arith, m, h), ear_first view left i f h, λ k l. absurd (omega (arith, l))) in
    one ∙ ap (λ (r : Option ℕ). or_else r (first_from ear 0 (length rest))) none

pub without_first : (left : List Corner) (i : ℕ) → i < length left → remove (drop i left) 0 ≡ drop (i + 1) left
without_first left i h = drop-drop 1 i left
