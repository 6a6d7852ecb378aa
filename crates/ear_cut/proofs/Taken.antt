-- What a removal leaves: the corner k was the corner `lift i k` before the i-th was taken out.
use Rattle.std.proofs.Common.{◌≡◌, ◌≢◌, ◌∙◌, ap, sym, refl, subst, ℕ, ◌+◌, ◌-◌, ◌<◌, ◌≤◌, Bool, true, false, not, ◌&&◌, cond, inl, inr, List, length, map, set, Option, arith}
use Rattle.std.specs.Prelude.{slice_index_or, remove, nat_lt, ◌==◌}
use Rattle.std.proofs.lemmas.Bool.{cases_lt, cases_eq}
use Rattle.std.proofs.lemmas.Bool.Decides.{nat_tests}
use Rattle.std.proofs.lemmas.List.{get_or-map, get_or-set_same, get_or-set_other, length-map, length-set}
use Rattle.std.proofs.lemmas.List.Edits.{length-remove, get_or-remove_below, get_or-remove_above}
use Rattle.ear_cut.specs.declared.polygon_view.View.{View}
use Rattle.ear_cut.specs.declared.corners.Corner.{Corner}
use Rattle.ear_cut.specs.declared.corners.Turn.{Turn}
use Rattle.ear_cut.specs.declared.corner_notes.Note.{Note}
use Rattle.ear_cut.specs.Corners.{previous, next, nobody, turn_at, angle_of, AreInGrid}
use Rattle.bim_model.specs.Points.{IsGridPoint}
use Rattle.ear_cut.specs.Removal.{is_free}
use Rattle.ear_cut.specs.inner.EarNotes.{blank, fresh, shifted, place_behind, IsClearTo, IsHeldAt, IsTrueOf, IsNoted, IsTaken}

abbrev pub lift : ℕ → ℕ → ℕ
lift i k = cond (nat_lt k i) k (k + 1)

lift_below : (i k : ℕ) → k < i → lift i k ≡ k
lift_below i k h = grind (arith, nat_tests)

lift_above : (i k : ℕ) → i ≤ k → lift i k ≡ k + 1
lift_above i k h = grind (arith, nat_tests)

pub lift_within : (m i k : ℕ) → k + 1 < m → lift i k < m
lift_within m i k h = grind (arith, nat_tests)

-- an element of the list before
pub taken : {X : Type 0} (xs : List X) (i k : ℕ) (d : X) → i < length xs → slice_index_or (remove xs i) k d ≡ slice_index_or xs (lift i k) d
taken xs i k d h =
    elim (cases_lt k i) [
      | inl l ↦ get_or-remove_below xs i d k l h ∙ sym (ap (λ (j : ℕ). slice_index_or xs j d) (lift_below i k l))
      | inr l ↦ get_or-remove_above xs i d k l h ∙ sym (ap (λ (j : ℕ). slice_index_or xs j d) (lift_above i k l))
    ]

pub still_in_grid : (left : List Corner) (i : ℕ) → i < length left → AreInGrid left → AreInGrid (remove left i)
unfolding AreInGrid
still_in_grid left i h a = λ k d l. subst (λ (c : Corner). IsGridPoint c.point) (sym (taken left i k d h)) (a (lift i k) d (lift_within (length left) i k (omega (arith, l, length-remove left i h))))

-- neighbours that were neighbours before
previous_taken : (n i k : ℕ) → i ≤ n → k < n → k ≢ place_behind n i → lift i (previous n k) ≡ previous (n + 1) (lift i k)
previous_taken n i k h l e = grind (arith, nat_tests)

next_taken : (n i k : ℕ) → i ≤ n → k < n → k ≢ previous n (place_behind n i) → lift i (next n k) ≡ next (n + 1) (lift i k)
next_taken n i k h l e = grind (arith, nat_tests)

pub same_turn : (a b c d e f : Corner) → a ≡ d → b ≡ e → c ≡ f → ◌≡◌ {A = Turn} (record { before = a; corner = b; after = c }) (record { before = d; corner = e; after = f })
same_turn a b c d e f h k l =
    ap (λ (t : Corner). let v : Turn = record { before = t; corner = b; after = c } in v) h
    ∙ (ap (λ (t : Corner). let v : Turn = record { before = d; corner = t; after = c } in v) k ∙ ap (λ (t : Corner). let v : Turn = record { before = d; corner = e; after = t } in v) l)

turn_taken : (left : List Corner) (n i k : ℕ) → length left ≡ n + 1 → length (remove left i) ≡ n → i ≤ n → k < n → k ≢ place_behind n i → k ≢ previous n (place_behind n i) → turn_at (remove left i) k ≡ turn_at left (lift i k)
unfolding turn_at
turn_taken left n i k m l h o e f =
    let w : i < length left = omega arith in
    same_turn _ _ _ _ _ _
    (ap (λ (x : ℕ). slice_index_or (remove left i) (previous x k) nobody) l ∙ (taken left i (previous n k) nobody w ∙ ap (λ (j : ℕ). slice_index_or left j nobody) (previous_taken n i k h o e ∙ ap (λ (x : ℕ). previous x (lift i k)) (sym m))))
    (taken left i k nobody w)
    (ap (λ (x : ℕ). slice_index_or (remove left i) (next x k) nobody) l ∙ (taken left i (next n k) nobody w ∙ ap (λ (j : ℕ). slice_index_or left j nobody) (next_taken n i k h o f ∙ ap (λ (x : ℕ). next x (lift i k)) (sym m))))

-- how far a triangle is clear of the corners that are left
one_less : (i n m : ℕ) → n ≤ m + 1 → i ≤ m → cond (nat_lt i n) (n - 1) n ≤ m
one_less i n m h k = grind (arith, nat_tests)

one_back : (i n j : ℕ) → j < cond (nat_lt i n) (n - 1) n → lift i j < n
one_back i n j h = grind (arith, nat_tests)

clear_taken : (view : Option View) (left : List Corner) (t : Turn) (i n : ℕ) → i < length left → IsClearTo view left t n → IsClearTo view (remove left i) t (cond (nat_lt i n) (n - 1) n)
clear_taken view left t i n h c = record {
  within = let e = length-remove left i h in one_less i n (length (remove left i)) (omega (arith, c.within, e)) (omega (arith, e, h));
  free = λ j l. ap (is_free view t) (taken left i j nobody h) ∙ c.free (lift i j) (one_back i n j l);
}

-- what holds a triangle is left, unless it was taken out
lift_back : (i n : ℕ) → i ≢ n → lift i (cond (nat_lt i n) (n - 1) n) ≡ n
lift_back i n e = grind (arith, nat_tests)

one_within : (i n m : ℕ) → n < m + 1 → i < m + 1 → i ≢ n → cond (nat_lt i n) (n - 1) n < m
one_within i n m h k e = grind (arith, nat_tests)

still_held : (i n : ℕ) (b : Bool) → b && not (i == n) ≡ true → (b ≡ true) × (i ≢ n)
still_held i n true h = (refl, λ e. absurd (grind (arith, nat_tests)))
still_held i n false h = absurd (cc h)

held_taken : (view : Option View) (left : List Corner) (t : Turn) (i n : ℕ) → i < length left → i ≢ n → IsHeldAt view left t n → IsHeldAt view (remove left i) t (cond (nat_lt i n) (n - 1) n)
held_taken view left t i n h e k = record {
  within = let l = length-remove left i h in one_within i n (length (remove left i)) (omega (arith, k.within, l)) (omega (arith, h, l)) e;
  held = ap (is_free view t) (taken left i (cond (nat_lt i n) (n - 1) n) nobody h ∙ ap (λ (j : ℕ). slice_index_or left j nobody) (lift_back i n e)) ∙ k.held;
}

true_taken : (view : Option View) (left : List Corner) (notes : List Note) (i k : ℕ) → IsNoted view left notes → i < length left → k < length (remove left i) → k ≢ place_behind (length (remove left i)) i → k ≢ previous (length (remove left i)) (place_behind (length (remove left i)) i) → IsTrueOf view (remove left i) k (slice_index_or (map (shifted i) (remove notes i)) k blank)
true_taken view left notes i k h o l e f =
    let p = length-remove left i o in
    let q : i < length notes = omega (arith, h.count, o) in
    let r = length-remove notes i q in
    let w : k < length (remove notes i) = omega (arith, h.count, p, r, l) in
    let s = get_or-map (shifted i) (remove notes i) k blank blank w ∙ ap (shifted i) (taken notes i k blank q) in
    let told = h.each (lift i k) (lift_within (length left) i k (omega (arith, p, l))) in
    let u = turn_taken left (length (remove left i)) i k (sym p) refl (omega (arith, p, o)) l e f in
    subst (IsTrueOf view (remove left i) k) (sym s) (record {
      angle = told.angle ∙ ap (angle_of view) (sym u);
      clear = subst (λ (t : Turn). IsClearTo view (remove left i) t (shifted i (slice_index_or notes (lift i k) blank)).clear) (sym u) (clear_taken view left (turn_at left (lift i k)) i (slice_index_or notes (lift i k) blank).clear o told.clear);
      held = λ b.
          let note = slice_index_or notes (lift i k) blank in let parts = still_held i note.clear note.held b in
          subst (λ (t : Turn). IsHeldAt view (remove left i) t (shifted i note).clear) (sym u) (held_taken view left (turn_at left (lift i k)) i note.clear o parts.1 (told.held parts.0));
    })

fresh_true : (view : Option View) (left : List Corner) (i : ℕ) → IsTrueOf view left i (fresh view left i)
fresh_true view left i = record { angle = refl; clear = record { within = omega arith; free = λ j l. absurd (omega (arith, l)) }; held = λ e. absurd (cc e) }

module _ (view : Option View) (left : List Corner) (notes : List Note) (a b : ℕ) (count : length notes ≡ length left) (each : (k : ℕ) → k < length left → k ≢ a → k ≢ b → IsTrueOf view left k (slice_index_or notes k blank)) where
  at_one : (xs : List Note) (j : ℕ) → length xs ≡ length left → j < length left → IsTrueOf view left j (slice_index_or (set xs j (fresh view left j)) j blank)
  at_one xs j e l = let w : j < length xs = omega (arith, e, l) in subst (IsTrueOf view left j) (sym (get_or-set_same xs j (fresh view left j) blank w)) (fresh_true view left j)

  elsewhere : (xs : List Note) (j k : ℕ) → k ≢ j → IsTrueOf view left k (slice_index_or xs k blank) → IsTrueOf view left k (slice_index_or (set xs j (fresh view left j)) k blank)
  elsewhere xs j k e h = subst (IsTrueOf view left k) (sym (get_or-set_other xs j k (fresh view left j) blank e)) h

  both : (k : ℕ) → k < length left → IsTrueOf view left k (slice_index_or (set (set notes b (fresh view left b)) a (fresh view left a)) k blank)
  both k l =
      elim (cases_eq k a) [
        | inl e ↦ subst (λ (j : ℕ). IsTrueOf view left j (slice_index_or (set (set notes b (fresh view left b)) a (fresh view left a)) j blank)) (sym e) (at_one (set notes b (fresh view left b)) a (length-set notes b (fresh view left b) ∙ count) (omega (arith, e, l)))
        | inr e ↦ elsewhere (set notes b (fresh view left b)) a k e (elim (cases_eq k b) [
          | inl f ↦ subst (λ (j : ℕ). IsTrueOf view left j (slice_index_or (set notes b (fresh view left b)) j blank)) (sym f) (at_one notes b count (omega (arith, f, l)))
          | inr f ↦ elsewhere notes b k f (each k l e f)
        ])
      ]

  pub renewed : IsNoted view left (set (set notes b (fresh view left b)) a (fresh view left a))
  renewed = record { count = length-set (set notes b (fresh view left b)) a (fresh view left a) ∙ (length-set notes b (fresh view left b) ∙ count); each = both }

abbrev Renewed : Option View → ℕ → List Corner → List Note → Type 0
Renewed view i cs xs = IsNoted view cs (set (set (map (shifted i) xs) (previous (length cs) (place_behind (length cs) i)) (fresh view cs (previous (length cs) (place_behind (length cs) i)))) (place_behind (length cs) i) (fresh view cs (place_behind (length cs) i)))

same_lengths : (left : List Corner) (notes : List Note) (i : ℕ) → length notes ≡ length left → i < length left → length (remove notes i) ≡ length (remove left i)
same_lengths left notes i e h = let q : i < length notes = omega (arith, e, h) in omega (arith, e, length-remove notes i q, length-remove left i h)

start : (view : Option View) (left : List Corner) (notes : List Note) (i : ℕ) → IsNoted view left notes → i < length left → Renewed view i (remove left i) (remove notes i)
start view left notes i noted h =
    renewed view (remove left i) (map (shifted i) (remove notes i)) (place_behind (length (remove left i)) i) (previous (length (remove left i)) (place_behind (length (remove left i)) i))
    (length-map (remove notes i) (shifted i) ∙ same_lengths left notes i noted.count h)
    (λ k l e f. true_taken view left notes i k noted h l e f)

-- all notes, once the two neighbours are judged anew
pub updated : (view : Option View) (left : List Corner) (notes : List Note) (i a b : ℕ) → IsTaken view left notes i → a ≡ place_behind (length left) i → b ≡ previous (length left) a → IsNoted view left (set (set (map (shifted i) notes) b (fresh view left b)) a (fresh view left a))
updated view left notes i a b t e f =
    subst (λ (j : ℕ). IsNoted view left (set (set (map (shifted i) notes) j (fresh view left j)) a (fresh view left a))) (sym f)
    (subst (λ (j : ℕ). IsNoted view left (set (set (map (shifted i) notes) (previous (length left) j) (fresh view left (previous (length left) j))) j (fresh view left j))) (sym e)
    (subst (λ (xs : List Note). Renewed view i left xs) (sym t.notes_is) (subst (λ (cs : List Corner). Renewed view i cs (remove t.told i)) (sym t.left_is) (start view t.from t.told i t.noted t.i_in))))
