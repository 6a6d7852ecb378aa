-- What all rows give.
use Rattle.std.proofs.Common.{◌≡◌, ℕ, zero, suc, ◌+◌, ◌-◌, ◌<◌, ◌≤◌, ◌==◌, ◌&&◌, not, nat_le, nat_lt, List, [], ◌∷◌, ◌++◌, length, get_or, take, drop, true, false, refl, sym, ap, ◌∙◌, arith, append_assoc, inl, inr}
use Rattle.std.specs.List.{list_all}
use Rattle.std.specs.Str.{IsUtf8, IsAscii, is_utf8}
use Rattle.std.proofs.lemmas.Bool.{eqb-true, leb-true, ltb-true, cases_Bool, not-true, and_parts}
use Rattle.std.proofs.lemmas.Bool.Decides.{nat_tests}
use Rattle.std.proofs.lemmas.List.{append-nil, drop-drop, length-drop, drop_all}
use Rattle.std.proofs.lemmas.Str.{IsUtf8-from_ascii}
use Rattle.bim_text.proofs.Cleaning.{cleaned_nil, cleaned_kept}
use Rattle.bim_text.specs.TextSpellings.{Row, sequence_len, row_of, escape_row, high_row, wide_row, is_code, is_wide, is_shifted, is_page, is_hexadecimal, rows_within, rows, cleaned, is_plain, is_clean, text_of_spelling}
use Rattle.p21_lexer.specs.Spelling.{run}

-- each row is of one byte at least, and within the bytes

place : (bs : List ℕ) (k : ℕ) → 0 < get_or bs k 0 → k < length bs
place [] k h = absurd (omega (arith, h))
place (b ∷ bs) zero h = omega arith
place (b ∷ bs) (suc k) h = omega (arith, place bs k h)

is_at : (bs : List ℕ) (k b : ℕ) → 0 < b → (get_or bs k 0 == b) ≡ true → k < length bs
is_at bs k b h t = place bs k (omega (arith, h, eqb-true _ _ t))

hexadecimal_at : (bs : List ℕ) (k : ℕ) → is_hexadecimal (get_or bs k 0) ≡ true → k < length bs
hexadecimal_at [] k t = absurd (cc)
hexadecimal_at (b ∷ bs) zero t = omega arith
hexadecimal_at (b ∷ bs) (suc k) t = omega (arith, hexadecimal_at bs k t)

abbrev pub Fits : List ℕ → Row → Type 0
Fits bs r = (1 ≤ r.size) × (r.size ≤ length bs)

code_fits : (bs : List ℕ) → is_code bs ≡ true → 5 ≤ length bs
unfolding is_code
code_fits bs t = hexadecimal_at bs 4 (and_parts _ _ t).1

shifted_fits : (bs : List ℕ) → is_shifted bs ≡ true → 4 ≤ length bs
unfolding is_shifted
shifted_fits bs t =
    let u = (and_parts (get_or bs 1 0 == 83 && get_or bs 2 0 == 92 && nat_le 32 (get_or bs 3 0)) (nat_le (get_or bs 3 0) 126) t).0 in
    let v = (and_parts (get_or bs 1 0 == 83 && get_or bs 2 0 == 92) (nat_le 32 (get_or bs 3 0)) u).1 in
    place bs 3 (omega (arith, leb-true 32 (get_or bs 3 0) v))

page_fits : (bs : List ℕ) → is_page bs ≡ true → 4 ≤ length bs
unfolding is_page
page_fits bs t = is_at bs 3 92 (omega arith) (and_parts _ _ t).1

wide_fits : (bs : List ℕ) (mark width : ℕ) → is_wide mark width bs ≡ true → Fits bs (wide_row width bs)
unfolding is_wide wide_row
wide_fits bs mark width t = (omega arith, omega (arith, is_at bs (run is_hexadecimal (drop 4 bs) + 7) 92 (omega arith) (and_parts _ _ (and_parts _ _ t).1).1))

escape_fits : (bs : List ℕ) → 0 < length bs → Fits bs (escape_row bs)
unfolding escape_row
escape_fits bs some = elim (cases_Bool (get_or bs 1 0 == 92)) [
  | inl t ↦ rw t (omega arith, is_at bs 1 92 (omega arith) t)
  | inr t ↦ rw t (elim (cases_Bool (is_code bs)) [
    | inl u ↦ rw u (omega arith, code_fits bs u)
    | inr u ↦ rw u (elim (cases_Bool (is_wide 50 4 bs)) [
      | inl v ↦ rw v (wide_fits bs 50 4 v)
      | inr v ↦ rw v (elim (cases_Bool (is_wide 52 8 bs)) [
        | inl w ↦ rw w (wide_fits bs 52 8 w)
        | inr w ↦ rw w (elim (cases_Bool (is_shifted bs)) [
          | inl x ↦ rw x (omega arith, shifted_fits bs x)
          | inr x ↦ rw x (elim (cases_Bool (is_page bs)) [
            | inl y ↦ rw y (omega arith, page_fits bs y)
            | inr y ↦ rw y (omega arith, some)
          ])
        ])
      ])
    ])
  ])
]

high_fits : (bs : List ℕ) → 0 < length bs → Fits bs (high_row bs)
unfolding high_row
high_fits bs some = elim (cases_Bool (nat_le (sequence_len (get_or bs 0 0)) (length bs) && is_utf8 (take (sequence_len (get_or bs 0 0)) bs))) [
  | inl t ↦ rw t (sequence_some (get_or bs 0 0), leb-true (sequence_len (get_or bs 0 0)) (length bs) (and_parts _ _ t).0)
  | inr t ↦ rw t (omega arith, some)
]
  where
    sequence_some : (b : ℕ) → 1 ≤ sequence_len b
    sequence_some b = elim (cases_Bool (nat_lt b 224)) [
      | inl t ↦ rw t (omega arith)
      | inr t ↦ rw t (elim (cases_Bool (nat_lt b 240)) [ inl u ↦ rw u (omega arith) | inr u ↦ rw u (omega arith) ])
    ]

pub row_fits : (bs : List ℕ) → 0 < length bs → Fits bs (row_of bs)
unfolding row_of
row_fits bs some = elim (cases_Bool (get_or bs 0 0 == 92)) [
  | inl t ↦ rw t (escape_fits bs some)
  | inr t ↦ rw t (elim (cases_Bool (nat_lt (get_or bs 0 0) 128)) [
    | inl u ↦ rw u (omega arith, some)
    | inr u ↦ rw u (high_fits bs some)
  ])
]

-- all rows

pub rows_nil : rows [] ≡ []
unfolding rows
rows_nil = refl

enough : (n m : ℕ) (bs : List ℕ) → length bs ≤ n → length bs ≤ m → rows_within n bs ≡ rows_within m bs
enough zero zero [] h k = refl
enough zero (suc m) [] h k = refl
enough (suc n) zero [] h k = refl
enough (suc n) (suc m) [] h k = refl
enough zero m (b ∷ bs) h k = absurd (omega arith)
enough (suc n) zero (b ∷ bs) h k = absurd (omega arith)
enough (suc n) (suc m) (b ∷ bs) h k =
    let f = row_fits (b ∷ bs) (omega arith) in
    let l = length-drop (row_of (b ∷ bs)).size (b ∷ bs) in
    ap (λ (l : List ℕ). (row_of (b ∷ bs)).gives ++ l) (enough n m (drop (row_of (b ∷ bs)).size (b ∷ bs)) (omega (arith, f.0, l)) (omega (arith, f.0, l)))

pub rows_step : (bs : List ℕ) → 0 < length bs → rows bs ≡ (row_of bs).gives ++ rows (drop (row_of bs).size bs)
unfolding rows
rows_step [] some = absurd (omega arith)
rows_step (b ∷ bs) some =
    let f = row_fits (b ∷ bs) (omega arith) in
    let l = length-drop (row_of (b ∷ bs)).size (b ∷ bs) in
    ap (λ (l : List ℕ). (row_of (b ∷ bs)).gives ++ l) (enough (length bs) (length (drop (row_of (b ∷ bs)).size (b ∷ bs))) (drop (row_of (b ∷ bs)).size (b ∷ bs)) (omega (arith, f.0, l)) (omega arith))

-- bytes that stand for themselves

plain_row : (b : ℕ) (bs : List ℕ) → is_plain b ≡ true → row_of (b ∷ bs) ≡ record { gives = b ∷ []; size = 1 }
unfolding row_of
plain_row b bs t =
    let u = not-true (b == 92) (and_parts (nat_le 32 b && nat_lt b 128 && not (b == 39)) (not (b == 92)) t).1 in
    let v = (and_parts (nat_le 32 b && nat_lt b 128 && not (b == 39)) (not (b == 92)) t).0 in
    let w = (and_parts (nat_le 32 b && nat_lt b 128) (not (b == 39)) v).0 in
    let x = (and_parts (nat_le 32 b) (nat_lt b 128) w).1 in
    rw (u, x) refl

plain_low : (b : ℕ) → is_plain b ≡ true → b < 128
plain_low b t =
    let v = (and_parts (nat_le 32 b && nat_lt b 128 && not (b == 39)) (not (b == 92)) t).0 in
    let w = (and_parts (nat_le 32 b && nat_lt b 128) (not (b == 39)) v).0 in
    ltb-true b 128 (and_parts (nat_le 32 b) (nat_lt b 128) w).1

pub plain_clean : (b : ℕ) → is_plain b ≡ true → is_clean b ≡ true
plain_clean b t =
    let v = (and_parts (nat_le 32 b && nat_lt b 128 && not (b == 39)) (not (b == 92)) t).0 in
    let w = (and_parts (nat_le 32 b && nat_lt b 128) (not (b == 39)) v).0 in
    rw ((and_parts (nat_le 32 b) (nat_lt b 128) w).0, (and_parts (nat_le 32 b && nat_lt b 128) (not (b == 39)) v).1) refl

plain_first : (b : ℕ) (bs : List ℕ) → is_plain b ≡ true → rows (b ∷ bs) ≡ b ∷ rows bs
plain_first b bs t =
    let e = plain_row b bs t in
    rows_step (b ∷ bs) (omega arith) ∙ ap (λ (r : Row). r.gives ++ rows (drop r.size (b ∷ bs))) e

plain_rows : (bs : List ℕ) (k : ℕ) → k ≤ run is_plain bs → rows bs ≡ take k bs ++ rows (drop k bs)
plain_rows bs zero h = refl
plain_rows [] (suc k) h = absurd (omega (arith, h))
plain_rows (b ∷ bs) (suc k) h = elim (cases_Bool (is_plain b)) [
  | inl t ↦ (let h2 : suc k ≤ run is_plain bs + 1 = rw t at h in
      plain_first b bs t ∙ ap (λ (l : List ℕ). b ∷ l) (plain_rows bs k (omega (arith, h2))))
  | inr t ↦ (let h2 : suc k ≤ 0 = rw t at h in absurd (omega (arith, h2)))
]

plain_ascii : (bs : List ℕ) (k : ℕ) → k ≤ run is_plain bs → IsAscii (take k bs)
plain_ascii bs zero h i = omega arith
plain_ascii [] (suc k) h i = absurd (omega (arith, h))
plain_ascii (b ∷ bs) (suc k) h i = elim (cases_Bool (is_plain b)) [
  | inl t ↦ (let h2 : suc k ≤ run is_plain bs + 1 = rw t at h in ascii_cons b (take k bs) (plain_low b t) (plain_ascii bs k (omega (arith, h2))) i)
  | inr t ↦ (let h2 : suc k ≤ 0 = rw t at h in absurd (omega (arith, h2)))
]
  where
    ascii_cons : (b : ℕ) (bs : List ℕ) → b < 128 → IsAscii bs → IsAscii (b ∷ bs)
    ascii_cons b bs lt h zero = lt
    ascii_cons b bs lt h (suc i) = h i

-- what a step of the loop appends

pub plain_part : (bs : List ℕ) (at end : ℕ) → end ≡ at + run is_plain (drop at bs) → rows (drop at bs) ≡ take (end - at) (drop at bs) ++ rows (drop end bs)
plain_part bs at end e =
    let n : end - at ≡ run is_plain (drop at bs) = omega (arith, e) in
    let m : at + (end - at) ≡ end = omega (arith, e) in
    plain_rows (drop at bs) (end - at) (omega (arith, n)) ∙ ap (λ (l : List ℕ). take (end - at) (drop at bs) ++ rows l) (drop-drop (end - at) at bs ∙ ap (λ (k : ℕ). drop k bs) m)

pub plain_utf8 : (bs : List ℕ) (at end : ℕ) → end ≡ at + run is_plain (drop at bs) → IsUtf8 (take (end - at) (drop at bs))
plain_utf8 bs at end e =
    let n : end - at ≡ run is_plain (drop at bs) = omega (arith, e) in
    IsUtf8-from_ascii (take (end - at) (drop at bs)) (plain_ascii (drop at bs) (end - at) (omega (arith, n)))

some_left : (bs : List ℕ) (at : ℕ) → at < length bs → 0 < length (drop at bs)
some_left bs at lt = omega (arith, length-drop at bs)

pub row_part : (bs : List ℕ) (at n : ℕ) → at < length bs → n ≡ at + (row_of (drop at bs)).size → rows (drop at bs) ≡ (row_of (drop at bs)).gives ++ rows (drop n bs)
row_part bs at n lt e =
    rows_step (drop at bs) (some_left bs at lt) ∙ ap (λ (l : List ℕ). (row_of (drop at bs)).gives ++ rows l) (drop-drop (row_of (drop at bs)).size at bs ∙ ap (λ (k : ℕ). drop k bs) (sym e))

pub row_later : (bs : List ℕ) (at n : ℕ) → at < length bs → n ≡ at + (row_of (drop at bs)).size → at < n
row_later bs at n lt e = omega (arith, e, (row_fits (drop at bs) (some_left bs at lt)).0)

pub row_within : (bs : List ℕ) (at n : ℕ) → at < length bs → n ≡ at + (row_of (drop at bs)).size → n ≤ length bs
row_within bs at n lt e = omega (arith, e, (row_fits (drop at bs) (some_left bs at lt)).1, length-drop at bs)

take_length : (bs : List ℕ) → take (length bs) bs ≡ bs
take_length [] = refl
take_length (b ∷ bs) = ap (λ (l : List ℕ). b ∷ l) (take_length bs)

all_left : (bs : List ℕ) (at : ℕ) → take (length bs - at) (drop at bs) ≡ drop at bs
all_left bs at = let n : length bs - at ≡ length (drop at bs) = omega (arith, length-drop at bs) in ap (λ (k : ℕ). take k (drop at bs)) n ∙ take_length (drop at bs)

-- of the row at the front of all bytes that are left
pub row_room : (bs : List ℕ) (at n : ℕ) → at < length bs → n ≡ (row_of (take (length bs - at) (drop at bs))).size → at + n ≤ length bs
row_room bs at n lt e =
    let f : n ≡ (row_of (drop at bs)).size = e ∙ ap (λ (l : List ℕ). (row_of l).size) (all_left bs at) in
    omega (arith, f, (row_fits (drop at bs) (some_left bs at lt)).1, length-drop at bs)

pub rows_end : (bs : List ℕ) (at : ℕ) → length bs ≤ at → rows (drop at bs) ≡ []
rows_end bs at h = ap rows (drop_all at bs h) ∙ rows_nil

pub ruleset all = (plain_part, plain_utf8, row_part, row_later, row_within, rows_end, append_assoc, append-nil)

-- whole texts

all_run : (bs : List ℕ) → list_all is_plain bs ≡ true → length bs ≤ run is_plain bs
all_run [] h = omega arith
all_run (b ∷ bs) h = rw ((and_parts (is_plain b) _ h).0) (omega (arith, all_run bs (and_parts (is_plain b) _ h).1))

pub rows_plain : (bs : List ℕ) → list_all is_plain bs ≡ true → rows bs ≡ bs
rows_plain bs h =
    plain_rows bs (length bs) (all_run bs h) ∙ ap (λ (l : List ℕ). take (length bs) bs ++ l) (rows_end bs (length bs) (omega arith)) ∙ append-nil (take (length bs) bs) ∙ take_length bs

pub utf8_plain : (bs : List ℕ) → list_all is_plain bs ≡ true → IsUtf8 bs
utf8_plain bs h =
    let e = take_length bs in
    rw (← e) (IsUtf8-from_ascii (take (length bs) bs) (plain_ascii bs (length bs) (all_run bs h)))

pub cleaned_clean : (bs : List ℕ) → list_all is_clean bs ≡ true → cleaned bs ≡ bs
cleaned_clean [] h = cleaned_nil
cleaned_clean (b ∷ bs) h =
    let t = (and_parts (is_clean b) _ h).0 in
    let low = leb-true 32 b (and_parts (nat_le 32 b) (not (b == 39)) t).0 in
    let other = not-true (b == 39) (and_parts (nat_le 32 b) (not (b == 39)) t).1 in
    cleaned_kept b bs (λ e _ _. absurd (apart b e other)) low ∙ ap (λ (l : List ℕ). b ∷ l) (cleaned_clean bs (and_parts (is_clean b) _ h).1)
  where
    apart : (b : ℕ) → b ≡ 39 → (b == 39) ≡ false → ⊥
    apart b e h = grind (arith, nat_tests)

pub plain_cleaned : (bs : List ℕ) → list_all is_plain bs ≡ true → list_all is_clean bs ≡ true
plain_cleaned [] h = refl
plain_cleaned (b ∷ bs) h = rw (plain_clean b (and_parts (is_plain b) _ h).0) (plain_cleaned bs (and_parts (is_plain b) _ h).1)

pub text_plain : (bs : List ℕ) → list_all is_plain bs ≡ true → text_of_spelling bs ≡ bs
unfolding text_of_spelling
text_plain bs h = ap rows (cleaned_clean bs (plain_cleaned bs h)) ∙ rows_plain bs h

pub text_clean : (bs : List ℕ) → list_all is_clean bs ≡ true → text_of_spelling bs ≡ rows bs
unfolding text_of_spelling
text_clean bs h = ap rows (cleaned_clean bs h)

pub text_cleaned : (bs : List ℕ) → text_of_spelling bs ≡ rows (cleaned bs)
unfolding text_of_spelling
text_cleaned bs = refl

pub ruleset whole = (text_plain, text_clean, text_cleaned, utf8_plain)
