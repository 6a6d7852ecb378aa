-- A walk byte by byte, one step further or at its end.
use Rattle.std.proofs.Common.{◌≡◌, ℕ, ◌+◌, ◌-◌, ◌*◌, ◌<◌, ◌≤◌, ◌==◌, ◌&&◌, ◌⊎◌, inl, inr, List, [], ◌∷◌, length, get_or, drop, Bool, true, false, nat_le, suc, refl, sym, ap, add-one, arith, drop-cons, Option, Some, None, option_map}
use Rattle.std.proofs.lemmas.Bool.{ne_eqb, le-leb, lt-leb}
use Rattle.std.proofs.lemmas.List.{drop-drop, drop_all}
use Rattle.p21_lexer.specs.inner.TokenSpans.{one, comment_span, name_run, text_span, later, or_first, opens as opens_of}
use Rattle.p21_lexer.specs.Spelling.{run, is_digit}
use Rattle.p21_lexer.specs.declared.limits.TheConstants.{GREATEST_NAME}

pub run_step : (p : ℕ → Bool) (bs : List ℕ) (i : ℕ) → i < length bs → p (get_or bs i 0) ≡ true → run p (drop i bs) ≡ run p (drop (i + 1) bs) + 1
run_step p bs i lt h = rw (add-one i, drop-cons bs i 0, h) refl

pub run_stop : (p : ℕ → Bool) (bs : List ℕ) (i : ℕ) → i < length bs → p (get_or bs i 0) ≡ false → run p (drop i bs) ≡ 0
run_stop p bs i lt h = rw (drop-cons bs i 0, h) refl

pub run_past : (p : ℕ → Bool) (bs : List ℕ) (i : ℕ) → length bs ≤ i → run p (drop i bs) ≡ 0
run_past p bs i h = rw (drop_all i bs h) refl

pub one_step : (p : ℕ → Bool) (bs : List ℕ) (i : ℕ) → i < length bs → p (get_or bs i 0) ≡ true → one p (drop i bs) ≡ 1
one_step p bs i lt h = rw (drop-cons bs i 0, h) refl

pub one_stop : (p : ℕ → Bool) (bs : List ℕ) (i : ℕ) → i < length bs → p (get_or bs i 0) ≡ false → one p (drop i bs) ≡ 0
one_stop p bs i lt h = rw (drop-cons bs i 0, h) refl

pub one_past : (p : ℕ → Bool) (bs : List ℕ) (i : ℕ) → length bs ≤ i → one p (drop i bs) ≡ 0
one_past p bs i h = rw (drop_all i bs h) refl

pub ruleset runs = (run_step, run_stop, run_past)

pub ruleset heads = (run_step, run_stop, run_past, one_step, one_stop, one_past)

-- Two bytes at i.
pub two_at : (bs : List ℕ) (i : ℕ) → i + 1 < length bs → drop i bs ≡ get_or bs i 0 ∷ get_or bs (i + 1) 0 ∷ drop (i + 2) bs
two_at bs i lt =
    let one : i < length bs = omega arith in
    let two : suc i < length bs = omega arith in
    let e1 : i + 1 ≡ suc i = add-one i in
    let e2 : i + 2 ≡ suc (suc i) = omega arith in
    rw (drop-cons bs i 0, e1, e2, drop-cons bs (suc i) 0) refl

pub last_at : (bs : List ℕ) (i : ℕ) → i + 1 ≡ length bs → drop i bs ≡ get_or bs i 0 ∷ []
last_at bs i lt =
    let one : i < length bs = omega arith in
    let past : length bs ≤ suc i = omega arith in
    rw (drop-cons bs i 0, drop_all (suc i) bs past) refl

two_or_one : (bs : List ℕ) (i : ℕ) → i < length bs → (i + 1 < length bs) ⊎ (i + 1 ≡ length bs)
two_or_one bs i lt = grind arith

past_or_last : (bs : List ℕ) (i : ℕ) → length bs ≤ i + 1 → (length bs ≤ i) ⊎ (i + 1 ≡ length bs)
past_or_last bs i h = grind arith

ends : (bs : List ℕ) (i : ℕ) → length bs ≤ i + 1 → (drop i bs ≡ []) ⊎ (drop i bs ≡ get_or bs i 0 ∷ [])
ends bs i h = elim (past_or_last bs i h) [ inl k ↦ inl (drop_all i bs k) | inr k ↦ inr (last_at bs i k) ]

and_false : (b : Bool) → b && false ≡ false
and_false true = refl
and_false false = refl

pub shifted : (i : ℕ) (o : Option ℕ) → option_map (λ n. i + n) (option_map (λ n. n + 1) o) ≡ option_map (λ n. (i + 1) + n) o
shifted i None = refl
shifted i (Some n) = ap Some (omega arith)

pub comment_found : (bs : List ℕ) (i : ℕ) → i + 1 < length bs → get_or bs i 0 ≡ 42 → get_or bs (i + 1) 0 ≡ 47 → comment_span (drop i bs) ≡ Some 2
comment_found bs i lt h k = rw (two_at bs i lt, h, k) refl

comment_pair : (b c : ℕ) (bs : List ℕ) → (b == 42) && (c == 47) ≡ false → comment_span (b ∷ c ∷ bs) ≡ option_map (λ n. n + 1) (comment_span (c ∷ bs))
comment_pair b c bs h = rw h refl

pub drop_head : (bs : List ℕ) (i : ℕ) → i + 1 < length bs → drop (i + 1) bs ≡ get_or bs (i + 1) 0 ∷ drop (i + 2) bs
drop_head bs i lt =
    let e : suc (i + 1) ≡ i + 2 = omega arith in
    rw (drop-cons bs (i + 1) 0, e) refl

comment_step : (bs : List ℕ) (i : ℕ) → i + 1 < length bs → (get_or bs i 0 == 42) && (get_or bs (i + 1) 0 == 47) ≡ false
    → option_map (λ n. i + n) (comment_span (drop i bs)) ≡ option_map (λ n. (i + 1) + n) (comment_span (drop (i + 1) bs))
comment_step bs i lt h = rw (two_at bs i lt, drop_head bs i lt, comment_pair _ _ _ h) (shifted i _)

pub comment_one : (bs : List ℕ) (i : ℕ) → i + 1 < length bs → (get_or bs i 0 ≡ 42 → ⊥)
    → option_map (λ n. i + n) (comment_span (drop i bs)) ≡ option_map (λ n. (i + 1) + n) (comment_span (drop (i + 1) bs))
comment_one bs i lt h = comment_step bs i lt (rw (ne_eqb _ _ h) refl)

pub comment_two : (bs : List ℕ) (i : ℕ) → i + 1 < length bs → (get_or bs (i + 1) 0 ≡ 47 → ⊥)
    → option_map (λ n. i + n) (comment_span (drop i bs)) ≡ option_map (λ n. (i + 1) + n) (comment_span (drop (i + 1) bs))
comment_two bs i lt h = comment_step bs i lt (rw (ne_eqb _ _ h) (and_false _))

pub comment_past : (bs : List ℕ) (i : ℕ) → length bs ≤ i + 1 → comment_span (drop i bs) ≡ None
comment_past bs i h = elim (ends bs i h) [ inl p ↦ rw p refl | inr p ↦ rw p refl ]

pub ruleset comments = (comment_found, comment_past)

-- Names.

pub name_step : (v : ℕ) (bs : List ℕ) (i : ℕ) → i < length bs → is_digit (get_or bs i 0) ≡ true → v * 10 + (get_or bs i 0 - 48) ≤ GREATEST_NAME
    → name_run v (drop i bs) ≡ name_run (v * 10 + (get_or bs i 0 - 48)) (drop (i + 1) bs) + 1
name_step v bs i lt h k =
    let t : nat_le (v * 10 + (get_or bs i 0 - 48)) GREATEST_NAME ≡ true = le-leb _ _ k in
    rw (add-one i, drop-cons bs i 0, h, t) refl

pub name_stop : (v : ℕ) (bs : List ℕ) (i : ℕ) → i < length bs → is_digit (get_or bs i 0) ≡ false → name_run v (drop i bs) ≡ 0
name_stop v bs i lt h = rw (drop-cons bs i 0, h) refl

pub name_large : (v : ℕ) (bs : List ℕ) (i : ℕ) → i < length bs → GREATEST_NAME < v * 10 + (get_or bs i 0 - 48) → name_run v (drop i bs) ≡ 0
name_large v bs i lt k =
    let t : nat_le (v * 10 + (get_or bs i 0 - 48)) GREATEST_NAME ≡ false = lt-leb _ _ k in
    rw (drop-cons bs i 0, t, and_false) refl

pub name_past : (v : ℕ) (bs : List ℕ) (i : ℕ) → length bs ≤ i → name_run v (drop i bs) ≡ 0
name_past v bs i h = rw (drop_all i bs h) refl

pub ruleset names = (name_step, name_stop, name_large, name_past)

-- Texts.

text_plain_step : (bs : List ℕ) (i : ℕ) → i < length bs → (get_or bs i 0 ≡ 39 → ⊥)
    → text_span (drop i bs) ≡ option_map (λ n. n + 1) (text_span (drop (i + 1) bs))
text_plain_step bs i lt h =
    let t : get_or bs i 0 == 39 ≡ false = ne_eqb _ _ h in
    elim (two_or_one bs i lt) [
      | inl k ↦ rw (two_at bs i k, drop_head bs i k, t) refl
      | inr k ↦ (let past : length bs ≤ i + 1 = omega arith in rw (last_at bs i k, drop_all (i + 1) bs past, t) refl)
    ]

pub text_on : (bs : List ℕ) (i : ℕ) → i < length bs → (get_or bs i 0 ≡ 39 → ⊥)
    → option_map (λ n. i + n) (text_span (drop i bs)) ≡ option_map (λ n. (i + 1) + n) (text_span (drop (i + 1) bs))
text_on bs i lt h = rw (text_plain_step bs i lt h) (shifted i _)

pub text_plain : (bs : List ℕ) (i : ℕ) (found : Option ℕ) → i < length bs → (get_or bs i 0 ≡ 39 → ⊥)
    → later (option_map (λ n. i + n) (text_span (drop i bs))) found ≡ later (option_map (λ n. (i + 1) + n) (text_span (drop (i + 1) bs))) found
text_plain bs i found lt h = ap (λ (o : Option ℕ). later o found) (text_on bs i lt h)

-- an apostrophe closes that isn't followed by another
pub text_closes : (bs : List ℕ) (i : ℕ) → i < length bs → get_or bs i 0 ≡ 39 → (i + 1 < length bs → get_or bs (i + 1) 0 ≡ 39 → ⊥) → text_span (drop i bs) ≡ Some 1
text_closes bs i lt h n = elim (two_or_one bs i lt) [
  | inl k ↦ rw (two_at bs i k, h, ne_eqb _ _ (n k)) refl
  | inr k ↦ rw (last_at bs i k, h) refl
]

pub text_past : (bs : List ℕ) (i : ℕ) → length bs ≤ i → text_span (drop i bs) ≡ None
text_past bs i h = rw (drop_all i bs h) refl

doubled : (i : ℕ) (o found : Option ℕ) → later (option_map (λ n. i + n) (or_first o)) found ≡ later (option_map (λ n. (i + 2) + n) o) (Some (i + 1))
doubled i None found = refl
doubled i (Some n) found = (let e : i + (n + 2) ≡ (i + 2) + n = omega arith in ap Some e)

pub text_double : (bs : List ℕ) (i : ℕ) (found : Option ℕ) → i + 1 < length bs → get_or bs i 0 ≡ 39 → get_or bs (i + 1) 0 ≡ 39
    → later (option_map (λ n. i + n) (text_span (drop i bs))) found ≡ later (option_map (λ n. (i + 2) + n) (text_span (drop (i + 2) bs))) (Some (i + 1))
text_double bs i found lt h k = rw (two_at bs i lt, h, k) (doubled i _ found)

-- Comments open.
pub opens_yes : (bs : List ℕ) (i : ℕ) → i + 1 < length bs → get_or bs i 0 ≡ 47 → get_or bs (i + 1) 0 ≡ 42 → opens_of (drop i bs) ≡ true
opens_yes bs i lt h k = rw (two_at bs i lt, h, k) refl

pub opens_one : (bs : List ℕ) (i : ℕ) → i + 1 < length bs → (get_or bs i 0 ≡ 47 → ⊥) → opens_of (drop i bs) ≡ false
opens_one bs i lt h = rw (two_at bs i lt, ne_eqb _ _ h) refl

pub opens_two : (bs : List ℕ) (i : ℕ) → i + 1 < length bs → (get_or bs (i + 1) 0 ≡ 42 → ⊥) → opens_of (drop i bs) ≡ false
opens_two bs i lt h = rw (two_at bs i lt, ne_eqb _ _ h) (and_false _)

pub opens_past : (bs : List ℕ) (i : ℕ) → length bs ≤ i + 1 → opens_of (drop i bs) ≡ false
opens_past bs i h = elim (ends bs i h) [ inl p ↦ rw p refl | inr p ↦ rw p refl ]

pub ruleset opens = (opens_yes, opens_one, opens_two, opens_past)

-- A front after one byte.
pub behind_at : (w : List ℕ → Option ℕ) (bs : List ℕ) (i : ℕ) → option_map (λ n. (i + 1) + n) (w (drop (i + 1) bs)) ≡ option_map (λ n. i + n) (option_map (λ n. n + 1) (w (drop 1 (drop i bs))))
behind_at w bs i = rw (drop-drop 1 i bs) (sym (shifted i _))
