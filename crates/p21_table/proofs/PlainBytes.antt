-- Bytes that hold no parenthesis: of a token that is none, only a text holds others.
use Rattle.std.proofs.Common.{◌≡◌, ℕ, zero, suc, ◌<◌, ◌==◌, inl, inr, Bool, true, false, List, [], ◌∷◌, ◌++◌, length, get_or, refl, sym, ap, subst, ◌∙◌, arith}
use Rattle.std.specs.List.{list_all}
use Rattle.std.proofs.lemmas.Bool.{cases_Bool, and_parts}
use Rattle.std.proofs.lemmas.Bool.Decides.{nat_tests}
use Rattle.p21_lexer.specs.declared.token.TokenKind.{TokenKind}
use Rattle.p21_lexer.specs.declared.token.TokenKind.TheVariants as tokens
use Rattle.p21_lexer.specs.Spelling.{Spells, AreAll, is_digit, is_letter, is_letter_or_digit, is_word_byte, is_hexadecimal, is_sign, is_exponent_mark, IsOptionalSign, IsFraction, IsExponent, IsSigned}
use Rattle.p21_values.specs.Lexemes.{says, class_of, single_says}
use Rattle.p21_values.specs.TokenPieces.{kind_of}
use Rattle.p21_values.specs.Standing.{is_plain, depth_after}

-- Of one byte.

letter_plain : (b : ℕ) → is_letter b ≡ true → is_plain b ≡ true
letter_plain b h = elim (cases_Bool (is_plain b)) [ inl k ↦ k | inr k ↦ grind (arith, nat_tests) ]

digit_plain : (b : ℕ) → is_digit b ≡ true → is_plain b ≡ true
digit_plain b h = elim (cases_Bool (is_plain b)) [ inl k ↦ k | inr k ↦ grind (arith, nat_tests) ]

both_plain : (b : ℕ) → is_letter_or_digit b ≡ true → is_plain b ≡ true
both_plain b h = elim (cases_Bool (is_plain b)) [ inl k ↦ k | inr k ↦ grind (arith, nat_tests) ]

word_plain : (b : ℕ) → is_word_byte b ≡ true → is_plain b ≡ true
word_plain b h = elim (cases_Bool (is_plain b)) [ inl k ↦ k | inr k ↦ grind (arith, nat_tests) ]

hexadecimal_plain : (b : ℕ) → is_hexadecimal b ≡ true → is_plain b ≡ true
hexadecimal_plain b h = elim (cases_Bool (is_plain b)) [ inl k ↦ k | inr k ↦ grind (arith, nat_tests) ]

sign_plain : (b : ℕ) → is_sign b ≡ true → is_plain b ≡ true
sign_plain b h = elim (cases_Bool (is_plain b)) [ inl k ↦ k | inr k ↦ grind (arith, nat_tests) ]

mark_plain : (b : ℕ) → is_exponent_mark b ≡ true → is_plain b ≡ true
mark_plain b h = elim (cases_Bool (is_plain b)) [ inl k ↦ k | inr k ↦ grind (arith, nat_tests) ]

-- Of several.

abbrev Plain : List ℕ → Type 0
Plain bs = list_all is_plain bs ≡ true

plain_and : (b : ℕ) (bs : List ℕ) → is_plain b ≡ true → Plain bs → Plain (b ∷ bs)
plain_and b bs h k = rw (h, k) refl

plain_all : (p : ℕ → Bool) → ((b : ℕ) → p b ≡ true → is_plain b ≡ true) → (bs : List ℕ) → AreAll p bs → Plain bs
plain_all p f [] h = refl
plain_all p f (b ∷ bs) h = plain_and b bs (f b (and_parts (p b) _ h).0) (plain_all p f bs (and_parts (p b) _ h).1)

plain_append : (xs ys : List ℕ) → Plain xs → Plain ys → Plain (xs ++ ys)
plain_append [] ys h k = k
plain_append (x ∷ xs) ys h k = let p = and_parts (is_plain x) (list_all is_plain xs) h in plain_and x (xs ++ ys) p.0 (plain_append xs ys p.1 k)

optional_plain : (bs : List ℕ) → IsOptionalSign bs → Plain bs
optional_plain [] h = refl
optional_plain (b ∷ []) h = plain_and b [] (sign_plain b h) refl
optional_plain (b ∷ c ∷ bs) h = absurd h

signed_plain : (bs : List ℕ) → IsSigned bs → Plain bs
signed_plain bs w =
    subst Plain (sym w.whole) (plain_append w.sign w.digits (optional_plain w.sign w.is_sign) (plain_all is_digit digit_plain w.digits w.are_digits.0))

fraction_plain : (bs : List ℕ) → IsFraction bs → Plain bs
fraction_plain [] h = refl
fraction_plain (b ∷ bs) h = plain_and b bs (subst (λ (n : ℕ). is_plain n ≡ true) (sym h.0) refl) (plain_all is_digit digit_plain bs h.1)

exponent_plain : (bs : List ℕ) → IsExponent bs → Plain bs
exponent_plain [] h = refl
exponent_plain (b ∷ bs) h = plain_and b bs (mark_plain b h.0) (signed_plain bs h.1)

-- a token that doesn't begin with a parenthesis or an apostrophe
pub spelled_plain : (k : TokenKind) (b : ℕ) (bs : List ℕ) → Spells k (b ∷ bs) → is_plain b ≡ true → Plain (b ∷ bs)
spelled_plain tokens.Word b bs w h =
    let rest : Plain (w.first ∷ w.others) = plain_and w.first w.others (letter_plain w.first w.is_first) (plain_all is_word_byte word_plain w.others w.are_others) in
    elim w.is_bang [
      | inl e ↦ subst Plain (sym (w.whole ∙ ap (λ (x : List ℕ). x ++ w.first ∷ w.others) e)) rest
      | inr e ↦ subst Plain (sym (w.whole ∙ ap (λ (x : List ℕ). x ++ w.first ∷ w.others) e)) (plain_and 33 (w.first ∷ w.others) refl rest)
    ]
spelled_plain tokens.Name b bs w h = subst Plain (sym w.whole) (plain_and 35 w.digits refl (plain_all is_digit digit_plain w.digits w.are_digits.0))
spelled_plain tokens.Number b bs w h =
    subst Plain (sym w.whole) (plain_append w.front (w.fraction ++ w.exponent) (signed_plain w.front w.is_front) (plain_append w.fraction w.exponent (fraction_plain w.fraction w.is_fraction) (exponent_plain w.exponent w.is_exponent)))
spelled_plain tokens.Words b bs w h =
    let f : b ∷ bs ≡ 39 ∷ (w.inner ++ 39 ∷ []) = w.whole in
    let same : b ≡ 39 = cc in
    absurd (let g : is_plain 39 ≡ true = subst (λ (n : ℕ). is_plain n ≡ true) same h in cc)
spelled_plain tokens.Enumeration b bs w h =
    subst Plain (sym w.whole)
    (plain_and 46 (w.first ∷ (w.others ++ 46 ∷ [])) refl
    (plain_and w.first (w.others ++ 46 ∷ []) (letter_plain w.first w.is_first) (plain_append w.others (46 ∷ []) (plain_all is_letter_or_digit both_plain w.others w.are_others) refl)))
spelled_plain tokens.Bits b bs w h =
    subst Plain (sym w.whole) (plain_and 34 (w.digits ++ 34 ∷ []) refl (plain_append w.digits (34 ∷ []) (plain_all is_hexadecimal hexadecimal_plain w.digits w.are_digits.0) refl))
spelled_plain tokens.Single b bs w h =
    let f : b ∷ bs ≡ w.byte ∷ [] = w.whole in
    let none : bs ≡ [] = cc in
    plain_and b bs h (subst Plain (sym none) refl)

pub plain_at : (bs : List ℕ) (i : ℕ) → Plain bs → i < length bs → is_plain (get_or bs i 0) ≡ true
plain_at [] i h lt = absurd (omega (arith, lt))
plain_at (b ∷ bs) zero h lt = (and_parts (is_plain b) (list_all is_plain bs) h).0
plain_at (b ∷ bs) (suc i) h lt = plain_at bs i (and_parts (is_plain b) (list_all is_plain bs) h).1 (omega (arith, lt))

-- such a token opens and closes none

not_opening : {A : Type 0} (b : ℕ) → (b == 40) ≡ true → is_plain b ≡ true → A
not_opening b k h = absurd (let g = rw k at h in cc)

not_closing : {A : Type 0} (b : ℕ) → (b == 40) ≡ false → (b == 41) ≡ true → is_plain b ≡ true → A
not_closing b k l h = absurd (let g = rw (k, l) at h in cc)

plain_single : (b d : ℕ) → is_plain b ≡ true → depth_after (kind_of (class_of (single_says b))) d ≡ d
plain_single b d h = elim (cases_Bool (b == 40)) [
  | inl k ↦ not_opening b k h
  | inr k ↦
      elim (cases_Bool (b == 41)) [
        | inl l ↦ not_closing b k l h
        | inr l ↦
            elim (cases_Bool (b == 44)) [
              | inl m ↦ rw (k, l, m) refl
              | inr m ↦
                  elim (cases_Bool (b == 59)) [
                    | inl n ↦ rw (k, l, m, n) refl
                    | inr n ↦
                        elim (cases_Bool (b == 61)) [
                          | inl o ↦ rw (k, l, m, n, o) refl
                          | inr o ↦ elim (cases_Bool (b == 42)) [ inl p ↦ rw (k, l, m, n, o, p) refl | inr p ↦ rw (k, l, m, n, o, p) refl ]
                        ]
                  ]
            ]
      ]
]

pub plain_depth : (k : TokenKind) (b : ℕ) (bs : List ℕ) (d : ℕ) → is_plain b ≡ true → depth_after (kind_of (class_of (says k (b ∷ bs)))) d ≡ d
plain_depth tokens.Single b bs d h = plain_single b d h
plain_depth k b bs d h = refl
