-- What tokens of names, keywords and texts say, and that it fits.
use Rattle.std.proofs.Common.{◌≡◌, ℕ, ◌+◌, ◌-◌, ◌*◌, ◌<◌, ◌≤◌, ◌==◌, inl, inr, Bool, true, List, [], ◌∷◌, ◌++◌, length, get_or, map, drop, zero, suc, add-one, arith, refl, sym, ap, subst, ◌∙◌, drop-cons, slice_range}
use Rattle.std.proofs.lemmas.Bool.Decides.{nat_tests}
use Rattle.std.specs.Str.{IsAscii}
use Rattle.std.specs.Char.{to_ascii_uppercase}
use Rattle.std.proofs.lemmas.Bool.{cases_Bool, and_parts}
use Rattle.p21_lexer.specs.declared.token.TokenKind.{TokenKind}
use Rattle.p21_lexer.specs.declared.token.TokenKind.TheVariants as tokens
use Rattle.p21_lexer.specs.Spelling.{Spells, IsWord, value_after, is_letter, is_word_byte, AreAll}
use Rattle.p21_lexer.specs.declared.limits.TheConstants.{GREATEST_NAME}
use Rattle.p21_values.specs.declared.piece.Kind.TheVariants as kinds
use Rattle.p21_values.specs.Lexemes.{KeywordOf, says, class_of, single_says}
use Rattle.p21_values.specs.TokenPieces.{kind_of}
use Rattle.p21_values.proofs.Seen.{head_of}

-- Numbers.

grows : (v : ℕ) (ds : List ℕ) → v ≤ value_after v ds
grows v [] = omega arith
grows v (d ∷ ds) = let g = grows (v * 10 + (d - 48)) ds in omega (arith, g)

pub digit_step : (v : ℕ) (ds : List ℕ) (i d : ℕ) → i < length ds → value_after v (drop i ds) ≡ value_after (v * 10 + (get_or ds i d - 48)) (drop (i + 1) ds)
digit_step v ds i d h = rw (add-one i, drop-cons ds i d h) refl

pub digit_bound : (v most : ℕ) (ds : List ℕ) (i d : ℕ) → i < length ds → value_after v (drop i ds) ≤ most → v * 10 + (get_or ds i d - 48) ≤ most
digit_bound v most ds i d h k =
    let e = digit_step v ds i d h in
    let g = grows (v * 10 + (get_or ds i d - 48)) (drop (i + 1) ds) in
    omega (arith, e, g, k)

-- Kinds.

single_is : (b : ℕ) → (kind_of (class_of (single_says b)) ≡ kinds.Name → ⊥) × (kind_of (class_of (single_says b)) ≡ kinds.Word → ⊥)
single_is b = elim (cases_Bool (b == 40)) [
  | inl k ↦ rw k ((λ h. cc), (λ h. cc))
  | inr k ↦
      elim (cases_Bool (b == 41)) [
        | inl l ↦ rw (k, l) ((λ h. cc), (λ h. cc))
        | inr l ↦
            elim (cases_Bool (b == 44)) [
              | inl m ↦ rw (k, l, m) ((λ h. cc), (λ h. cc))
              | inr m ↦
                  elim (cases_Bool (b == 59)) [
                    | inl n ↦ rw (k, l, m, n) ((λ h. cc), (λ h. cc))
                    | inr n ↦
                        elim (cases_Bool (b == 61)) [
                          | inl o ↦ rw (k, l, m, n, o) ((λ h. cc), (λ h. cc))
                          | inr o ↦
                              elim (cases_Bool (b == 42)) [ inl p ↦ rw (k, l, m, n, o, p) ((λ h. cc), (λ h. cc)) | inr p ↦ rw (k, l, m, n, o, p) ((λ h. cc), (λ h. cc)) ]
                        ]
                  ]
            ]
      ]
]

pub name_kind : (k : TokenKind) (bs : List ℕ) → kind_of (class_of (says k bs)) ≡ kinds.Name → k ≡ tokens.Name
name_kind tokens.Name bs h = refl
name_kind tokens.Single [] h = cc
name_kind tokens.Single (b ∷ bs) h = absurd ((single_is b).0 h)
name_kind k bs h = cc

pub word_kind : (k : TokenKind) (bs : List ℕ) → kind_of (class_of (says k bs)) ≡ kinds.Word → k ≡ tokens.Word
word_kind tokens.Word bs h = refl
word_kind tokens.Single [] h = cc
word_kind tokens.Single (b ∷ bs) h = absurd ((single_is b).1 h)
word_kind k bs h = cc

pub tail_of : (bs : List ℕ) (a b : ℕ) → a < b → b ≤ length bs → drop 1 (slice_range bs a b) ≡ slice_range bs (a + 1) b
tail_of bs a b h k = let e : b - (a + 1) ≡ b - suc a = omega arith in rw (add-one a) (ap (λ x. drop 1 x) (head_of bs a b 0 h k))

pub name_bound : (k : TokenKind) (bs : List ℕ) → Spells k bs → k ≡ tokens.Name → value_after 0 (drop 1 bs) ≤ GREATEST_NAME
name_bound tokens.Name bs w h = rw w.whole w.bound
name_bound k bs w h = cc

-- ASCII.

abbrev pub AreBelow : List ℕ → Type 0
AreBelow [] = Unit {0}
AreBelow (b ∷ bs) = (b < 128) × AreBelow bs

pub below_ascii : (bs : List ℕ) → AreBelow bs → IsAscii bs
below_ascii [] h i = omega arith
below_ascii (b ∷ bs) h zero = h.0
below_ascii (b ∷ bs) h (suc i) = below_ascii bs h.1 i

below_byte : (b : ℕ) → is_word_byte b ≡ true → b < 128
below_byte b h = grind (arith, nat_tests)

pub below_letter : (b : ℕ) → is_letter b ≡ true → b < 128
below_letter b h = grind (arith, nat_tests)

pub below_all : (p : ℕ → Bool) (bs : List ℕ) → ((b : ℕ) → p b ≡ true → b < 128) → AreAll p bs → AreBelow bs
below_all p [] f h = tt
below_all p (b ∷ bs) f h = (f b (and_parts (p b) _ h).0, below_all p bs f (and_parts (p b) _ h).1)

upper_below : (b : ℕ) → b < 128 → to_ascii_uppercase b < 128
upper_below b h = grind (arith, nat_tests)

pub uppers_below : (bs : List ℕ) → AreBelow bs → AreBelow (map to_ascii_uppercase bs)
uppers_below [] h = tt
uppers_below (b ∷ bs) h = (upper_below b h.0, uppers_below bs h.1)

along : (xs bs : List ℕ) → xs ≡ bs → AreBelow bs → AreBelow xs
along xs bs e h = subst AreBelow (sym e) h

word_below : (bs : List ℕ) → IsWord bs → AreBelow bs
word_below bs w =
    let rest : AreBelow (w.first ∷ w.others) = (below_letter w.first w.is_first, below_all is_word_byte w.others below_byte w.are_others) in
    elim w.is_bang [
      | inl e ↦ along bs (w.first ∷ w.others) (w.whole ∙ ap (λ x. x ++ w.first ∷ w.others) e) rest
      | inr e ↦ along bs (33 ∷ w.first ∷ w.others) (w.whole ∙ ap (λ x. x ++ w.first ∷ w.others) e) (omega arith, rest)
    ]

pub keyword_ascii : (k : TokenKind) (bs : List ℕ) → Spells k bs → k ≡ tokens.Word → IsAscii (map to_ascii_uppercase bs)
keyword_ascii tokens.Word bs w h = below_ascii (map to_ascii_uppercase bs) (uppers_below bs (word_below bs w))
keyword_ascii k bs w h = cc

pub keyword_says : (k : TokenKind) (bs : List ℕ) → k ≡ tokens.Word → KeywordOf (map to_ascii_uppercase bs) ≡ says k bs
keyword_says k bs h = rw h refl
