-- Whole numbers of 32 bits that words spell.
use Rattle.std.proofs.Common.{◌≡◌, ℕ, zero, suc, ◌<◌, ◌&&◌, Bool, true, false, cond, eqb, List, [], ◌∷◌, length, drop, ℤ, pos, negsuc, Some, None, Result, Ok, Err, nat_lt, refl, sym, ◌∙◌, ap, arith}
use Rattle.std.specs.List.{list_all}
use Rattle.std.specs.Char.{is_ascii_digit}
use Rattle.std.specs.Str.{IsAscii, IsUtf8, all_ascii_digits}
use Rattle.std.specs.Str.Parse.{IsNumeral, ParsesSigned, digits_value, signed_digits_value, without_leading_sign}
use Rattle.std.proofs.lemmas.Bool.{and_parts, ltb-true, eqb-true}
use Rattle.std.proofs.lemmas.Str.{IsUtf8-from_ascii}
use Rattle.std.proofs.lemmas.Str.Parse.{IsNumeralModel, numerals_by_value, tells_all_ascii_digits}
use Rattle.std.proofs.lemmas.Grind.{common_steps}
use mir.Syntax.{w32}
use mir.Val.{SFits}
use Rattle.odata_filter.specs.FilterLiterals.{is_digits, if_32_bits, number_in}

digits_are : (ds : List ℕ) → all_ascii_digits ds ≡ list_all is_ascii_digit ds
digits_are [] = refl
digits_are (c ∷ cs) = ap (λ (rest : Bool). is_ascii_digit c && rest) (digits_are cs)

numerals : IsNumeralModel (λ ds. all_ascii_digits ds ≡ true) (digits_value 10)
numerals = numerals_by_value (λ ds. all_ascii_digits ds ≡ true) tells_all_ascii_digits

all_digits : (ds : List ℕ) → is_digits ds ≡ true → list_all is_ascii_digit ds ≡ true
all_digits ds is = (and_parts (nat_lt 0 (length ds)) (list_all is_ascii_digit ds) is).1

numeral : (ds : List ℕ) → is_digits ds ≡ true → IsNumeral 10 ds
numeral ds is =
    let parts = and_parts (nat_lt 0 (length ds)) (list_all is_ascii_digit ds) is in
    (ltb-true 0 (length ds) parts.0, numerals.to ds (digits_are ds ∙ parts.1))

low : (b : ℕ) → is_ascii_digit b ≡ true → b < 128
low b e = grind (arith, common_steps, e)

below : (b : ℕ) (bs : List ℕ) → b < 128 → IsAscii bs → IsAscii (b ∷ bs)
below b bs h rest zero = h
below b bs h rest (suc i) = rest i

ascii : (bs : List ℕ) → list_all is_ascii_digit bs ≡ true → IsAscii bs
ascii [] e = λ i. omega arith
ascii (b ∷ bs) e =
    let parts = and_parts (is_ascii_digit b) (list_all is_ascii_digit bs) e in
    below b bs (low b parts.0) (ascii bs parts.1)

signs : (b : ℕ) (bs : List ℕ) (minus plus : Bool) → eqb b 45 ≡ minus → eqb b 43 ≡ plus
    → is_digits (cond minus (drop 1 (b ∷ bs)) (drop (cond plus 1 0) (b ∷ bs))) ≡ true → IsAscii (b ∷ bs)
signs b bs true plus e _ is =
    let sign : b ≡ 45 = eqb-true b 45 e in below b bs (omega arith) (ascii bs (all_digits bs is))
signs b bs false true _ e is =
    let sign : b ≡ 43 = eqb-true b 43 e in below b bs (omega arith) (ascii bs (all_digits bs is))
signs b bs false false _ _ is = ascii (b ∷ bs) (all_digits (b ∷ bs) is)

-- a sign and digits are ASCII
signed_ascii : (word : List ℕ) → is_digits (without_leading_sign word) ≡ true → IsAscii word
signed_ascii [] is = ascii [] refl
signed_ascii (b ∷ bs) is = signs b bs (eqb b 45) (eqb b 43) refl refl is

by_test : (n : ℕ) (z : ℤ) (b : Bool) → nat_lt n 2147483648 ≡ b → (n < 2147483648 → ⊥) → cond b (Some z) None ≡ None
by_test n z true is never = absurd (never (ltb-true n 2147483648 is))
by_test n z false is never = refl

fits_not : (z : ℤ) → (SFits w32 z → ⊥) → if_32_bits z ≡ None
fits_not (pos n) never = by_test n (pos n) (nat_lt n 2147483648) refl (λ h. never (record { sfits = h }))
fits_not (negsuc n) never = by_test n (negsuc n) (nat_lt n 2147483648) refl (λ h. never (record { sfits = h }))

spelled : (word : List ℕ) → is_digits (without_leading_sign word) ≡ true
    → number_in word ≡ if_32_bits (signed_digits_value 10 word)
unfolding number_in
spelled word is = ap (λ (b : Bool). cond b (if_32_bits (signed_digits_value 10 word)) None) is

-- a sign and digits are a text
pub digits_are_text : (word : List ℕ) → is_digits (without_leading_sign word) ≡ true → IsUtf8 word
digits_are_text word is = IsUtf8-from_ascii word (signed_ascii word is)

-- and what isn't read is beyond 32 bits
pub number_not_read : {E : Type 0} (word : List ℕ) (read : Result ℤ E) (error : E)
    → is_digits (without_leading_sign word) ≡ true → ParsesSigned w32 10 word read → read ≡ Err error
    → None ≡ number_in word
number_not_read {E} word (Ok found) error is parses e = cc
number_not_read {E} word (Err found) error is parses e =
    sym (spelled word is ∙ fits_not (signed_digits_value 10 word)
    (λ h. parses (numeral (without_leading_sign word) is, h)))
