-- Numbers that words write.
use Rattle.std.proofs.Common.{◌≡◌, ◌<◌, ◌≤◌, ◌^◌, ◌&&◌, ℕ, Bool, true, false, List, [], ◌∷◌, length, Option, None, Result, Ok, Err, nat_le, if◌then◌else◌, refl, sym, ◌∙◌, ap, inl, inr, arith}
use Rattle.std.specs.List.{list_all}
use Rattle.std.specs.Char.{is_ascii_digit}
use Rattle.std.specs.Str.{all_ascii_digits}
use Rattle.std.specs.Str.Parse.{ParsesUnsigned, digits_value}
use Rattle.std.proofs.lemmas.Bool.{and_parts, cases_lt, leb-true}
use Rattle.std.proofs.lemmas.Bool.Decides.{nat_tests}
use Rattle.std.proofs.lemmas.Str.Parse.{IsNumeralModel, numerals_by_value, parse_digits, tells_all_ascii_digits}
use Rattle.command_words.specs.NumberWords.{is_number, number_word, within}

digits_are : (text : List ℕ) → all_ascii_digits text ≡ list_all is_ascii_digit text
digits_are [] = refl
digits_are (c ∷ cs) = ap (λ (rest : Bool). is_ascii_digit c && rest) (digits_are cs)

numerals : IsNumeralModel (λ ds. all_ascii_digits ds ≡ true) (digits_value 10)
numerals = numerals_by_value (λ ds. all_ascii_digits ds ≡ true) tells_all_ascii_digits

-- 1 to 20 digits
record IsNumber (text : List ℕ) : Type 0 where
  some : 1 ≤ length text
  digits : all_ascii_digits text ≡ true

number_parts : (text : List ℕ) → is_number text ≡ true → IsNumber text
number_parts text is =
    let all = and_parts (nat_le 1 (length text) && nat_le (length text) 20) (list_all is_ascii_digit text) is in
    let lengths = and_parts (nat_le 1 (length text)) (nat_le (length text) 20) all.0 in
    record { some = leb-true 1 (length text) lengths.0; digits = digits_are text ∙ all.1 }

written : (least most : ℕ) (text : List ℕ) → is_number text ≡ true → number_word least most text ≡ within least most (digits_value 10 text)
unfolding number_word
written least most text is = ap (λ (b : Bool). (if b then within least most (digits_value 10 text) else None)) is

-- a text that is no number writes none
pub unwritten : (least most : ℕ) (text : List ℕ) → is_number text ≡ false → None ≡ number_word least most text
unfolding number_word
unwritten least most text is = sym (ap (λ (b : Bool). (if b then within least most (digits_value 10 text) else None)) is)

beyond : (least most number : ℕ) → most < number → None ≡ within least most number
beyond least most number high = grind (arith, nat_tests, high)

-- what is read of a text as a number of 64 bits, where it is one of these
abbrev pub read_within : {E : Type 0} → ℕ → ℕ → Result ℕ E → Option ℕ
read_within least most (Ok number) = within least most number
read_within least most (Err e) = None

pub word_read : {E : Type 0} (least most : ℕ) (text : List ℕ) (read : Result ℕ E) → is_number text ≡ true → most < 2 ^ 64 → ParsesUnsigned 64 10 text read
    → read_within least most read ≡ number_word least most text
word_read {E} least most text (Ok number) is small parses =
    let value = parse_digits numerals {E = E} 64 text (Ok number) parses (number_parts text is).digits in
    ap (within least most) value.1 ∙ sym (written least most text is)
word_read {E} least most text (Err e) is small parses =
    let parts = number_parts text is in
    let none = parse_digits numerals {E = E} 64 text (Err e) parses parts.digits in
    elim (cases_lt (digits_value 10 text) (2 ^ 64)) [
      | inl below ↦ absurd (none ((let some : 1 ≤ length text = parts.some in omega arith), below))
      | inr above ↦ beyond least most (digits_value 10 text) (omega arith) ∙ sym (written least most text is)
    ]
