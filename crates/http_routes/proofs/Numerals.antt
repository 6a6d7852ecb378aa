-- Numbers that targets write.
use Rattle.std.proofs.Common.{◌≡◌, ◌<◌, ◌≤◌, ◌^◌, ◌&&◌, ℕ, Bool, true, false, List, [], ◌∷◌, length, Some, None, Result, Ok, Err, nat_le, if◌then◌else◌, refl, sym, ◌∙◌, ap, arith}
use Rattle.std.specs.List.{list_all}
use Rattle.std.specs.Char.{is_ascii_digit}
use Rattle.std.specs.Str.{all_ascii_digits}
use Rattle.std.specs.Str.Parse.{ParsesUnsigned, digits_value}
use Rattle.std.proofs.lemmas.Bool.{and_parts, leb-true}
use Rattle.std.proofs.lemmas.Str.Parse.{IsNumeralModel, numerals_by_value, parse_digits, tells_all_ascii_digits, digits_value_short}
use Rattle.http_routes.specs.PathNumbers.{is_number, number_in}

digits_are : (text : List ℕ) → all_ascii_digits text ≡ list_all is_ascii_digit text
digits_are [] = refl
digits_are (c ∷ cs) = ap (λ (rest : Bool). is_ascii_digit c && rest) (digits_are cs)

numerals : IsNumeralModel (λ ds. all_ascii_digits ds ≡ true) (digits_value 10)
numerals = numerals_by_value (λ ds. all_ascii_digits ds ≡ true) tells_all_ascii_digits

-- 1 to 15 digits
record IsNumber (text : List ℕ) : Type 0 where
  some : 1 ≤ length text
  few : length text ≤ 15
  digits : all_ascii_digits text ≡ true

number_parts : (text : List ℕ) → is_number text ≡ true → IsNumber text
number_parts text is =
    let all = and_parts (nat_le 1 (length text) && nat_le (length text) 15) (list_all is_ascii_digit text) is in
    let lengths = and_parts (nat_le 1 (length text)) (nat_le (length text) 15) all.0 in
    record { some = leb-true 1 (length text) lengths.0; few = leb-true (length text) 15 lengths.1; digits = digits_are text ∙ all.1 }

written : (text : List ℕ) → is_number text ≡ true → number_in text ≡ Some (digits_value 10 text)
unfolding number_in
written text is = ap (λ (b : Bool). (if b then Some (digits_value 10 text) else None)) is

-- a text that is no number writes none
pub unwritten : (text : List ℕ) → is_number text ≡ false → None ≡ number_in text
unfolding number_in
unwritten text is = sym (ap (λ (b : Bool). (if b then Some (digits_value 10 text) else None)) is)

-- what is read of a number is its value, and nothing else is
pub word_read : {E : Type 0} (text : List ℕ) (read : Result ℕ E) → is_number text ≡ true → ParsesUnsigned 64 10 text read
    → (n : ℕ) → read ≡ Ok n → Some n ≡ number_in text
word_read {E} text (Ok number) is parses n e =
    let value = parse_digits numerals {E = E} 64 text (Ok number) parses (number_parts text is).digits in
    let same : number ≡ n = cc in
    ap Some (sym same ∙ value.1) ∙ sym (written text is)
word_read {E} text (Err error) is parses n e = cc

-- each number is read
pub word_is_read : {E : Type 0} (text : List ℕ) (read : Result ℕ E) → is_number text ≡ true → ParsesUnsigned 64 10 text read
    → (error : E) → read ≡ Err error → ⊥
word_is_read {E} text (Ok number) is parses error e = cc
word_is_read {E} text (Err found) is parses error e =
    let parts = number_parts text is in
    let none = parse_digits numerals {E = E} 64 text (Err found) parses parts.digits in
    let small : digits_value 10 text < 10 ^ 15 = digits_value_short numerals text 15 parts.digits parts.few in
    none ((let some : 1 ≤ length text = parts.some in omega arith), (let below : digits_value 10 text < 2 ^ 64 = omega (arith, small) in below))
