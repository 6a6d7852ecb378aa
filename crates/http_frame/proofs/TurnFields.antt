-- Turns that fields write.
use Rattle.std.proofs.Common.{◌≡◌, ◌<◌, ◌≤◌, ◌^◌, ◌&&◌, ℕ, Bool, true, false, List, [], ◌∷◌, length, Some, None, if◌then◌else◌, refl, sym, ◌∙◌, ap, arith}
use Rattle.std.specs.Prelude.{nat_lt, nat_le}
use Rattle.std.specs.List.{list_all}
use Rattle.std.specs.Char.{is_ascii_digit}
use Rattle.std.specs.Str.{all_ascii_digits}
use Rattle.std.specs.Str.Parse.{digits_value}
use Rattle.std.proofs.lemmas.Bool.{and_parts, leb-true}
use Rattle.std.proofs.lemmas.Str.Parse.{IsNumeralModel, numerals_by_value, tells_all_ascii_digits, digits_value_short}
use Rattle.http_frame.specs.declared.types.TurnField.{TurnField}
use Rattle.http_frame.specs.declared.types.TurnField.TheVariants as turn
use Rattle.http_frame.specs.Heads.{are_digits, is_turn, turn_by}

digits_are : (text : List ℕ) → all_ascii_digits text ≡ list_all is_ascii_digit text
digits_are [] = refl
digits_are (c ∷ cs) = ap (λ (rest : Bool). is_ascii_digit c && rest) (digits_are cs)

numerals : IsNumeralModel (λ ds. all_ascii_digits ds ≡ true) (digits_value 10)
numerals = numerals_by_value (λ ds. all_ascii_digits ds ≡ true) tells_all_ascii_digits

-- a turn has few digits and nothing else
pub turn_parts : (value : List ℕ) → is_turn value ≡ true → (list_all is_ascii_digit value ≡ true) × (length value ≤ 15)
turn_parts value is =
    let all = and_parts (are_digits value) (nat_le (length value) 15) is in
    let digits = and_parts (nat_lt 0 (length value)) (list_all is_ascii_digit value) all.0 in
    (digits.1, leb-true (length value) 15 all.1)

small_turn : (value : List ℕ) → is_turn value ≡ true → digits_value 10 value < 10 ^ 15
small_turn value is =
    let parts = turn_parts value is in
    digits_value_short numerals value 15 (digits_are value ∙ parts.0) parts.1

few_digits : (value : List ℕ) → is_turn value ≡ true → nat_lt 999999999999999 (digits_value 10 value) ≡ false
few_digits value is =
    let small : digits_value 10 value < 1000000000000000 = small_turn value is in
    grind (arith, small)

-- a value that is no turn
pub bad_turn : (value : List ℕ) → is_turn value ≡ false → turn.Bad ≡ turn_by (value ∷ [])
bad_turn value is = sym (ap (λ (b : Bool). (if b then turn.Given (digits_value 10 value) else turn.Bad)) is)

-- the number of one is given
pub given_turn : (value : List ℕ) (n : ℕ) → is_turn value ≡ true
    → Some n ≡ (if nat_lt 999999999999999 (digits_value 10 value) then None else Some (digits_value 10 value))
    → turn.Given n ≡ turn_by (value ∷ [])
given_turn value n is read =
    let same : Some n ≡ Some (digits_value 10 value) =
    read ∙ ap (λ (b : Bool). (if b then None else Some (digits_value 10 value))) (few_digits value is) in
    let number : n ≡ digits_value 10 value = cc in
    ap turn.Given number ∙ sym (ap (λ (b : Bool). (if b then turn.Given (digits_value 10 value) else turn.Bad)) is)

-- each is read
pub turn_is_read : (value : List ℕ) → is_turn value ≡ true
    → None ≡ (if nat_lt 999999999999999 (digits_value 10 value) then None else Some (digits_value 10 value)) → ⊥
turn_is_read value is read =
    let none : None ≡ Some (digits_value 10 value) =
    read ∙ ap (λ (b : Bool). (if b then None else Some (digits_value 10 value))) (few_digits value is) in
    cc
