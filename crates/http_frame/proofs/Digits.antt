-- One more digit.
use Rattle.std.proofs.Common.{◌≡◌, ◌+◌, ◌-◌, ◌*◌, ◌<◌, ◌≤◌, ℕ, List, true, length, take, get_or, if◌then◌else◌, Some, None, arith, refl}
use Rattle.std.specs.Prelude.{nat_lt}
use Rattle.std.specs.List.{list_all}
use Rattle.std.specs.Char.{is_ascii_digit}
use Rattle.std.specs.Int.{IsInRange}
use Rattle.std.specs.Str.Parse.{digits_value}
use Rattle.std.proofs.lemmas.Int.Digits.{digits_value_more}
use Rattle.std.proofs.lemmas.Str.{digit_value_digit}
use Rattle.std.proofs.lemmas.Str.Parse.{digits_value-take-le}
use Rattle.std.proofs.lemmas.List.Sums.{AllPass-from_list_all}
use Rattle.std.proofs.lemmas.Grind.{common_steps}

pub digit_at : (text : List ℕ) (i : ℕ) → list_all is_ascii_digit text ≡ true → i < length text → IsInRange 48 57 (get_or text i 0)
digit_at text i h lt =
    let each = AllPass-from_list_all is_ascii_digit text h in
    grind (arith, common_steps, each)

pub digit_more : (text : List ℕ) (i v : ℕ) → list_all is_ascii_digit text ≡ true → i < length text
    → v ≡ digits_value 10 (take i text) → v * 10 + (get_or text i 0 - 48) ≡ digits_value 10 (take (i + 1) text)
digit_more text i v all lt e =
    let range = digit_at text i all lt in
    let digit = digit_value_digit (get_or text i 0) range in
    let more = digits_value_more 10 text i lt in
    grind (arith, digit, more, range)

-- more digits make no smaller number
pub past_most : (text : List ℕ) (i v most : ℕ) → v ≡ digits_value 10 (take (i + 1) text) → most < v
    → None ≡ (if nat_lt most (digits_value 10 text) then None else Some (digits_value 10 text))
past_most text i v most e over =
    let more : digits_value 10 (take (i + 1) text) ≤ digits_value 10 text = digits_value-take-le 10 text (i + 1) (omega arith) in
    let large : most < digits_value 10 text = omega arith in
    let test : nat_lt most (digits_value 10 text) ≡ true = grind arith in
    rw test refl
