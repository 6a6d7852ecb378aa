-- Numbers that words write.
use Rattle.std.specs.Prelude.{◌≤◌, ◌&&◌, ℕ, Bool, List, length, nat_le, if◌then◌else◌, Option, Some, None}
use Rattle.std.specs.List.{list_all}
use Rattle.std.specs.Char.{is_ascii_digit}
use Rattle.std.specs.Str.Parse.{digits_value}

-- a number, where it is one of these
abbrev pub within : ℕ → ℕ → ℕ → Option ℕ
within least most number = if nat_le least number && nat_le number most then Some number else None

-- 1 to 20 digits
abbrev pub is_number : List ℕ → Bool
is_number text = nat_le 1 (length text) && nat_le (length text) 20 && list_all is_ascii_digit text

-- the number that 1 to 20 digits write, where it is one of these
unfoldable pub number_word : ℕ → ℕ → List ℕ → Option ℕ
number_word least most text = if is_number text then within least most (digits_value 10 text) else None
