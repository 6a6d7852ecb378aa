-- What the literals of a filter stand for.
use Rattle.std.specs.Prelude.{ℕ, ℤ, pos, negsuc, ◌/◌, ◌==◌, nat_lt, nat_le, Bool, true, false, ◌&&◌, cond, List, [], ◌∷◌, length, Option, Some, None, option_and_then}
use Rattle.std.specs.List.{list_all}
use Rattle.std.specs.Char.{is_ascii_digit}
use Rattle.std.specs.Str.Parse.{signed_digits_value, without_leading_sign}
use Rattle.std.specs.Result.{result_ok}
use Rattle.jiff_fmt.specs.Temporal.{parse_timestamp}
use Rattle.bim_model.specs.Moments.{last_moment}

-- the bytes between the apostrophes of a text, with one apostrophe for each two. `after` says that the byte before
-- was the first of two.
abbrev pub unquoted : Bool → List ℕ → List ℕ
unquoted after [] = []
unquoted after (b ∷ bytes) =
    cond (b == 39) (cond after (unquoted false bytes) (b ∷ unquoted true bytes)) (b ∷ unquoted false bytes)

-- one digit or more
abbrev pub is_digits : List ℕ → Bool
is_digits digits = nat_lt 0 (length digits) && list_all is_ascii_digit digits

-- a number of 32 bits in two's complement, where `negsuc n` is -n - 1
abbrev pub if_32_bits : ℤ → Option ℤ
if_32_bits (pos n) = cond (nat_lt n 2147483648) (Some (pos n)) None
if_32_bits (negsuc n) = cond (nat_lt n 2147483648) (Some (negsuc n)) None

-- the whole number of 32 bits that a word spells: digits with `+`, `-` or nothing before them
unfoldable pub number_in : List ℕ → Option ℤ
number_in word =
    cond (is_digits (without_leading_sign word)) (if_32_bits (signed_digits_value 10 word)) None

-- the second of 1970 or later in which so many nanoseconds since 1970 lie
abbrev pub second_of : ℤ → Option ℕ
second_of (pos nanos) = cond (nat_le (nanos / 1000000000) last_moment) (Some (nanos / 1000000000)) None
second_of (negsuc nanos) = None

-- the moment that a word spells, as jiff reads instants (RFC 3339 and more), without its fraction
unfoldable pub date_in : List ℕ → Option ℕ
date_in word = option_and_then second_of (result_ok (parse_timestamp word))
