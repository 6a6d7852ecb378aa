use Rattle.std.specs.Prelude.{ℕ, ◌+◌, ◌-◌, ◌*◌, List, [], ◌∷◌, drop, Bool, false, ◌&&◌, ◌==◌, nat_le, nat_lt, if◌then◌else◌, Option, Some, None, option_map}
use Rattle.p21_lexer.specs.declared.limits.TheConstants.{GREATEST_NAME}
use Rattle.p21_lexer.specs.Spelling.{is_digit, is_letter, is_word_byte, is_letter_or_digit, is_hexadecimal, is_sign, is_exponent_mark, run}

-- How long the longest fronts are, as functions: what the code computes. No public contract cites it.

-- how many of the bytes at the front are such, at most one
abbrev pub one : (ℕ → Bool) → List ℕ → ℕ
one p [] = 0
one p (b ∷ bs) = if p b then 1 else 0

-- up to and with the first */
abbrev pub comment_span : List ℕ → Option ℕ
comment_span [] = None
comment_span (b ∷ []) = None
comment_span (b ∷ c ∷ bs) = if (b == 42) && (c == 47) then Some 2 else option_map (λ n. n + 1)
    (comment_span (c ∷ bs))

-- the length of a word without a mark before it, if one begins here
abbrev pub plain_word_span : List ℕ → Option ℕ
plain_word_span [] = None
plain_word_span (b ∷ bs) = if is_letter b then Some (run is_word_byte bs + 1) else None

-- an exclamation mark
abbrev pub is_bang : ℕ → Bool
is_bang b = b == 33

-- the length of a word, with the mark before it, if one begins here
unfoldable pub word_span : List ℕ → Option ℕ
word_span bs = option_map (λ n. one is_bang bs + n) (plain_word_span (drop (one is_bang bs) bs))

-- after the point
abbrev pub closed_span : (ℕ → Bool) → ℕ → List ℕ → Option ℕ
closed_span p close bs = if one (λ b. b == close) (drop (run p bs) bs) == 1 then Some (run p bs + 1) else None

-- the length of what follows the point of an enumeration, with the closing point, if it is one
unfoldable pub enumeration_span : List ℕ → Option ℕ
enumeration_span bs = if one is_letter bs == 1 then closed_span is_letter_or_digit 46 bs else None

-- the length of what follows the quote of binary digits, with the closing quote, if they are such
unfoldable pub bits_span : List ℕ → Option ℕ
bits_span bs = if nat_lt 0 (run is_hexadecimal bs) then closed_span is_hexadecimal 34 bs else None

-- a point
abbrev pub is_point : ℕ → Bool
is_point b = b == 46

-- the length of a point with the digits after it, or nothing
unfoldable pub fraction_span : List ℕ → ℕ
fraction_span bs = if one is_point bs == 1 then run is_digit (drop 1 bs) + 1 else 0

-- of a sign and digits
unfoldable pub signed_span : List ℕ → Option ℕ
signed_span bs = if nat_lt 0 (run is_digit (drop (one is_sign bs) bs)) then Some
    (one is_sign bs + run is_digit (drop (one is_sign bs) bs)) else None

-- one more than the length, or nothing where there is none
abbrev pub or_zero : Option ℕ → ℕ
or_zero None = 0
or_zero (Some n) = n + 1

-- the length of an exponent with its mark, or nothing
unfoldable pub exponent_span : List ℕ → ℕ
exponent_span bs = if one is_exponent_mark bs == 1 then or_zero (signed_span (drop 1 bs)) else 0

-- a length with that of the fraction that follows
abbrev pub with_fraction : List ℕ → ℕ → ℕ
with_fraction bs n = n + fraction_span (drop n bs)

-- a length with that of the exponent that follows
abbrev pub with_exponent : List ℕ → ℕ → ℕ
with_exponent bs n = n + exponent_span (drop n bs)

-- the length of a number, if one begins here
unfoldable pub number_span : List ℕ → Option ℕ
number_span bs = option_map (λ n. with_exponent bs (with_fraction bs n)) (signed_span bs)

-- how many digits keep the value small enough, after those that spell v
abbrev pub name_run : ℕ → List ℕ → ℕ
name_run v [] = 0
name_run v (b ∷ bs) = if is_digit b && nat_le (v * 10 + (b - 48)) GREATEST_NAME then name_run
    (v * 10 + (b - 48)) bs + 1 else 0

-- two apostrophes may close after the first, where nothing closes later
abbrev pub or_first : Option ℕ → Option ℕ
or_first None = Some 1
or_first (Some n) = Some (n + 2)

-- after the opening apostrophe
abbrev pub text_span : List ℕ → Option ℕ
text_span [] = None
text_span (b ∷ []) = if b == 39 then Some 1 else None
text_span (b ∷ c ∷ bs) = if b == 39 then
    (if c == 39 then or_first (text_span bs) else Some 1) else option_map (λ n. n + 1) (text_span (c ∷ bs))

-- the length of an instance's number after its mark, if there is one
abbrev pub name_span : List ℕ → Option ℕ
name_span bs = if nat_lt 0 (name_run 0 bs) then Some (name_run 0 bs) else None

-- what is found later, else what was found before
abbrev pub later : Option ℕ → Option ℕ → Option ℕ
later None before = before
later (Some n) before = Some n

-- a comment begins here
abbrev pub opens : List ℕ → Bool
opens [] = false
opens (b ∷ []) = false
opens (b ∷ c ∷ bs) = (b == 47) && (c == 42)
