-- Numbers as they are spelled (ISO 10303-21, section 6, integers and reals): an optional sign, digits, optionally a point and digits,
-- optionally an exponent. Digits may lack after the point, the point may lack before an exponent, and its E has either case.
use Rattle.std.specs.Prelude.{◌≡◌, ℕ, ◌+◌, ◌-◌, ◌<◌, ◌≤◌, ◌==◌, Bool, true, false, if◌then◌else◌, ℤ, pos, ◌-ℤ◌, ◌≤ℤ◌, neg_ℤ, List, [], ◌∷◌, ◌++◌, length, reverse, Option, Some, None, ◌⊎◌}
use Rattle.std.specs.List.{list_all}
use Rattle.p21_lexer.specs.Spelling.{is_digit, value_after}
use Rattle.bim_model.specs.declared.limits.TheConstants.{MOST_UPLOAD}
use Rattle.bim_text.specs.declared.limits.TheConstants.{MOST_DIGITS, MOST_EXPONENT}
use Rattle.bim_text.specs.ScaledNumbers.{Scaled, signed}

-- A spelling by its parts.

-- how a number's sign is spelled
pub data Sign : Type 0 where
  Unsigned Plus Minus : Sign

-- the exponent of a number as it is spelled: its mark, its sign and its digits
pub record Exponent : Type 0 where
  pub mark : ℕ
  pub sign : Sign
  pub digits : List ℕ

-- a number as it is spelled: sign, digits, fraction and exponent
pub record Spelling : Type 0 where
  pub sign : Sign
  pub whole : List ℕ
  pub fraction : Option (List ℕ)
  pub exponent : Option Exponent

-- The bytes of a spelling.

-- the bytes of a sign
abbrev pub sign_bytes : Sign → List ℕ
sign_bytes Unsigned = []
sign_bytes Plus = 43 ∷ []
sign_bytes Minus = 45 ∷ []

-- the bytes of a fraction with its point
abbrev pub fraction_bytes : Option (List ℕ) → List ℕ
fraction_bytes None = []
fraction_bytes (Some digits) = 46 ∷ digits

-- the bytes of an exponent
abbrev pub exponent_bytes : Option Exponent → List ℕ
exponent_bytes None = []
exponent_bytes (Some e) = e.mark ∷ (sign_bytes e.sign ++ e.digits)

-- the bytes of a number
abbrev pub bytes_of : Spelling → List ℕ
bytes_of s = sign_bytes s.sign ++ (s.whole ++ (fraction_bytes s.fraction ++ exponent_bytes s.exponent))

-- Which spellings are right: those of digits, of which there is one before the point and one in an exponent.

-- each byte is a digit
abbrev pub AreDigits : List ℕ → Type 0
AreDigits bs = list_all is_digit bs ≡ true

-- the digits of a fraction, or none
abbrev pub fraction_digits : Option (List ℕ) → List ℕ
fraction_digits None = []
fraction_digits (Some digits) = digits

-- an E or an e, and one or more digits
abbrev pub IsExponent : Option Exponent → Type 0
IsExponent None = Unit {0}
IsExponent (Some e) = ((e.mark ≡ 69) ⊎ (e.mark ≡ 101)) × AreDigits e.digits × (0 < length e.digits)

-- the bytes are a number of this spelling
pub record IsNumber (s : Spelling) (text : List ℕ) : Type 0 where
  pub whole : text ≡ bytes_of s
  pub digits : AreDigits s.whole
  pub some : 0 < length s.whole
  pub fraction : AreDigits (fraction_digits s.fraction)
  pub exponent : IsExponent s.exponent

-- What a spelling writes.

-- the sign is a minus
abbrev pub is_minus : Sign → Bool
is_minus Minus = true
is_minus Plus = false
is_minus Unsigned = false

-- the power of ten that an exponent says
abbrev pub exponent_of : Option Exponent → ℤ
exponent_of None = pos 0
exponent_of (Some e) = signed (is_minus e.sign) (value_after 0 e.digits)

-- the digits before and after the point
abbrev pub digits_of : Spelling → List ℕ
digits_of s = s.whole ++ fraction_digits s.fraction

-- all digits as one whole number, times ten to the exponent less the number of digits after the point
abbrev pub written : Spelling → Scaled
written s = record {
  number = signed (is_minus s.sign) (value_after 0 (digits_of s));
  power = exponent_of s.exponent -ℤ pos (length (fraction_digits s.fraction));
}

-- the digits from the first that isn't 0 on
abbrev pub from_first : List ℕ → List ℕ
from_first [] = []
from_first (b ∷ bs) = if b == 48 then from_first bs else b ∷ bs

-- how many digits are left without the zeros in front and behind
abbrev pub significant : List ℕ → ℕ
significant bs = length (from_first (reverse (from_first bs)))

-- the bytes are a number of this spelling that is read: there aren't too many bytes nor digits that count, and the exponent isn't too far
-- from zero
pub record IsRead (s : Spelling) (text : List ℕ) : Type 0 where
  pub number : IsNumber s text
  pub short : length text ≤ MOST_UPLOAD
  pub few : significant (digits_of s) ≤ MOST_DIGITS
  pub low : neg_ℤ (pos MOST_EXPONENT) ≤ℤ exponent_of s.exponent
  pub high : exponent_of s.exponent ≤ℤ pos MOST_EXPONENT
