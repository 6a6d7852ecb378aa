-- What the functions of the reader compute, from the left. No public contract cites it.
use Rattle.std.specs.Prelude.{ℕ, ◌+◌, ◌-◌, ◌*◌, ◌^◌, ◌≤◌, ◌==◌, nat_lt, if◌then◌else◌, List, [], ◌∷◌, length, drop, Option, Some, None, option_and_then}
use Rattle.bim_text.specs.declared.limits.TheConstants.{MOST_DIGITS}
use Rattle.bim_text.specs.declared.digits.Digits.{Digits}
use Rattle.bim_text.specs.declared.digits.Few.{Few}
use Rattle.bim_text.specs.NumberSpellings.{Sign, Unsigned, Plus, Minus, Exponent, Spelling, sign_bytes, fraction_bytes}
use Rattle.p21_lexer.specs.Spelling.{is_digit}

-- the digits at the front
abbrev pub front : List ℕ → List ℕ
front [] = []
front (b ∷ bs) = if is_digit b then b ∷ front bs else []

-- the sign at the front
abbrev pub sign_at : List ℕ → Sign
sign_at [] = Unsigned
sign_at (b ∷ bs) = if b == 43 then Plus else (if b == 45 then Minus else Unsigned)

-- the point at the front, with the digits after it
abbrev pub fraction_at : List ℕ → Option (List ℕ)
fraction_at [] = None
fraction_at (b ∷ bs) = if b == 46 then Some (front bs) else None

-- all bytes as an exponent
abbrev pub exponent_at : List ℕ → Option Exponent
exponent_at [] = None
exponent_at (b ∷ bs) = Some (record {
  mark = b;
  sign = sign_at bs;
  digits = drop (length (sign_bytes (sign_at bs))) bs;
})

-- what follows the sign
abbrev pub unsigned : List ℕ → List ℕ
unsigned bs = drop (length (sign_bytes (sign_at bs))) bs

-- what follows the digits
abbrev pub behind_front : List ℕ → List ℕ
behind_front bs = drop (length (front bs)) bs

-- what follows the point and its digits
abbrev pub behind_fraction : List ℕ → List ℕ
behind_fraction bs = drop (length (fraction_bytes (fraction_at bs))) bs

-- the bytes cut into the parts of a number
abbrev pub parts : List ℕ → Spelling
parts bs = record {
  sign = sign_at bs;
  whole = front (unsigned bs);
  fraction = fraction_at (behind_front (unsigned bs));
  exponent = exponent_at (behind_fraction (behind_front (unsigned bs)));
}

-- what is kept of few digits, as of any
abbrev pub wide : Few → Digits
wide few = record { all = few.all; significand = few.significand; zeros = few.zeros }

-- One more digit: a zero is counted and, where there is room, put after the others; another digit needs room.
abbrev pub kept_zero : Digits → Digits
kept_zero k = record {
  all = if nat_lt k.all (10 ^ (MOST_DIGITS - 1)) then k.all * 10 else k.all;
  significand = k.significand;
  zeros = k.zeros + 1;
}

-- the digits kept so far with one more that isn't zero
abbrev pub kept_digit : Digits → ℕ → Digits
kept_digit k b = record { all = k.all * 10 + (b - 48); significand = k.all * 10 + (b - 48); zeros = 0 }

-- the digits kept so far with one more, or none where they become too many
abbrev pub kept_step : Digits → ℕ → Option Digits
kept_step k b = if b == 48 then Some (kept_zero k)
    else (if nat_lt k.all (10 ^ (MOST_DIGITS - 1)) then Some (kept_digit k b) else None)

-- the digits kept so far with all of these
abbrev pub kept_after : Digits → List ℕ → Option Digits
kept_after k [] = Some k
kept_after k (b ∷ bs) = option_and_then (λ (next : Digits). kept_after next bs) (kept_step k b)

-- so many digits more leave a number below 10^15
unfoldable pub HasRoom : ℕ → ℕ → Type 0
HasRoom value more = (value + 1) * 10 ^ more ≤ 10 ^ 15
