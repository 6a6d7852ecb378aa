-- Decimals and the spellings that they stand for.
use Rattle.std.specs.Prelude.{ℕ, ℤ, List}
use Rattle.bim_text.specs.declared.decimal.Decimal.{Decimal}
use Rattle.bim_text.specs.ScaledNumbers.{Scaled, whole, signed, SameValue}
use Rattle.bim_text.specs.NumberSpellings.{Spelling, IsRead, written}

-- the value of a decimal: its digits, with its sign, times ten to its exponent
abbrev pub value_of : Decimal → Scaled
value_of d = record { number = signed d.negative d.digits; power = d.exp }

-- the bytes are a number that is read, and this is its value
pub record Writes (text : List ℕ) (x : Scaled) : Type 0 where
  pub spelling : Spelling
  pub read : IsRead spelling text
  pub value : SameValue x (written spelling)

-- .. the decimal is
abbrev pub Reads : List ℕ → Decimal → Type 0
Reads text d = Writes text (value_of d)

-- .. the whole number is
abbrev pub WritesWhole : List ℕ → ℤ → Type 0
WritesWhole text n = Writes text (whole n)
