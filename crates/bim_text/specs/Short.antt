-- Short numbers where they stand among other bytes.
use Rattle.std.specs.Prelude.{◌≡◌, ℕ, ◌+◌, ◌^◌, ◌<◌, ◌≤◌, pos, ◌-ℤ◌, List, length, Bool, true, false, ◌⊎◌, slice_index, slice_range, Some, Ok}
use Rattle.p21_lexer.specs.declared.token.TokenKind.TheVariants as kinds
use Rattle.p21_lexer.specs.declared.token.Token.{Token}
use Rattle.p21_lexer.specs.Cutting.{CutsFrom}
use Rattle.bim_text.specs.declared.short.Short.{Short}
use Rattle.bim_text.specs.declared.short.ShortRow.{ShortRow}
use Rattle.bim_text.specs.ScaledNumbers.{Scaled, signed}
use Rattle.bim_text.specs.NumberSpellings.{Sign, Unsigned, Minus, Spelling, IsRead, written}

-- the value of a short number: its digits with its sign, the last of them after the point
abbrev pub short_value : Short → Scaled
short_value s = record { number = signed s.negative s.digits; power = pos 0 -ℤ pos s.places }

-- the bytes are a number that is read, spelled with these digits
pub record SpellsShort (text : List ℕ) (s : Short) : Type 0 where
  pub spelling : Spelling
  pub read : IsRead spelling text
  pub value : written spelling ≡ short_value s

-- how the sign is spelled
abbrev pub sign_of : Bool → Sign
sign_of true = Minus
sign_of false = Unsigned

-- that byte stands there
abbrev pub IsByteAt : List ℕ → ℕ → ℕ → Type 0
IsByteAt bytes at b = (at < length bytes) × (slice_index bytes at ≡ b)

-- a comma or a closing parenthesis stands there
abbrev pub EndsAt : List ℕ → ℕ → Type 0
EndsAt bytes at = IsByteAt bytes at 44 ⊎ IsByteAt bytes at 41

-- a token of that kind
abbrev pub number_token : ℕ → ℕ → Token
number_token from end = record { kind = kinds.Number; start = from; end = end }

-- the token that is cut next is a number that is read, spelled with these digits; a comma or a closing parenthesis stands behind it
pub record IsShortAt (bytes : List ℕ) (from : ℕ) (s : Short) : Type 0 where
  pub cuts : CutsFrom bytes from (Ok (Some (number_token from s.end)))
  pub spells : SpellsShort (slice_range bytes from s.end) s
  pub ends : EndsAt bytes s.end
  pub digits : s.digits < 10 ^ 15
  pub places : s.places ≤ 15

-- three short numbers between parentheses, with commas between
pub record IsRowAt (bytes : List ℕ) (from : ℕ) (r : ShortRow) : Type 0 where
  pub opening : IsByteAt bytes from 40
  pub x : IsShortAt bytes (from + 1) r.x
  pub first : IsByteAt bytes r.x.end 44
  pub y : IsShortAt bytes (r.x.end + 1) r.y
  pub second : IsByteAt bytes r.y.end 44
  pub z : IsShortAt bytes (r.y.end + 1) r.z
  pub closing : IsByteAt bytes r.z.end 41
  pub end : r.end ≡ r.z.end + 1
