-- The words on spelled numbers and texts that forms are made of.
use Rattle.std.specs.Prelude.{◌⊎◌, Bool, ℕ, List, codes, ℤ, pos, ◌<ℤ◌}
use Rattle.std.specs.Str.{bytes_eq}
use Rattle.bim_text.specs.declared.decimal.Decimal.{Decimal}
use Rattle.bim_text.specs.NumberSpellings.{Spelling, IsRead}
use Rattle.bim_text.specs.Decimals.{Reads, WritesWhole}
use Rattle.bim_text.specs.TextSpellings.{text_of_spelling}
use Rattle.bim_text.specs.Says.{is_guid}

-- the bytes are a number that is read
abbrev pub IsNumber : List ℕ → Type 0
IsNumber bs = (d : Decimal) × Reads bs d

-- no spelling of a number has these bytes
abbrev pub IsNoNumber : List ℕ → Type 0
IsNoNumber bs = (s : Spelling) → IsRead s bs → ⊥

-- the bytes are a number that is read, and its value is whole
abbrev pub IsWhole : List ℕ → Type 0
IsWhole bs = (n : ℤ) × WritesWhole bs n

-- They are none, or its value isn't whole: a decimal's digits don't end in 0, so its power of ten is negative.
abbrev pub IsNotWhole : List ℕ → Type 0
IsNotWhole bs = IsNoNumber bs ⊎ ((d : Decimal) × Reads bs d × (d.exp <ℤ pos 0))

-- a spelled text says `Body`
unfoldable pub says_body : List ℕ → Bool
says_body bs = bytes_eq (text_of_spelling bs) (codes "Body")

-- a spelled text says a globally unique identifier
unfoldable pub says_guid : List ℕ → Bool
says_guid bs = is_guid (text_of_spelling bs)
