use Rattle.std.specs.Prelude.{◌≡◌, ℕ, ◌+◌, ◌-◌, ◌*◌, ◌<◌, ◌≤◌, List, [], ◌∷◌, ◌++◌, length, Bool, true, ◌&&◌, ◌||◌, ◌==◌, nat_le, not, if◌then◌else◌, ◌⊎◌}
use Rattle.std.specs.List.{list_all}
use Rattle.p21_lexer.specs.declared.limits.TheConstants.{GREATEST_NAME}
use Rattle.p21_lexer.specs.declared.token.TokenKind.{TokenKind}
use Rattle.p21_lexer.specs.declared.token.TokenKind.TheVariants as kinds

-- What tokens are spelled like (ISO 10303-21, section 6).

-- Classes of bytes.

-- a byte from the low one to the high one
abbrev pub between : ℕ → ℕ → ℕ → Bool
between low high b = nat_le low b && nat_le b high

-- a decimal digit
abbrev pub is_digit : ℕ → Bool
is_digit b = between 48 57 b

-- a letter or an underscore
abbrev pub is_letter : ℕ → Bool
is_letter b = between 65 90 b || between 97 122 b || b == 95

-- a letter or a digit
abbrev pub is_letter_or_digit : ℕ → Bool
is_letter_or_digit b = is_letter b || is_digit b

-- a byte that a word may have: a letter, a digit or a hyphen
abbrev pub is_word_byte : ℕ → Bool
is_word_byte b = is_letter_or_digit b || b == 45

-- a hexadecimal digit
abbrev pub is_hexadecimal : ℕ → Bool
is_hexadecimal b = between 65 70 b || between 97 102 b || is_digit b

-- a plus or a minus
abbrev pub is_sign : ℕ → Bool
is_sign b = b == 43 || b == 45

-- one of ( ) , ; = $ *
abbrev pub is_single : ℕ → Bool
is_single b = b == 40 || b == 41 || b == 44 || b == 59 || b == 61 || b == 36 || b == 42

-- how many bytes at the front are all such
abbrev pub run : (ℕ → Bool) → List ℕ → ℕ
run p [] = 0
run p (b ∷ bs) = if p b then run p bs + 1 else 0

-- Spellings of the seven kinds of tokens. Each is a relation on the token's bytes alone.

-- zero or more of these bytes
abbrev pub AreAll : (ℕ → Bool) → List ℕ → Type 0
AreAll p bs = list_all p bs ≡ true

-- one or more of these bytes
abbrev pub AreSome : (ℕ → Bool) → List ℕ → Type 0
AreSome p bs = AreAll p bs × (0 < length bs)

-- an exclamation mark, or nothing
abbrev pub IsOptionalBang : List ℕ → Type 0
IsOptionalBang bs = (bs ≡ []) ⊎ (bs ≡ 33 ∷ [])

-- optionally an exclamation mark, a letter or an underscore, then letters, digits, underscores and hyphens
pub record IsWord (bs : List ℕ) : Type 0 where
  pub bang : List ℕ
  pub first : ℕ
  pub others : List ℕ
  pub whole : bs ≡ bang ++ first ∷ others
  pub is_bang : IsOptionalBang bang
  pub is_first : is_letter first ≡ true
  pub are_others : AreAll is_word_byte others

-- the number that decimal digits spell, after those that spell n
abbrev pub value_after : ℕ → List ℕ → ℕ
value_after n [] = n
value_after n (b ∷ bs) = value_after (n * 10 + (b - 48)) bs

-- a number sign and digits, whose value is at most the greatest number of names
pub record IsName (bs : List ℕ) : Type 0 where
  pub digits : List ℕ
  pub whole : bs ≡ 35 ∷ digits
  pub are_digits : AreSome is_digit digits
  pub bound : value_after 0 digits ≤ GREATEST_NAME

-- a sign, or nothing
abbrev pub IsOptionalSign : List ℕ → Type 0
IsOptionalSign [] = Unit {0}
IsOptionalSign (b ∷ []) = is_sign b ≡ true
IsOptionalSign (b ∷ c ∷ bs) = ⊥

-- nothing, or a point and zero or more digits
abbrev pub IsFraction : List ℕ → Type 0
IsFraction [] = Unit {0}
IsFraction (b ∷ bs) = (b ≡ 46) × AreAll is_digit bs

-- the letter of an exponent, large or small
abbrev pub is_exponent_mark : ℕ → Bool
is_exponent_mark b = b == 69 || b == 101

-- an optional sign and digits
pub record IsSigned (bs : List ℕ) : Type 0 where
  pub sign : List ℕ
  pub digits : List ℕ
  pub whole : bs ≡ sign ++ digits
  pub is_sign : IsOptionalSign sign
  pub are_digits : AreSome is_digit digits

-- nothing, or E of either case, an optional sign and digits
abbrev pub IsExponent : List ℕ → Type 0
IsExponent [] = Unit {0}
IsExponent (b ∷ bs) = (is_exponent_mark b ≡ true) × IsSigned bs

-- an optional sign and digits, then optionally a point and digits, and optionally an exponent
pub record IsNumber (bs : List ℕ) : Type 0 where
  pub front : List ℕ
  pub fraction : List ℕ
  pub exponent : List ℕ
  pub whole : bs ≡ front ++ (fraction ++ exponent)
  pub is_front : IsSigned front
  pub is_fraction : IsFraction fraction
  pub is_exponent : IsExponent exponent

-- each apostrophe is doubled
abbrev pub is_doubled : List ℕ → Bool
is_doubled [] = true
is_doubled (b ∷ []) = not (b == 39)
is_doubled (b ∷ c ∷ bs) = if b == 39 then (c == 39) && is_doubled bs else is_doubled (c ∷ bs)

-- an apostrophe, bytes in which each apostrophe is doubled, an apostrophe
pub record IsText (bs : List ℕ) : Type 0 where
  pub inner : List ℕ
  pub whole : bs ≡ 39 ∷ (inner ++ 39 ∷ [])
  pub doubled : is_doubled inner ≡ true

-- a point, a letter or an underscore, letters, digits and underscores, a point
pub record IsEnumeration (bs : List ℕ) : Type 0 where
  pub first : ℕ
  pub others : List ℕ
  pub whole : bs ≡ 46 ∷ first ∷ (others ++ 46 ∷ [])
  pub is_first : is_letter first ≡ true
  pub are_others : AreAll is_letter_or_digit others

-- a quotation mark, hexadecimal digits, a quotation mark
pub record IsBits (bs : List ℕ) : Type 0 where
  pub digits : List ℕ
  pub whole : bs ≡ 34 ∷ (digits ++ 34 ∷ [])
  pub are_digits : AreSome is_hexadecimal digits

-- one byte that is a token by itself
pub record IsSingle (bs : List ℕ) : Type 0 where
  pub byte : ℕ
  pub whole : bs ≡ byte ∷ []
  pub single : is_single byte ≡ true

-- these bytes spell a token of this kind
abbrev pub Spells : TokenKind → List ℕ → Type 0
Spells kinds.Word bs = IsWord bs
Spells kinds.Name bs = IsName bs
Spells kinds.Number bs = IsNumber bs
Spells kinds.Words bs = IsText bs
Spells kinds.Enumeration bs = IsEnumeration bs
Spells kinds.Bits bs = IsBits bs
Spells kinds.Single bs = IsSingle bs
