-- Texts as they are spelled between their apostrophes (ISO 10303-21, section 6.4.3, strings), with leniencies: bytes from 128 on may
-- stand for themselves, and what is no escape is itself.
use Rattle.std.specs.Prelude.{ℕ, zero, suc, ◌+◌, ◌*◌, ◌/◌, ◌%◌, ◌==◌, ◌&&◌, nat_le, nat_lt, not, Bool, if◌then◌else◌, List, [], ◌∷◌, ◌++◌, length, take, drop, filter, slice_index, encode_utf8}
use Rattle.std.specs.Char.{digit_value}
use Rattle.std.specs.Str.{is_utf8}
use lib.Utf8.{scalar}
use Rattle.p21_lexer.specs.Spelling.{run}

-- Two apostrophes in a row, paired from the left, stand for one; then control bytes go.

-- a text with one apostrophe for two
abbrev pub unpaired : List ℕ → List ℕ
unpaired [] = []
unpaired (b ∷ []) = b ∷ []
unpaired (b ∷ c ∷ bs) = if b == 39 && c == 39 then 39 ∷ unpaired bs else b ∷ unpaired (c ∷ bs)

-- a byte that isn't a control character
abbrev pub is_kept : ℕ → Bool
is_kept b = nat_le 32 b

-- a text with one apostrophe for two and without control characters
unfoldable pub cleaned : List ℕ → List ℕ
cleaned spelled = filter is_kept (unpaired spelled)

-- Hexadecimal digits, of either case.

-- a hexadecimal digit
abbrev pub is_hexadecimal : ℕ → Bool
is_hexadecimal b = nat_lt (digit_value b) 16

-- the value of a hexadecimal digit, and 0 of another byte
abbrev pub nibble : ℕ → ℕ
nibble b = if nat_lt (digit_value b) 16 then digit_value b else 0

-- the number that two, four and eight digits from a place on write
abbrev pub two : List ℕ → ℕ → ℕ
two bs at = nibble (slice_index bs at) * 16 + nibble (slice_index bs (at + 1))

-- the number of four hexadecimal digits at a place
abbrev pub four : List ℕ → ℕ → ℕ
four bs at = two bs at * 256 + two bs (at + 2)

-- the number of eight hexadecimal digits at a place
abbrev pub eight : List ℕ → ℕ → ℕ
eight bs at = four bs at * 65536 + four bs (at + 4)

-- the number of a group of that many digits, four or eight
unfoldable pub group : ℕ → List ℕ → ℕ → ℕ
group width bs at = if width == 4 then four bs at else eight bs at

-- What may stand at the front of cleaned bytes: the characters that it means, in UTF-8, and how many bytes it is. A place past the
-- end holds 0.

-- what an escape gives, and how many bytes it takes
pub record Row : Type 0 where
  pub gives : List ℕ
  pub size : ℕ

-- \X\hh
unfoldable pub is_code : List ℕ → Bool
is_code bs = slice_index bs 1 == 88 && slice_index bs 2 == 92 && is_hexadecimal (slice_index bs 3)
    && is_hexadecimal (slice_index bs 4)

-- so many hexadecimal digits, whole groups and at least one, and \X0\ after them
abbrev pub are_groups : ℕ → ℕ → List ℕ → Bool
are_groups width digits bs = nat_lt 0 digits && digits % width == 0
    && slice_index bs (digits + 4) == 92 && slice_index bs (digits + 5) == 88
    && slice_index bs (digits + 6) == 48 && slice_index bs (digits + 7) == 92

-- \X2\ or \X4\, groups of hexadecimal digits, \X0\
unfoldable pub is_wide : ℕ → ℕ → List ℕ → Bool
is_wide mark width bs = slice_index bs 1 == 88 && slice_index bs 2 == mark && slice_index bs 3 == 92
    && are_groups width (run is_hexadecimal (drop 4 bs)) bs

-- \S\c, c from 32 to 126
unfoldable pub is_shifted : List ℕ → Bool
is_shifted bs = slice_index bs 1 == 83 && slice_index bs 2 == 92 && nat_le 32 (slice_index bs 3)
    && nat_le (slice_index bs 3) 126

-- \P, a letter from A to I, \
unfoldable pub is_page : List ℕ → Bool
is_page bs = slice_index bs 1 == 80 && nat_le 65 (slice_index bs 2) && nat_le (slice_index bs 2) 73
    && slice_index bs 3 == 92

-- a code, or the replacement character where Unicode has no character of that code
unfoldable pub character : ℕ → ℕ
character code = if scalar code then code else 0xFFFD

-- a character for each of so many groups from a place on
abbrev pub groups : ℕ → ℕ → List ℕ → ℕ → List ℕ
groups zero width bs at = []
groups (suc n) width bs at = encode_utf8 (character (group width bs at)) ++ groups n width bs (at + width)

-- what characters of four or eight hexadecimal digits each give
unfoldable pub wide_row : ℕ → List ℕ → Row
wide_row width bs =
    let digits = run is_hexadecimal (drop 4 bs) in
    record { gives = groups (digits / width) width bs 4; size = digits + 8 }

-- the row of a backslash; where none fits, it is itself
unfoldable pub escape_row : List ℕ → Row
escape_row bs =
    if slice_index bs 1 == 92 then record { gives = 92 ∷ []; size = 2 }
    else (if is_code bs then record { gives = encode_utf8 (two bs 3); size = 5 }
    else (if is_wide 50 4 bs then wide_row 4 bs
    else (if is_wide 52 8 bs then wide_row 8 bs
    else (if is_shifted bs then record { gives = encode_utf8 (slice_index bs 3 + 128); size = 4 }
    else (if is_page bs then record { gives = []; size = 4 }
    else record { gives = 92 ∷ []; size = 1 })))))

-- how many bytes a UTF-8 sequence has that begins with this byte (RFC 3629)
abbrev pub sequence_len : ℕ → ℕ
sequence_len b = if nat_lt b 224 then 2 else (if nat_lt b 240 then 3 else 4)

-- the row of a byte that isn't ASCII: where UTF-8 begins a character there it is that one, else the byte is a character of ISO 8859-1
unfoldable pub high_row : List ℕ → Row
high_row bs = let n = sequence_len (slice_index bs 0) in
    if nat_le n (length bs) && is_utf8 (take n bs)
    then record { gives = take n bs; size = n }
    else record { gives = encode_utf8 (slice_index bs 0); size = 1 }

-- the row at the front of bytes
unfoldable pub row_of : List ℕ → Row
row_of bs =
    if slice_index bs 0 == 92 then escape_row bs
    else (if nat_lt (slice_index bs 0) 128
    then record { gives = slice_index bs 0 ∷ []; size = 1 } else high_row bs)

-- what at most n rows give, from the left
abbrev pub rows_within : ℕ → List ℕ → List ℕ
rows_within zero bs = []
rows_within (suc n) [] = []
rows_within (suc n) (b ∷ bs) = (row_of (b ∷ bs)).gives ++ rows_within n (drop (row_of (b ∷ bs)).size (b ∷ bs))

-- what all rows give
unfoldable pub rows : List ℕ → List ℕ
rows bs = rows_within (length bs) bs

-- the text that is spelled, in UTF-8
unfoldable pub text_of_spelling : List ℕ → List ℕ
text_of_spelling spelled = rows (cleaned spelled)

-- A byte from 32 to 127, neither apostrophe nor backslash, stands for itself.
abbrev pub is_plain : ℕ → Bool
is_plain b = nat_le 32 b && nat_lt b 128 && not (b == 39) && not (b == 92)

-- A byte from 32 on that is no apostrophe stays when texts are cleaned.
abbrev pub is_clean : ℕ → Bool
is_clean b = nat_le 32 b && not (b == 39)
