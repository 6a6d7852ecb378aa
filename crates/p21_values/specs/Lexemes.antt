use Rattle.std.specs.Prelude.{ℕ, ◌-◌, List, [], ◌∷◌, length, drop, map, ◌==◌, if◌then◌else◌, codes, slice_range, Some, Ok, ◌≡◌}
use Rattle.std.specs.Str.{bytes_eq}
use Rattle.std.specs.Char.{to_ascii_uppercase}
use Rattle.p21_lexer.specs.declared.token.TokenKind.{TokenKind}
use Rattle.p21_lexer.specs.declared.token.TokenKind.TheVariants as kinds
use Rattle.p21_lexer.specs.declared.token.Token.{Token}
use Rattle.p21_lexer.specs.Spelling.{value_after}
use Rattle.p21_lexer.specs.Cutting.{CutsFrom}
use Rattle.p21_values.specs.Grammar.{Mark, Iso, Header, Data, EndSec, EndIso, Other, Class, Simple, Name, Open, Close, Comma, Semi, Equals, Word}

-- What a token says: $, *, the five signs of the grammar, and the other kinds with what is between their marks. A keyword is in upper
-- case, a name is its number.
pub data Lexeme : Type 0 where
  Absence Derivation Opening Closing Separator Ending Assigning : Lexeme
  NumberOf WordsOf EnumerationOf BitsOf KeywordOf : List ℕ → Lexeme
  ReferenceTo : ℕ → Lexeme

-- what a token of one byte says
abbrev pub single_says : ℕ → Lexeme
single_says b =
    if b == 40 then Opening
    else if b == 41 then Closing
    else if b == 44 then Separator
    else if b == 59 then Ending
    else if b == 61 then Assigning
    else if b == 42 then Derivation
    else Absence

-- of a byte that stands alone
abbrev pub alone : List ℕ → Lexeme
alone [] = Absence
alone (b ∷ bs) = single_says b

-- without the first and the last byte
abbrev pub inner : List ℕ → List ℕ
inner bs = slice_range bs 1 (length bs - 1)

-- what the bytes of a token of some kind say
abbrev pub says : TokenKind → List ℕ → Lexeme
says kinds.Word bs = KeywordOf (map to_ascii_uppercase bs)
says kinds.Name bs = ReferenceTo (value_after 0 (drop 1 bs))
says kinds.Number bs = NumberOf bs
says kinds.Words bs = WordsOf (inner bs)
says kinds.Enumeration bs = EnumerationOf (inner bs)
says kinds.Bits bs = BitsOf (inner bs)
says kinds.Single bs = alone bs

-- what a token of these bytes says
abbrev pub lexeme_of : List ℕ → Token → Lexeme
lexeme_of bytes t = says t.kind (slice_range bytes t.start t.end)

-- which of the file's own words a word is
unfoldable pub mark_of : List ℕ → Mark
mark_of word =
    if bytes_eq word (codes "ISO-10303-21") then Iso
    else if bytes_eq word (codes "HEADER") then Header
    else if bytes_eq word (codes "DATA") then Data
    else if bytes_eq word (codes "ENDSEC") then EndSec
    else if bytes_eq word (codes "END-ISO-10303-21") then EndIso
    else Other

-- what the grammar sees of it
abbrev pub class_of : Lexeme → Class
class_of Opening = Open
class_of Closing = Close
class_of Separator = Comma
class_of Ending = Semi
class_of Assigning = Equals
class_of (ReferenceTo n) = Name
class_of (KeywordOf word) = Word (mark_of word)
class_of _ = Simple

-- tokens that say this are cut one after another, from this place on up to that one
abbrev pub Cuts : List ℕ → ℕ → List Lexeme → ℕ → Type 0
Cuts bytes at [] end = at ≡ end
Cuts bytes at (l ∷ ls) end = (t : Token) × CutsFrom bytes at (Ok (Some t)) × (lexeme_of bytes t ≡ l)
    × Cuts bytes t.end ls end

-- the classes of lexemes
abbrev pub classes : List Lexeme → List Class
classes ls = map class_of ls
