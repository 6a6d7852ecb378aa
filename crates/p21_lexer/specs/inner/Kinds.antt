use Rattle.std.specs.Prelude.{ℕ, ◌+◌, List, drop, ◌==◌, ◌||◌, if◌then◌else◌, Option, Some, None, option_map}
use Rattle.p21_lexer.specs.declared.token.TokenKind.{TokenKind}
use Rattle.p21_lexer.specs.declared.token.TokenKind.TheVariants as kinds
use Rattle.p21_lexer.specs.Spelling.{is_single, is_digit, is_sign, is_letter}
use Rattle.p21_lexer.specs.inner.TokenSpans.{word_span, name_span, number_span, text_span, enumeration_span, bits_span}

-- Which kind a first byte tells, and how far it reaches: what the code computes. No public contract cites it.

-- the kind whose spellings begin with this byte
abbrev pub kind_of : ℕ → Option TokenKind
kind_of b =
    if is_single b then Some kinds.Single
    else if is_digit b || is_sign b then Some kinds.Number
    else if b == 35 then Some kinds.Name
    else if is_letter b || b == 33 then Some kinds.Word
    else if b == 39 then Some kinds.Words
    else if b == 46 then Some kinds.Enumeration
    else if b == 34 then Some kinds.Bits
    else None

-- one place further, where there is a place
abbrev pub behind : Option ℕ → Option ℕ
behind o = option_map (λ n. n + 1) o

-- the longest front that spells this kind, where the first byte does
unfoldable pub span : TokenKind → List ℕ → Option ℕ
span kinds.Single bs = Some 1
span kinds.Word bs = word_span bs
span kinds.Name bs = behind (name_span (drop 1 bs))
span kinds.Number bs = number_span bs
span kinds.Words bs = behind (text_span (drop 1 bs))
span kinds.Enumeration bs = behind (enumeration_span (drop 1 bs))
span kinds.Bits bs = behind (bits_span (drop 1 bs))
