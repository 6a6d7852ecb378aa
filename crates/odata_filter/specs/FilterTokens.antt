-- The tokens of the text of a filter or an order: a text in apostrophes, `(`, `)`, `,`, and the longest run of
-- letters, digits and `_+-.:`. Blanks may stand around each.
use Rattle.std.specs.Prelude.{ℕ, zero, suc, ◌+◌, ◌-◌, ◌==◌, Bool, false, not, ◌||◌, cond, List, [], ◌∷◌, length, take, drop, Option, Some, None}
use Rattle.std.specs.List.{take_while}
use Rattle.std.specs.Char.{is_ascii_digit, is_ascii_lowercase, is_ascii_uppercase}
use Rattle.odata_filter.specs.declared.filter_tokens.TokenKind.{TokenKind}
use Rattle.odata_filter.specs.declared.filter_tokens.TokenKind.TheVariants.{Quoted, Open, Close, Comma, Word, Stray}
use Rattle.odata_filter.specs.declared.filter_tokens.Token.{Token}

-- a byte of a word: a digit, a letter or one of `_+-.:`
abbrev pub is_word_byte : ℕ → Bool
is_word_byte b =
    is_ascii_digit b || is_ascii_uppercase b || is_ascii_lowercase b
    || b == 95 || b == 43 || b == 45 || b == 46 || b == 58

-- the place behind the apostrophe that ends a text, of which these bytes stand from a place on: an apostrophe ends
-- it unless a second one follows. `after` says that one was read just before, which may be the last.
abbrev pub text_end : Bool → ℕ → List ℕ → Option ℕ
text_end after at [] = cond after (Some at) None
text_end after at (b ∷ bytes) =
    cond (b == 39) (text_end (not after) (at + 1) bytes)
    (cond after (Some at) (text_end false (at + 1) bytes))

-- a text that ends there; without an end its apostrophe is a byte without a token
abbrev pub quoted_token : ℕ → Option ℕ → Token
quoted_token at None = record { kind = Stray; at = at; end = at + 1 }
quoted_token at (Some end) = record { kind = Quoted; at = at; end = end }

-- a token of one byte
abbrev pub byte_token : TokenKind → ℕ → Token
byte_token kind at = record { kind = kind; at = at; end = at + 1 }

-- the token that begins with a byte, which these bytes follow, at a place; a byte without a token is one alone
abbrev pub token_at : ℕ → ℕ → List ℕ → Token
token_at at b bytes =
    cond (b == 39) (quoted_token at (text_end false (at + 1) bytes))
    (cond (b == 40) (byte_token Open at)
    (cond (b == 41) (byte_token Close at)
    (cond (b == 44) (byte_token Comma at)
    (cond (is_word_byte b)
    (record { kind = Word; at = at; end = at + 1 + length (take_while is_word_byte bytes) })
    (byte_token Stray at)))))

-- the tokens of the bytes from a place on, of which the first so many belong to the token before
unfoldable pub tokens_from : ℕ → ℕ → List ℕ → List Token
tokens_from at skip [] = []
tokens_from at (suc skip) (b ∷ bytes) = tokens_from (at + 1) skip bytes
tokens_from at zero (b ∷ bytes) =
    cond (b == 32) (tokens_from (at + 1) zero bytes)
    (token_at at b bytes ∷ tokens_from (at + 1) ((token_at at b bytes).end - (at + 1)) bytes)

-- the tokens of a text
abbrev pub tokens_of : List ℕ → List Token
tokens_of text = tokens_from 0 zero text

-- the bytes of a text from one place up to another
abbrev pub part_of : List ℕ → ℕ → ℕ → List ℕ
part_of text from to = take (to - from) (drop from text)
