-- What the grammars of filters and orders see of a token: its kind, and what it says.
use Rattle.std.specs.Prelude.{ℕ, ◌+◌, ◌-◌, false, List, map}
use Rattle.odata_filter.specs.declared.filter_tokens.TokenKind.{TokenKind}
use Rattle.odata_filter.specs.declared.filter_tokens.TokenKind.TheVariants as kinds
use Rattle.odata_filter.specs.declared.filter_tokens.Token.{Token}
use Rattle.odata_filter.specs.FilterTokens.{tokens_of, part_of}
use Rattle.odata_filter.specs.FilterLiterals.{unquoted}

-- a word has its bytes, and a text what it stands for
pub data Lexeme : Type 0 where
  Word : List ℕ → Lexeme
  Quoted : List ℕ → Lexeme
  Open Close Comma Stray : Lexeme

-- the bytes of a token of a text
abbrev pub word_of : List ℕ → Token → List ℕ
word_of text token = part_of text token.at token.end

-- the text that a token in apostrophes stands for
abbrev pub quoted_of : List ℕ → Token → List ℕ
quoted_of text token = unquoted false (part_of text (token.at + 1) (token.end - 1))

-- what a token of that kind says
abbrev pub lexeme_at : List ℕ → Token → TokenKind → Lexeme
lexeme_at text token kinds.Word = Word (word_of text token)
lexeme_at text token kinds.Quoted = Quoted (quoted_of text token)
lexeme_at text token kinds.Open = Open
lexeme_at text token kinds.Close = Close
lexeme_at text token kinds.Comma = Comma
lexeme_at text token kinds.Stray = Stray

-- what a token of a text says
abbrev pub lexeme_of : List ℕ → Token → Lexeme
lexeme_of text token = lexeme_at text token token.kind

-- what tokens of a text say
abbrev pub lexemes : List ℕ → List Token → List Lexeme
lexemes text tokens = map (lexeme_of text) tokens

-- what the tokens of a text say
abbrev pub lexemes_of : List ℕ → List Lexeme
lexemes_of text = lexemes text (tokens_of text)
