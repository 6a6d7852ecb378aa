use Rattle.std.specs.Prelude.{◌≡◌, ℕ, List, [], ◌∷◌, ◌++◌, None, map, filter, codes}
use Rattle.std.specs.Char.{to_ascii_uppercase}
use Rattle.std.specs.Str.{bytes_eq}
use Rattle.p21_values.specs.Grammar.{Iso, Header, Data, EndSec, Semi, Word, Inside, Derives}
use Rattle.p21_values.specs.Lexemes.{Lexeme, Opening, Closing, Ending, WordsOf, KeywordOf, classes}
use Rattle.bim_text.specs.TextSpellings.{text_of_spelling}

-- The header of a file: its statements, and the schema that they name (ISO 10303-21, section 8).

-- A header statement: its keyword, and the tokens after its opening parenthesis, up to and with the closing one.
pub record Statement : Type 0 where
  pub keyword : List ℕ
  pub values : List Lexeme

-- these tokens are the statement, up to and with its semicolon
abbrev pub SpellsStatement : Statement → List Lexeme → Type 0
SpellsStatement s ls = (ls ≡ KeywordOf s.keyword ∷ Opening ∷ (s.values ++ Ending ∷ []))
    × Derives (Inside None ∷ []) (classes s.values)

-- these tokens are the statements, one after another
abbrev pub SpellsStatements : List Statement → List Lexeme → Type 0
SpellsStatements [] ls = ls ≡ []
SpellsStatements (s ∷ more) ls =
    (front rest : List Lexeme) × SpellsStatement s front × (ls ≡ front ++ rest) × SpellsStatements more rest

-- These tokens are a header with these statements, from the first token of the file up to and with the semicolon after DATA.
pub record SpellsHeading (statements : List Statement) (ls : List Lexeme) : Type 0 where
  pub opening : List Lexeme
  pub middle : List Lexeme
  pub closing : List Lexeme
  pub whole : ls ≡ opening ++ (middle ++ closing)
  pub is_opening : classes opening ≡ Word Iso ∷ Semi ∷ Word Header ∷ Semi ∷ []
  pub spelled : SpellsStatements statements middle
  pub is_closing : classes closing ≡ Word EndSec ∷ Semi ∷ Word Data ∷ Semi ∷ []

-- what the statements FILE_SCHEMA hold
abbrev pub schemas : List Statement → List (List Lexeme)
schemas statements = map (λ s. s.values) (filter (λ s. bytes_eq s.keyword (codes "FILE_SCHEMA")) statements)

-- a text, as it stands between its apostrophes, whose value is IFC4 in letters of either case
abbrev pub IsIfc4 : List ℕ → Type 0
IsIfc4 spelled = map to_ascii_uppercase (text_of_spelling spelled) ≡ codes "IFC4"

-- FILE_SCHEMA stands exactly once, with one value, a list of one text, which is IFC4
abbrev pub NamesIfc4 : List Statement → Type 0
NamesIfc4 statements = (spelled : List ℕ)
    × (schemas statements ≡ (Opening ∷ WordsOf spelled ∷ Closing ∷ Closing ∷ []) ∷ []) × IsIfc4 spelled
