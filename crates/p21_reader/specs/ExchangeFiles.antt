use Rattle.std.specs.Prelude.{◌≡◌, ℕ, List, [], ◌∷◌, ◌++◌, Some, None, Result, Ok, Err, length, ◌⊎◌}
use Rattle.p21_lexer.specs.declared.token.Token.{Token}
use Rattle.p21_lexer.specs.declared.token.LexFault.TheVariants as lex
use Rattle.p21_lexer.specs.Cutting.{CutsFrom, start_of}
use Rattle.p21_values.specs.declared.fault.ReadFault.{ReadFault}
use Rattle.p21_values.specs.declared.fault.ReadFault.TheVariants as faults
use Rattle.p21_values.specs.declared.value.Instance.{Instance}
use Rattle.p21_values.specs.Grammar.{Mark, T, Word, EndSec, EndIso, Semi, Instances, IsFile, IsViable}
use Rattle.p21_values.specs.Lexemes.{Lexeme, lexeme_of, class_of}
use Rattle.p21_reader.specs.inner.TokenReading.{Cuts, classes, Goes, Fails, FailsAfter}
use Rattle.p21_reader.specs.Instances.{SpellsAll}
use Rattle.p21_reader.specs.Schema.{Statement, SpellsHeading}

-- Files, their instances, and the place where bytes can't go on to one.

-- These tokens are a file with these statements in its header and these instances in its DATA section, in this order.
pub record SpellsFile (statements : List Statement) (instances : List Instance)
    (ls : List Lexeme) : Type 0 where
  pub heading : List Lexeme
  pub data_section : List Lexeme
  pub closing : List Lexeme
  pub whole : ls ≡ heading ++ (data_section ++ closing)
  pub is_file : IsFile (classes ls)
  pub headed : SpellsHeading statements heading
  pub spelled : SpellsAll instances data_section
  pub is_closing : classes closing ≡ Word EndSec ∷ Semi ∷ Word EndIso ∷ Semi ∷ []

-- the tokens of these bytes, from the first on, are a file with these statements and instances; what follows them isn't looked at
pub record HoldsFile (bytes : List ℕ) (statements : List Statement) (instances : List Instance) : Type 0 where
  pub said : List Lexeme
  pub end : ℕ
  pub cuts : Cuts bytes (start_of bytes) said end
  pub spells : SpellsFile statements instances said

-- The tokens up to this place begin a file and are none.
pub record Reaches (bytes : List ℕ) (said : List Lexeme) (at : ℕ) : Type 0 where
  pub cuts : Cuts bytes (start_of bytes) said at
  pub viable : IsViable (classes said)
  pub none : IsFile (classes said) → ⊥

-- No token begins where the next one should.
abbrev pub NoneThere : List ℕ → ℕ → Type 0
NoneThere bytes p = (said : List Lexeme) × (at : ℕ) × Reaches bytes said at
    × CutsFrom bytes at (Err (lex.BadToken p))

-- The bytes end before the file does, or a token stands there with which the tokens so far begin no file.
abbrev pub WrongThere : List ℕ → ℕ → Type 0
WrongThere bytes p = (said : List Lexeme) × (at : ℕ) × Reaches bytes said at
    × ((CutsFrom bytes at (Ok None) × (p ≡ length bytes))
    ⊎ ((t : Token) × CutsFrom bytes at (Ok (Some t)) × (p ≡ t.start)
    × (IsViable (classes (said ++ lexeme_of bytes t ∷ [])) → ⊥)))

-- where and why these bytes can't go on to a file
abbrev pub FaultAt : List ℕ → ReadFault → Type 0
FaultAt bytes (faults.BadToken p) = NoneThere bytes p
FaultAt bytes (faults.BadStatement p) = WrongThere bytes p
FaultAt bytes faults.Memory = Unit {0}

-- What the functions answer.

-- what closes a file is read from its first token on: where it ends, or what fails
abbrev pub ReadsClosing : List ℕ → Token → Result ℕ ReadFault → Type 0
ReadsClosing bytes t (Ok end) =
    (rest : List Lexeme) × (classes (lexeme_of bytes t ∷ rest)
    ≡ Word EndSec ∷ Semi ∷ Word EndIso ∷ Semi ∷ [])
    × Goes (T Semi ∷ T (Word EndIso) ∷ T Semi ∷ []) [] bytes t.end end rest
ReadsClosing bytes t (Err fault) = FailsAfter Instances bytes t fault

-- a word of this mark is read at a place: where it ends, or what fails
abbrev pub ReadsWord : Mark → List ℕ → ℕ → Result ℕ ReadFault → Type 0
ReadsWord m bytes at (Ok end) =
    (l : Lexeme) × (class_of l ≡ Word m) × Goes (T (Word m) ∷ []) [] bytes at end (l ∷ [])
ReadsWord m bytes at (Err fault) = Fails (T (Word m) ∷ []) bytes at fault

-- instances, and what closes the file, are read at a place: where they end, or what fails
abbrev pub ReadsSection : List ℕ → ℕ → List Instance → Result ℕ ReadFault → Type 0
ReadsSection bytes at found (Ok end) =
    (ls closing : List Lexeme) × SpellsAll found ls
    × (classes closing ≡ Word EndSec ∷ Semi ∷ Word EndIso ∷ Semi ∷ [])
    × Goes (Instances ∷ []) [] bytes at end (ls ++ closing)
ReadsSection bytes at found (Err fault) = Fails (Instances ∷ []) bytes at fault
