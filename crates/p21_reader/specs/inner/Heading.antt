use Rattle.std.specs.Prelude.{◌≡◌, ℕ, ◌<◌, ◌≤◌, List, [], ◌∷◌, ◌++◌, length, Some, None, Result, Ok, Err, ◌⊎◌, IsTrue, ◌↔◌}
use Rattle.p21_lexer.specs.declared.token.Token.{Token}
use Rattle.p21_values.specs.declared.fault.ReadFault.{ReadFault}
use Rattle.p21_values.specs.declared.fault.ReadFault.TheVariants as faults
use Rattle.p21_reader.specs.declared.word.Mark.{Mark}
use Rattle.p21_reader.specs.declared.word.Mark.TheVariants as marks
use Rattle.p21_reader.specs.declared.word.Seen.{Seen}
use Rattle.p21_reader.specs.declared.word.Seen.TheVariants as seen
use Rattle.p21_reader.specs.declared.nested.Want.{Want}
use Rattle.p21_reader.specs.declared.nested.Want.TheVariants as wants
use Rattle.p21_reader.specs.declared.schema.Schema.{Schema}
use Rattle.p21_reader.specs.declared.schema.Schema.TheVariants as said
use Rattle.p21_reader.specs.declared.header.Part.{Part}
use Rattle.p21_reader.specs.declared.header.Part.TheVariants as parts
use Rattle.p21_reader.specs.declared.header.Head.{Head}
use Rattle.p21_values.specs.declared.piece.Kind.TheVariants as kinds
use Rattle.p21_values.specs.Grammar as grammar
use Rattle.p21_values.specs.Grammar.{Class, Sign, T, Derives}
use Rattle.p21_reader.specs.Machine.{next}
use Rattle.p21_values.specs.Lexemes.{Lexeme, Opening, Closing, WordsOf, KeywordOf, lexeme_of, class_of, classes, Cuts}
use Rattle.p21_reader.specs.Schema.{Statement, SpellsStatement, SpellsStatements, NamesIfc4, IsIfc4, schemas}
use Rattle.p21_reader.specs.inner.TokenReading.{Goes, Fails}
use Rattle.p21_values.specs.TokenPieces.{IsPiece}

-- What the code's words for marks, tokens and what is wanted stand for.

-- what a word's mark says to the grammar
abbrev pub mark_seen : Mark → grammar.Mark
mark_seen marks.Iso = grammar.Iso
mark_seen marks.Header = grammar.Header
mark_seen marks.Data = grammar.Data
mark_seen marks.EndSec = grammar.EndSec
mark_seen marks.EndIso = grammar.EndIso
mark_seen marks.Other = grammar.Other

-- the class of what was seen
abbrev pub class_seen : Seen → Class
class_seen seen.Simple = grammar.Simple
class_seen seen.Name = grammar.Name
class_seen (seen.Word m) = grammar.Word (mark_seen m)
class_seen seen.Open = grammar.Open
class_seen seen.Close = grammar.Close
class_seen seen.Comma = grammar.Comma
class_seen seen.Semicolon = grammar.Semi
class_seen seen.Equals = grammar.Equals

-- the sign of the grammar for what is wanted
abbrev pub sign_of : Want → Sign
sign_of wants.Open = grammar.T grammar.Open
sign_of wants.Close = grammar.T grammar.Close
sign_of wants.Value = grammar.Value None
sign_of wants.Inside = grammar.Inside None
sign_of wants.After = grammar.After None

-- what is wanted lies with the last first
abbrev pub signs_of : List Want → List Sign
signs_of [] = []
signs_of (w ∷ ws) = signs_of ws ++ sign_of w ∷ []

-- a token that was wanted, and what is wanted then
abbrev pub Follows : Sign → Class → List Sign → List Sign → Type 0
Follows s c old new = (σ : List Sign) × (next s c ≡ Some σ) × (new ≡ σ ++ old)

-- memory runs out, or the token can't follow
abbrev pub FollowsNot : Sign → List ℕ → Token → ReadFault → Type 0
FollowsNot s bytes t fault = (fault ≡ faults.Memory)
    ⊎ ((fault ≡ faults.BadStatement t.start) × (next s (class_of (lexeme_of bytes t)) ≡ None))

-- what ends a header
abbrev pub ending : List Class
ending = grammar.Word grammar.EndSec ∷ grammar.Semi ∷ grammar.Word grammar.Data ∷ grammar.Semi ∷ []

-- What stands at a place after an opening parenthesis: one value, a list of one text, and the closing parenthesis.
abbrev pub OnlyText : List ℕ → ℕ → List ℕ → Type 0
OnlyText bytes at spelled = (end : ℕ) × Cuts bytes at (Opening ∷ WordsOf spelled ∷ Closing ∷ Closing ∷ []) end

-- one text alone follows, and it names IFC4
abbrev pub OnlyIfc4 : List ℕ → ℕ → Type 0
OnlyIfc4 bytes at = (spelled : List ℕ) × OnlyText bytes at spelled × IsIfc4 spelled

-- a statement stands there: its keyword is this token, and its values begin at that place
abbrev pub IsStatementAt : List ℕ → Token → ℕ → Statement → Type 0
IsStatementAt bytes t inside s =
    (lexeme_of bytes t ≡ KeywordOf s.keyword) × Derives (grammar.Inside None ∷ []) (classes s.values)
    × (close : ℕ) × Cuts bytes inside s.values close

-- what the statements so far say of the schema
abbrev pub SaysSchema : Schema → List Statement → Type 0
SaysSchema said.Unnamed before = schemas before ≡ []
SaysSchema said.Ifc4 before = NamesIfc4 before
SaysSchema said.Wrong before = (more : List Statement) → NamesIfc4 (before ++ more) → ⊥

-- the beginning of the data is read at a place: where it ends, or what fails
abbrev pub ReadsData : List ℕ → ℕ → Result ℕ ReadFault → Type 0
ReadsData bytes at (Ok end) = (ls : List Lexeme)
    × (classes ls ≡ grammar.Word grammar.Data ∷ grammar.Semi ∷ [])
    × Goes (T (grammar.Word grammar.Data) ∷ T grammar.Semi ∷ []) [] bytes at end ls
ReadsData bytes at (Err fault) = Fails (T (grammar.Word grammar.Data) ∷ T grammar.Semi ∷ []) bytes at fault

-- one statement, or the end of the header
abbrev pub ReadsPart : List ℕ → ℕ → Result Part ReadFault → Type 0
ReadsPart bytes at (Ok (parts.Statement word inside end)) =
    IsPiece bytes word × (word.kind ≡ kinds.Word) × (inside ≤ length bytes) × (end ≤ length bytes)
    × (at < end)
    × (s : Statement) × IsStatementAt bytes word.token inside s × (ls : List Lexeme) × SpellsStatement s ls
    × Goes (grammar.Statements ∷ []) (grammar.Statements ∷ []) bytes at end ls
ReadsPart bytes at (Ok (parts.Data end)) =
    (end ≤ length bytes) × (ls : List Lexeme) × (classes ls ≡ ending)
    × Goes (grammar.Statements ∷ []) [] bytes at end ls
ReadsPart bytes at (Err fault) = Fails (grammar.Statements ∷ []) bytes at fault

-- the statements and the end of the header
abbrev pub ReadsStatements : List ℕ → ℕ → Result Head ReadFault → Type 0
ReadsStatements bytes at (Ok head) =
    (statements : List Statement) × (middle : List Lexeme) × (closing : List Lexeme)
    × SpellsStatements statements middle × (classes closing ≡ ending)
    × Goes (grammar.Statements ∷ []) [] bytes at head.end (middle ++ closing)
    × (IsTrue head.is_ifc4 ↔ NamesIfc4 statements)
ReadsStatements bytes at (Err fault) = Fails (grammar.Statements ∷ []) bytes at fault

-- the same after HEADER and its semicolon
abbrev pub ReadsHeader : List ℕ → ℕ → Result Head ReadFault → Type 0
ReadsHeader bytes at (Ok head) =
    (statements : List Statement) × (front : List Lexeme) × (middle : List Lexeme) × (closing : List Lexeme)
    × (classes front ≡ grammar.Word grammar.Header ∷ grammar.Semi ∷ []) × SpellsStatements statements middle
    × (classes closing ≡ ending) × Goes
    (T (grammar.Word grammar.Header) ∷ T grammar.Semi ∷ grammar.Statements ∷ []) [] bytes at head.end
    (front ++ (middle ++ closing)) × (IsTrue head.is_ifc4 ↔ NamesIfc4 statements)
ReadsHeader bytes at (Err fault) =
    Fails (T (grammar.Word grammar.Header) ∷ T grammar.Semi ∷ grammar.Statements ∷ []) bytes at fault
