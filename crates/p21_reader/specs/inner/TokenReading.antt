use Rattle.std.specs.Prelude.{◌≡◌, ℕ, List, [], ◌∷◌, ◌++◌, length, Some, None, Result, Ok, Err, ◌⊎◌}
use Rattle.p21_lexer.specs.declared.token.Token.{Token}
use Rattle.p21_lexer.specs.declared.token.LexFault.TheVariants as lex
use Rattle.p21_lexer.specs.Cutting.{CutsFrom}
use Rattle.p21_values.specs.declared.fault.ReadFault.{ReadFault}
use Rattle.p21_values.specs.declared.fault.ReadFault.TheVariants as faults
use Rattle.p21_values.specs.declared.piece.Kind.{Kind}
use Rattle.p21_values.specs.declared.piece.Kind.TheVariants as kinds
use Rattle.p21_values.specs.declared.value.Value21.{Value21}
use Rattle.p21_values.specs.Grammar.{Class, Simple, Open, Close, Comma, Semi, Equals, Sign, T, Value}
use Rattle.p21_reader.specs.Machine.{run, next}
use Rattle.p21_values.specs.Lexemes.{Lexeme, Absence, Opening, Closing, Separator, Ending, Assigning, lexeme_of, class_of}
pub use Rattle.p21_values.specs.Lexemes.{Cuts, classes}
use Rattle.p21_values.specs.Printing.{print}

-- What the functions promise one another. Public contracts speak of Files alone.

-- These tokens stand there, and lead from what was wanted to what is wanted then, whatever is wanted after that.
pub record Goes (σ τ : List Sign) (bytes : List ℕ) (at end : ℕ) (ls : List Lexeme) : Type 0 where
  pub cuts : Cuts bytes at ls end
  pub leads : (α : List Sign) → run (σ ++ α) (classes ls) ≡ Some (τ ++ α)

-- the bytes end there, or a token stands there that this sign doesn't begin with
abbrev pub IsRefused : Sign → List ℕ → ℕ → ℕ → Type 0
IsRefused s bytes at p = (CutsFrom bytes at (Ok None) × (p ≡ length bytes))
    ⊎ ((t : Token) × CutsFrom bytes at (Ok (Some t)) × (p ≡ t.start)
    × (next s (class_of (lexeme_of bytes t)) ≡ None))

-- why reading doesn't go on at a place: no token begins there, or a sign refuses it, or memory runs out
abbrev pub IsStuck : Sign → List ℕ → ℕ → ReadFault → Type 0
IsStuck s bytes at (faults.BadToken p) = CutsFrom bytes at (Err (lex.BadToken p))
IsStuck s bytes at (faults.BadStatement p) = IsRefused s bytes at p
IsStuck s bytes at faults.Memory = Unit {0}

-- Some tokens lead on, and then what stands there can't begin what is wanted.
pub record Stops (σ : List Sign) (bytes : List ℕ) (at : ℕ) (fault : ReadFault) : Type 0 where
  pub before : List Lexeme
  pub place : ℕ
  pub sign : Sign
  pub later : List Sign
  pub goes : Goes σ (sign ∷ later) bytes at place before
  pub stuck : IsStuck sign bytes place fault

-- the same, where memory isn't wanting
abbrev pub Fails : List Sign → List ℕ → ℕ → ReadFault → Type 0
Fails σ bytes at (faults.BadToken p) = Stops σ bytes at (faults.BadToken p)
Fails σ bytes at (faults.BadStatement p) = Stops σ bytes at (faults.BadStatement p)
Fails σ bytes at faults.Memory = Unit {0}

-- the class of a kind of one byte
abbrev pub sign_class : Kind → Class
sign_class kinds.Open = Open
sign_class kinds.Close = Close
sign_class kinds.Comma = Comma
sign_class kinds.Semicolon = Semi
sign_class kinds.Equals = Equals
sign_class _ = Simple

-- what a kind of one byte says
abbrev pub sign_says : Kind → Lexeme
sign_says kinds.Open = Opening
sign_says kinds.Close = Closing
sign_says kinds.Comma = Separator
sign_says kinds.Semicolon = Ending
sign_says kinds.Equals = Assigning
sign_says _ = Absence

-- a token of one byte is read at a place: where it ends, or what fails
abbrev pub Expects : Kind → List ℕ → ℕ → Result ℕ ReadFault → Type 0
Expects kind bytes at (Ok end) = Goes (T (sign_class kind) ∷ []) [] bytes at end (sign_says kind ∷ [])
Expects kind bytes at (Err fault) = Fails (T (sign_class kind) ∷ []) bytes at fault

-- A value stands there whose first token is given.
pub record ReadsValue (depth : ℕ) (bytes : List ℕ) (t : Token) (end : ℕ) (v : Value21) : Type 0 where
  pub wanted : List Sign
  pub rest : List Lexeme
  pub begins : next (Value (Some depth)) (class_of (lexeme_of bytes t)) ≡ Some wanted
  pub goes : Goes wanted [] bytes t.end end rest
  pub spelled : print v ≡ lexeme_of bytes t ∷ rest

-- That token can't stand there, or what follows it can't go on.
abbrev pub StopsAfter : Sign → List ℕ → Token → ReadFault → Type 0
StopsAfter s bytes t fault = ((fault ≡ faults.BadStatement t.start)
    × (next s (class_of (lexeme_of bytes t)) ≡ None))
    ⊎ ((wanted : List Sign) × (next s (class_of (lexeme_of bytes t)) ≡ Some wanted)
    × Stops wanted bytes t.end fault)

-- reading fails after a token
abbrev pub FailsAfter : Sign → List ℕ → Token → ReadFault → Type 0
FailsAfter s bytes t (faults.BadToken p) = StopsAfter s bytes t (faults.BadToken p)
FailsAfter s bytes t (faults.BadStatement p) = StopsAfter s bytes t (faults.BadStatement p)
FailsAfter s bytes t faults.Memory = Unit {0}
