-- Tokens within the bytes of a file, and what the grammar sees of them.
use Rattle.std.specs.Prelude.{◌≡◌, ℕ, ◌<◌, ◌≤◌, List, length, None, Ok, Err, slice_range}
use Rattle.p21_lexer.specs.declared.token.LexFault.TheVariants as lex
use Rattle.p21_lexer.specs.Cutting.{CutsFrom}
use Rattle.p21_lexer.specs.Spelling.{Spells}
use Rattle.p21_values.specs.declared.fault.ReadFault.{ReadFault}
use Rattle.p21_values.specs.declared.fault.ReadFault.TheVariants as faults
use Rattle.p21_values.specs.declared.piece.Kind.{Kind}
use Rattle.p21_values.specs.declared.piece.Kind.TheVariants as kinds
use Rattle.p21_values.specs.declared.piece.Piece.{Piece}
use Rattle.p21_values.specs.Grammar.{Class, Simple, Name, Open, Close, Comma, Semi, Equals, Word}
use Rattle.p21_values.specs.Lexemes.{lexeme_of, class_of}
use Rattle.bim_model.specs.declared.upload.BuildError.{BuildError}
use Rattle.bim_model.specs.declared.upload.BuildError.TheVariants as errors
use Rattle.bim_model.specs.declared.upload.UploadFault.TheVariants as uploads

-- no token is cut there
abbrev pub NoToken : List ℕ → ℕ → ReadFault → Type 0
NoToken bytes at (faults.BadToken p) = CutsFrom bytes at (Err (lex.BadToken p))
NoToken bytes at (faults.BadStatement p) = CutsFrom bytes at (Ok None) × (p ≡ length bytes)
NoToken bytes at faults.Memory = ⊥

-- the kind of a class
abbrev pub kind_of : Class → Kind
kind_of Simple = kinds.Simple
kind_of Name = kinds.Name
kind_of (Word m) = kinds.Word
kind_of Open = kinds.Open
kind_of Close = kinds.Close
kind_of Comma = kinds.Comma
kind_of Semi = kinds.Semicolon
kind_of Equals = kinds.Equals

-- a token within the bytes, and what the grammar sees of it
pub record IsPiece (bytes : List ℕ) (piece : Piece) : Type 0 where
  pub some : piece.token.start < piece.token.end
  pub within : piece.token.end ≤ length bytes
  pub spelled : ∥ Spells piece.token.kind (slice_range bytes piece.token.start piece.token.end) ∥₁
  pub seen : piece.kind ≡ kind_of (class_of (lexeme_of bytes piece.token))

-- one of the five signs
abbrev pub IsSign : Kind → Type 0
IsSign kinds.Simple = ⊥
IsSign kinds.Name = ⊥
IsSign kinds.Word = ⊥
IsSign _ = Unit {0}

-- what a reader's fault says of an upload
abbrev pub error_of : ReadFault → BuildError
error_of (faults.BadToken p) = errors.Fault (uploads.BadToken p)
error_of (faults.BadStatement p) = errors.Fault (uploads.BadStatement p)
error_of faults.Memory = errors.Memory
