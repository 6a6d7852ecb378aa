-- Tokens that stand right at a place, without a gap before them.
use Rattle.std.specs.Prelude.{◌≡◌, ℕ, ◌+◌, ◌≤◌, ◌⊎◌, List, length, slice_index, slice_range, Some, Ok}
use Rattle.p21_lexer.specs.declared.token.TokenKind.{TokenKind}
use Rattle.p21_lexer.specs.declared.token.TokenKind.TheVariants as kinds
use Rattle.p21_lexer.specs.declared.token.Token.{Token}
use Rattle.p21_lexer.specs.declared.there.NameThere.{NameThere}
use Rattle.p21_lexer.specs.Cutting.{CutsFrom}
use Rattle.p21_lexer.specs.Spelling.{value_after}

-- a token of that kind, from there to there
abbrev pub token_of : TokenKind → ℕ → ℕ → Token
token_of kind at end = record { kind = kind; start = at; end = end }

-- the token that is cut next begins right there, is of that kind, and ends there
abbrev pub StandsThere : List ℕ → ℕ → TokenKind → ℕ → Type 0
StandsThere bytes at kind end = CutsFrom bytes at (Ok (Some (token_of kind at end))) × (end ≤ length bytes)

-- a token of that kind with that first byte is a value by itself
abbrev pub IsOneValue : TokenKind → ℕ → Type 0
IsOneValue kinds.Word b = ⊥
IsOneValue kinds.Single b = (b ≡ 36) ⊎ (b ≡ 42)
IsOneValue _ b = Unit {0}

-- a value of one token stands right there, and ends there
abbrev pub IsValueThere : List ℕ → ℕ → ℕ → Type 0
IsValueThere bytes at end = (kind : TokenKind)
    × IsOneValue kind (slice_index bytes at) × StandsThere bytes at kind end

-- an instance name stands right there: its number, and where it ends
pub record IsNameThere (bytes : List ℕ) (at : ℕ) (name : NameThere) : Type 0 where
  pub there : StandsThere bytes at kinds.Name name.end
  pub number : value_after 0 (slice_range bytes (at + 1) name.end) ≡ name.id
