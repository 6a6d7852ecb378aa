-- Values as they stand in the bytes of a file, without a tree of them in memory.
use Rattle.std.specs.Prelude.{◌≡◌, ℕ, ◌+◌, ◌-◌, ◌<◌, ◌≤◌, ◌==◌, ◌||◌, not, Bool, true, List, [], ◌∷◌, ◌++◌, map, slice_index_or}
use Rattle.std.specs.List.{AllZip}
use Rattle.p21_lexer.specs.declared.token.Token.{Token}
use Rattle.p21_values.specs.declared.value.Value21.{Value21}
use Rattle.p21_values.specs.declared.piece.Kind.{Kind}
use Rattle.p21_values.specs.declared.piece.Kind.TheVariants as kinds
use Rattle.p21_values.specs.Lexemes.{Lexeme, Closing, lexeme_of, class_of, Cuts}
use Rattle.p21_values.specs.TokenPieces.{kind_of}
use Rattle.p21_values.specs.Printing.{print, print_all, behind}

-- a value stands there: the tokens that spell it are cut from this place on
pub record Stands (bytes : List ℕ) (at : ℕ) (v : Value21) : Type 0 where
  pub end : ℕ
  pub cuts : Cuts bytes at (print v) end

-- a token is the first of those that spell a value, and the others are cut after it
pub record Begins (bytes : List ℕ) (t : Token) (v : Value21) : Type 0 where
  pub rest : List Lexeme
  pub end : ℕ
  pub spelled : print v ≡ lexeme_of bytes t ∷ rest
  pub cuts : Cuts bytes t.end rest end

-- values stand from there on, between commas, up to a closing parenthesis
abbrev pub StandInside : List ℕ → ℕ → List Value21 → Type 0
StandInside bytes at vs = (end : ℕ) × Cuts bytes at (print_all vs ++ Closing ∷ []) end

-- values stand at these starts, one after another up to a closing parenthesis
abbrev pub StandAt : List ℕ → List ℕ → List Value21 → Type 0
StandAt bytes starts vs = AllZip (Stands bytes) starts vs
    × ((start : ℕ) (more : List ℕ) → starts ≡ start ∷ more → StandInside bytes start vs)

-- values stand from there on, after another value of the list
abbrev pub StandBehind : List ℕ → ℕ → List Value21 → Type 0
StandBehind bytes at vs = (end : ℕ) × Cuts bytes at (behind (map print vs) ++ Closing ∷ []) end

-- how many parentheses are open after a token
abbrev pub depth_after : Kind → ℕ → ℕ
depth_after kinds.Open depth = depth + 1
depth_after kinds.Close depth = depth - 1
depth_after _ depth = depth

-- where so many parentheses are open, the last of these tokens closes the outermost, and none before it does
abbrev pub Closes : ℕ → List Lexeme → Type 0
Closes depth [] = depth ≡ 0
Closes depth (l ∷ ls) = (0 < depth) × Closes (depth_after (kind_of (class_of l)) depth) ls

-- a byte that is no parenthesis, and begins neither a text nor a comment
abbrev pub is_plain : ℕ → Bool
is_plain b = not (b == 40 || b == 41 || b == 39 || b == 47)

-- these tokens are cut from there on, or from after plain bytes
pub record Waits (bytes : List ℕ) (at : ℕ) (ls : List Lexeme) (end : ℕ) : Type 0 where
  pub from : ℕ
  pub on : at ≤ from
  pub plain : (i : ℕ) → at ≤ i → i < from → is_plain (slice_index_or bytes i 0) ≡ true
  pub cuts : Cuts bytes from ls end

-- the tokens that are left there close so many parentheses; where none is open, none are left
pub record Leaves (bytes : List ℕ) (at depth end : ℕ) : Type 0 where
  pub left : List Lexeme
  pub closes : Closes depth left
  pub waits : Waits bytes at left end
  pub ended : depth ≡ 0 → at ≡ end
