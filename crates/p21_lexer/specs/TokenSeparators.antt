use Rattle.std.specs.Prelude.{◌≡◌, ℕ, List, [], ◌∷◌, ◌++◌, Bool, true, false, ◌&&◌, ◌||◌, ◌==◌, ◌⊎◌}
use Rattle.p21_lexer.specs.Spelling.{between}

-- What may stand between tokens: blanks and comments (ISO 10303-21, section 5).

-- tab to carriage return, and space
abbrev pub is_blank : ℕ → Bool
is_blank b = between 9 13 b || b == 32

-- an asterisk and a slash stand side by side
abbrev pub has_close : List ℕ → Bool
has_close [] = false
has_close (b ∷ []) = false
has_close (b ∷ c ∷ bs) = (b == 42 && c == 47) || has_close (c ∷ bs)

-- /*, and what follows up to the first */ after it: comments don't nest
pub record IsComment (bs : List ℕ) : Type 0 where
  pub inner : List ℕ
  pub whole : bs ≡ 47 ∷ 42 ∷ (inner ++ 42 ∷ 47 ∷ [])
  pub first : has_close (inner ++ 42 ∷ []) ≡ false

-- one blank byte
pub record IsBlank (bs : List ℕ) : Type 0 where
  pub byte : ℕ
  pub whole : bs ≡ byte ∷ []
  pub blank : is_blank byte ≡ true

-- a blank, or a whole comment
abbrev pub IsPiece : List ℕ → Type 0
IsPiece bs = IsBlank bs ⊎ IsComment bs

-- the bytes are these pieces, one after another, and then the rest
abbrev pub Passes : List (List ℕ) → List ℕ → List ℕ → Type 0
Passes [] bs rest = bs ≡ rest
Passes (p ∷ ps) bs rest = (mid : List ℕ) × IsPiece p × (bs ≡ p ++ mid) × Passes ps mid rest

-- neither a blank nor a whole comment begins here
abbrev pub IsStop : List ℕ → Type 0
IsStop bs = (p rest : List ℕ) → IsPiece p → bs ≡ p ++ rest → ⊥

-- all blanks and comments at the front are passed over
pub record Skips (bs rest : List ℕ) : Type 0 where
  pub pieces : List (List ℕ)
  pub passed : Passes pieces bs rest
  pub stop : IsStop rest
