-- What is wanted where so many parentheses are open, of which some hold the one value of a keyword.
use Rattle.std.specs.Prelude.{◌≡◌, ℕ, zero, suc, ◌-◌, ◌<◌, List, [], ◌∷◌, Bool, false, if◌then◌else◌, Some, slice_index_or}
use Rattle.p21_reader.specs.declared.passing.Top.{Top}
use Rattle.p21_reader.specs.declared.passing.Top.TheVariants as tops
use Rattle.p21_values.specs.declared.piece.Kind.{Kind}
use Rattle.p21_values.specs.declared.piece.Kind.TheVariants as kinds
use Rattle.p21_values.specs.Grammar.{Close, Open, Sign, T, Value, Inside, After}
use Rattle.p21_values.specs.Lexemes.{Lexeme, NumberOf, Separator, Opening, Closing, Cuts}

-- after a value, the innermost level first
abbrev pub wanted : ℕ → ℕ → List Bool → List Sign
wanted most zero typed = []
wanted most (suc k) typed =
    (if slice_index_or typed k false then T Close else After (Some (most - suc k))) ∷ wanted most k typed

-- a value, the inside of a list, the opening parenthesis after a keyword, or what stands behind a value
abbrev pub signs : ℕ → Top → ℕ → List Bool → List Sign
signs most tops.Value depth typed = Value (Some (most - depth)) ∷ wanted most depth typed
signs most tops.Inside depth typed = Inside (Some (most - depth)) ∷ wanted most (depth - 1) typed
signs most tops.Opening depth typed = T Open ∷ Value (Some (most - depth)) ∷ wanted most depth typed
signs most tops.Behind depth typed = wanted most depth typed

-- a list is open whose inside is wanted
abbrev pub IsFit : Top → ℕ → List Bool → Type 0
IsFit tops.Inside depth typed = (0 < depth) × (slice_index_or typed (depth - 1) false ≡ false)
IsFit _ depth typed = Unit {0}

-- how many values a token tells: one of one token tells itself; a list and a typed value are told by their opening parenthesis
abbrev pub tells : Kind → ℕ
tells kinds.Simple = 1
tells kinds.Name = 1
tells kinds.Open = 1
tells _ = 0

-- what is left of a list of three numbers after its opening parenthesis
abbrev pub row_rest : List ℕ → List ℕ → List ℕ → List Lexeme
row_rest x y z = NumberOf x ∷ Separator ∷ NumberOf y ∷ Separator ∷ NumberOf z ∷ Closing ∷ []

-- three numbers with commas between and a closing parenthesis are cut there, one after another
abbrev pub EndsRow : List ℕ → ℕ → ℕ → Type 0
EndsRow bytes at end = (x y z : List ℕ) × Cuts bytes at (row_rest x y z) end

-- a list of three numbers after a comma is cut there
abbrev pub HasRow : List ℕ → ℕ → ℕ → Type 0
HasRow bytes at end = (x y z : List ℕ) × Cuts bytes at (Separator ∷ Opening ∷ row_rest x y z) end

-- as many such lists, one after another
abbrev pub HasRows : ℕ → List ℕ → ℕ → ℕ → Type 0
HasRows zero bytes at end = at ≡ end
HasRows (suc many) bytes at end = (mid : ℕ) × HasRows many bytes at mid × HasRow bytes mid end
