use Rattle.std.specs.Prelude.{◌≡◌, ℕ, List, [], ◌∷◌, ◌++◌, Option, Some, None, Result, Ok, Err}
use Rattle.p21_values.specs.declared.fault.ReadFault.{ReadFault}
use Rattle.p21_values.specs.declared.value.Value21.{Value21}
use Rattle.p21_values.specs.declared.value.Instance.{Instance}
use Rattle.p21_values.specs.Grammar.{Sign, Body, Derives}
use Rattle.p21_values.specs.Lexemes.{Lexeme, Opening, Closing, Ending, Assigning, KeywordOf, ReferenceTo}
use Rattle.p21_values.specs.Printing.{print_all}
use Rattle.p21_reader.specs.inner.TokenReading.{Goes, Fails, classes}

-- What stands between the equals sign of an instance and its semicolon. A complex instance is passed over: several keywords with their
-- values in parentheses, of which nothing is kept.
abbrev pub SpellsBody : Option (List ℕ) → List Value21 → List Lexeme → Type 0
SpellsBody (Some keyword) values ls = ls ≡ KeywordOf keyword ∷ Opening ∷ (print_all values ++ Closing ∷ [])
SpellsBody None values ls = (values ≡ []) × (rest : List Lexeme) × (ls ≡ Opening ∷ rest)
    × Derives (Body ∷ []) (classes ls)

-- These tokens are an instance, from its name up to and with the semicolon.
pub record SpellsInstance (instance : Instance) (ls : List Lexeme) : Type 0 where
  pub body : List Lexeme
  pub whole : ls ≡ ReferenceTo instance.id ∷ Assigning ∷ (body ++ Ending ∷ [])
  pub is_body : SpellsBody instance.keyword instance.values body

-- these tokens are the instances, one after another
abbrev pub SpellsAll : List Instance → List Lexeme → Type 0
SpellsAll [] ls = ls ≡ []
SpellsAll (i ∷ more) ls = (front rest : List Lexeme) × SpellsInstance i front × (ls ≡ front ++ rest)
    × SpellsAll more rest

-- What the functions answer.

-- what stands in an instance after its first lexeme is read at a place, to its end
abbrev pub ReadsBody : List Sign → Lexeme → List ℕ → ℕ → Option (List ℕ) → List Value21 → ℕ → Type 0
ReadsBody σ first bytes at keyword values end =
    (rest : List Lexeme) × SpellsBody keyword values (first ∷ rest) × Goes σ [] bytes at end rest

-- signs of the grammar are passed over at a place: where they end, or what fails
abbrev pub Passes : List Sign → List ℕ → ℕ → Result ℕ ReadFault → Type 0
Passes σ bytes at (Ok end) = (ls : List Lexeme) × Goes σ [] bytes at end ls
Passes σ bytes at (Err fault) = Fails σ bytes at fault
