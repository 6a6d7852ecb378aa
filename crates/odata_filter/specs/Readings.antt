-- What the reading of a text by a grammar answers: the meaning of the text, or the place where it goes on as no text of
-- the grammar does.
use Rattle.std.specs.Prelude.{◌≡◌, ℕ, ◌<◌, ◌≤◌, List, [], ◌∷◌, ◌++◌, length, Result, Ok, Err, ⊤, ◌⊎◌}
use Rattle.odata_filter.specs.declared.filter_tokens.Token.{Token}
use Rattle.odata_filter.specs.declared.filter_error.FilterError.{FilterError}
use Rattle.odata_filter.specs.declared.filter_error.FilterError.TheVariants.{Bad, Memory}
use Rattle.odata_filter.specs.declared.limits.TheConstants.{MOST_FILTER}
use Rattle.odata_filter.specs.FilterTokens.{tokens_of}
use Rattle.odata_filter.specs.FilterLexemes.{Lexeme, lexemes, lexemes_of}

-- some tokens complete these to a text of the grammar
abbrev pub IsViable : {A : Type 0} → (List Lexeme → A → Type 0) → List Lexeme → Type 0
IsViable {A} Means ls = (rest : List Lexeme) × (value : A) × Means (ls ++ rest) value

-- a token stands at that place that can't come there: those before it begin a text of the grammar, and with it they don't
pub record StopsAt {A : Type 0} (Means : List Lexeme → A → Type 0) (text : List ℕ) (at : ℕ) : Type 0 where
  pub before : List Token
  pub token : Token
  pub after : List Token
  pub cut : tokens_of text ≡ before ++ token ∷ after
  pub begins : IsViable Means (lexemes text before)
  pub stops : IsViable Means (lexemes text (before ++ token ∷ [])) → ⊥
  pub place : at ≡ token.at

-- the text ends too early: its tokens begin a text of the grammar and are none
pub record EndsEarly {A : Type 0} (Means : List Lexeme → A → Type 0) (text : List ℕ) (at : ℕ) : Type 0 where
  pub begins : IsViable Means (lexemes_of text)
  pub none : (value : A) → Means (lexemes_of text) value → ⊥
  pub place : at ≡ length text

-- what the reading of a text answers; a text that is too long is refused at its greatest length
abbrev pub IsRead : {A : Type 0} → (List Lexeme → A → Type 0) → List ℕ → Result A FilterError → Type 0
IsRead Means text (Ok value) = (length text ≤ MOST_FILTER) × Means (lexemes_of text) value
IsRead Means text (Err (Bad at)) =
    ((MOST_FILTER < length text) × (at ≡ MOST_FILTER))
    ⊎ ((length text ≤ MOST_FILTER) × (StopsAt Means text at ⊎ EndsEarly Means text at))
IsRead Means text (Err Memory) = ⊤

-- two answers of readings are the same, or one of them is want of memory
abbrev pub AreOneReading : {A : Type 0} → Result A FilterError → Result A FilterError → Type 0
AreOneReading r s = (r ≡ s) ⊎ ((r ≡ Err Memory) ⊎ (s ≡ Err Memory))

-- the readings of a text by a grammar have one answer
abbrev pub HasOneReading : {A : Type 0} → (List Lexeme → A → Type 0) → Type 0
HasOneReading {A} Means =
    (text : List ℕ) (r s : Result A FilterError) → IsRead Means text r → IsRead Means text s
    → AreOneReading r s
