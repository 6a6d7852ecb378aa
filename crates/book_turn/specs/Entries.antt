-- Lists of entries, oldest first, each made by some pass in some turn.
use Rattle.std.specs.Prelude.{ℕ, ◌≡◌, ◌<◌, ◌≤◌, List, [], ◌∷◌, true, Option, None, Some, if◌then◌else◌, leb}
use Rattle.book_turn.specs.NumberLists.{has}

-- no entry, or one
abbrev pub listed : {E : Type 0} → Option E → List E
listed None = []
listed (Some e) = e ∷ []

module _ {E : Type 0} (turn : E → ℕ) where
  -- all entries come before the turn t
  abbrev pub AllBefore : ℕ → List E → Type 0
  AllBefore t [] = Unit {0}
  AllBefore t (e ∷ es) = (turn e < t) × AllBefore t es

  -- all entries come after the turn t
  abbrev pub AllAfter : ℕ → List E → Type 0
  AllAfter t [] = Unit {0}
  AllAfter t (e ∷ es) = (t < turn e) × AllAfter t es

  -- each entry has a later turn than those before it
  abbrev pub Rises : List E → Type 0
  Rises [] = Unit {0}
  Rises (e ∷ es) = AllAfter (turn e) es × Rises es

  -- the entries with turns up to t
  abbrev pub up_to : ℕ → List E → List E
  up_to t [] = []
  up_to t (e ∷ es) = if leb (turn e) t then e ∷ up_to t es else up_to t es

module _ {E : Type 0} (pass : E → ℕ) where
  -- the entries that one of these passes made
  abbrev pub calls_by : List ℕ → List E → List E
  calls_by ps [] = []
  calls_by ps (e ∷ es) = if has (pass e) ps then e ∷ calls_by ps es else calls_by ps es

module _ {E : Type 0} (turn pass : E → ℕ) where
  -- one entry at most, made in the turn t by one of these passes
  abbrev pub IsOneOf : ℕ → List ℕ → List E → Type 0
  IsOneOf t ps [] = Unit {0}
  IsOneOf t ps (e ∷ []) = (turn e ≡ t) × (has (pass e) ps ≡ true)
  IsOneOf t ps (e ∷ f ∷ es) = ⊥

  -- the entries that these passes made have turns up to t
  abbrev pub OwnUpTo : List ℕ → ℕ → List E → Type 0
  OwnUpTo ps t [] = Unit {0}
  OwnUpTo ps t (e ∷ es) = (has (pass e) ps ≡ true → turn e ≤ t) × OwnUpTo ps t es
