-- Ways up, where each object has containers and wholes.
use Rattle.std.specs.Prelude.{◌≡◌, ℕ, ◌⊎◌}

-- that number and no other
pub record IsOnly (Has : ℕ → Type 0) (number : ℕ) : Type 0 where
  pub has : Has number
  pub only : (other : ℕ) → Has other → other ≡ number

-- two different numbers
pub record HasTwo (Has : ℕ → Type 0) : Type 0 where
  pub first : ℕ
  pub second : ℕ
  pub has_first : Has first
  pub has_second : Has second
  pub differ : first ≡ second → ⊥

-- The next object on the way up is the container where there is one, else the whole. The way ends where there is neither, and where there are
-- two different ones.
abbrev pub IsNext : (ℕ → ℕ → Type 0) → (ℕ → ℕ → Type 0) → ℕ → ℕ → Type 0
IsNext HasContainer HasWhole object above =
    IsOnly (HasContainer object) above
    ⊎ (((container : ℕ) → HasContainer object container → ⊥) × IsOnly (HasWhole object) above)

-- The second comes on the way up from the first, after one step or more.
pub data IsAbove (Next : ℕ → ℕ → Type 0) : ℕ → ℕ → Type 0 where
  next : (from to : ℕ) → Next from to → IsAbove Next from to
  further : (from between to : ℕ) → Next from between → IsAbove Next between to → IsAbove Next from to

-- The first storey on the way up, after the object itself.
pub data IsFirstStorey (Next : ℕ → ℕ → Type 0) (Storey : ℕ → Type 0) : ℕ → ℕ → Type 0 where
  found : (object storey : ℕ) → Next object storey → Storey storey → IsFirstStorey Next Storey object storey
  beyond : (object above storey : ℕ) → Next object above → (Storey above → ⊥)
      → IsFirstStorey Next Storey above storey → IsFirstStorey Next Storey object storey
