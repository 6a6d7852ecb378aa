-- The least of numbers of which something holds.
use Rattle.std.specs.Prelude.{ℕ, ◌<◌, Option, MatchOption}

-- the least number of which it holds
pub record IsLeast (P : ℕ → Type 0) (id : ℕ) : Type 0 where
  pub here : P id
  pub lower : (k : ℕ) → k < id → P k → ⊥

-- none, or the least number of which it holds
abbrev pub LeastOf : (ℕ → Type 0) → Option ℕ → Type 0
LeastOf P found = MatchOption found ((id : ℕ) → P id → ⊥) (IsLeast P)
