-- The first places of a list that is to be ordered, without the others being ordered.
use Rattle.std.specs.Prelude.{◌≡◌, ℕ, ◌+◌, ◌≤◌, false, List, [], ◌++◌, ◌⊎◌, length, Option, Some, None}
use Rattle.std.specs.List.{AllByRecursion}
use Rattle.std.specs.List.Sorted.{IsPermutation}
use Rattle.std.specs.declared.cmp.Ordering.{Ordering}
use Rattle.std.specs.Ordering.{is_lt}

-- none of the places in the second list comes before one of the first
abbrev pub NoneBefore : (ℕ → ℕ → Ordering) → List ℕ → List ℕ → Type 0
NoneBefore R front rest =
    AllByRecursion (λ x. AllByRecursion (λ y. is_lt (R y x) ≡ false) rest) front

-- so many places are enough for a page, or all are there
abbrev pub IsEnough : ℕ → Option ℕ → List ℕ → List ℕ → Type 0
IsEnough skip None front rest = rest ≡ []
IsEnough skip (Some top) front rest = (rest ≡ []) ⊎ (skip + top ≤ length front)

-- places among which those of a page are the first: what is left out comes before none of them
pub record IsFront (R : ℕ → ℕ → Ordering) (skip : ℕ) (top : Option ℕ) (all front : List ℕ) : Type 0 where
  pub rest : List ℕ
  pub kept : IsPermutation all (front ++ rest)
  pub before : NoneBefore R front rest
  pub enough : IsEnough skip top front rest
