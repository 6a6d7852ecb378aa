-- Places at which there is a fault.
use Rattle.std.specs.Prelude.{◌≡◌, ℕ, ◌<◌, ◌⊎◌, true, List, Option, Some, None}
use Rattle.std.specs.List.{slice_get}
use Rattle.spatial_tree.specs.declared.step.Step.{Step}
use Rattle.spatial_tree.specs.declared.mark.Mark.{Mark}
use Rattle.spatial_tree.specs.declared.mark.Mark.TheVariants.{Looped}
use Rattle.spatial_tree.specs.inner.StoreyMarks.{mark_at}

-- the object at a place has two different containers or wholes, or comes again on its own way up
pub record IsFaulty (steps : List Step) (marks : List Mark) (at : ℕ) : Type 0 where
  pub step : Step
  pub there : slice_get steps at ≡ Some step
  pub wrong : (step.torn ≡ true) ⊎ (mark_at marks at ≡ Looped)

-- the first place at which there is a fault
abbrev pub IsFirstFault : List Step → List Mark → Option ℕ → Type 0
IsFirstFault steps marks None = (at : ℕ) → IsFaulty steps marks at → ⊥
IsFirstFault steps marks (Some at) =
    IsFaulty steps marks at × ((lower : ℕ) → lower < at → IsFaulty steps marks lower → ⊥)
