-- The objects that have something above them, by their places in a list, and the steps up between them.
use Rattle.std.specs.Prelude.{◌≡◌, ℕ, ◌<◌, true, List, length, Contains, Option, Some, None, option_and_then, slice_index, ◌⊎◌}
use Rattle.std.specs.List.{slice_get}
use Rattle.std.specs.List.Sorted.{IsStrictlyIncreasing}
use Rattle.spatial_tree.specs.declared.step.Step.{Step}
use Rattle.spatial_tree.specs.declared.relations.Link.{Link}
use Rattle.spatial_tree.specs.Climbing.{HasTwo, IsNext, IsAbove}
use Rattle.spatial_tree.specs.inner.Onlys.{Has}

-- where a step leads up
abbrev pub up_in : Option Step → Option ℕ
up_in s = option_and_then (λ (s : Step). s.up) s

-- the storey that a step is
abbrev pub storey_in : Option Step → Option ℕ
storey_in s = option_and_then (λ (s : Step). s.storey) s

-- the place of the next object, where it has something above it
abbrev pub up_of : List Step → ℕ → Option ℕ
up_of steps at = up_in (slice_get steps at)

-- the next object, where it is a storey
abbrev pub storey_at : List Step → ℕ → Option ℕ
storey_at steps at = storey_in (slice_get steps at)

-- the way leads from one place up to another
abbrev pub Goes : List Step → ℕ → ℕ → Type 0
Goes steps from to = up_of steps from ≡ Some to

-- it comes again on its own way up
abbrev pub IsRound : List Step → ℕ → Type 0
IsRound steps at = IsAbove (Goes steps) at at

-- steps lead to steps
abbrev pub AreWithin : List Step → Type 0
AreWithin steps = (from to : ℕ) → Goes steps from to → to < length steps

-- the first storey on the way up
pub data Finds (steps : List Step) : ℕ → ℕ → Type 0 where
  here : (at storey : ℕ) → storey_at steps at ≡ Some storey → Finds steps at storey
  further : (at up storey : ℕ) → storey_at steps at ≡ None → Goes steps at up → Finds steps up storey
      → Finds steps at storey

-- the next object up, by the pairs
abbrev pub NextIn : List Link → List Link → ℕ → ℕ → Type 0
NextIn containers wholes object above = IsNext (Has containers) (Has wholes) object above

-- where a number stands in a list; none where it doesn't
abbrev pub IsPlaceIn : List ℕ → ℕ → Option ℕ → Type 0
IsPlaceIn objects object None = Contains objects object → ⊥
IsPlaceIn objects object (Some at) = (at < length objects) × (slice_index objects at ≡ object)

-- two different containers, or two different wholes, by the pairs
abbrev pub TornIn : List Link → List Link → ℕ → Type 0
TornIn containers wholes object = HasTwo (Has containers object) ⊎ HasTwo (Has wholes object)

-- The step is that of the object, where these are what is next on the way up, what is torn, and the storeys.
pub record IsStepOf (Next : ℕ → ℕ → Type 0) (Torn : ℕ → Type 0) (Storey : ℕ → Type 0) (objects : List ℕ)
    (object : ℕ) (step : Step) : Type 0 where
  pub torn : step.torn ≡ true → Torn object
  pub whole : Torn object → step.torn ≡ true
  pub up : (at : ℕ) → step.up ≡ Some at → (at < length objects) × Next object (slice_index objects at)
  pub place : (above : ℕ) → Next object above → IsPlaceIn objects above step.up
  pub storey : (storey : ℕ) → step.storey ≡ Some storey → Next object storey × Storey storey
  pub other : step.storey ≡ None → (above : ℕ) → Next object above → Storey above → ⊥

-- the steps are those of the objects, place by place
pub record AreStepsOf (Next : ℕ → ℕ → Type 0) (Torn : ℕ → Type 0) (Storey : ℕ → Type 0) (objects : List ℕ)
    (steps : List Step) : Type 0 where
  pub size : length steps ≡ length objects
  pub each : (at : ℕ) (step : Step) → slice_get steps at ≡ Some step
      → IsStepOf Next Torn Storey objects (slice_index objects at) step

-- the steps of the first objects
pub record AreFirstStepsOf (Next : ℕ → ℕ → Type 0) (Torn : ℕ → Type 0) (Storey : ℕ → Type 0)
    (objects : List ℕ) (steps : List Step) (count : ℕ) : Type 0 where
  pub size : length steps ≡ count
  pub each : (at : ℕ) (step : Step) → slice_get steps at ≡ Some step
      → IsStepOf Next Torn Storey objects (slice_index objects at) step

-- the objects that the pairs name first, strictly rising, and their steps
pub record IsTableOf (containers wholes : List Link) (storeys objects : List ℕ)
    (steps : List Step) : Type 0 where
  pub rises : IsStrictlyIncreasing objects
  pub contents : (object above : ℕ) → Has containers object above → Contains objects object
  pub parts : (object above : ℕ) → Has wholes object above → Contains objects object
  pub are_steps : AreStepsOf (NextIn containers wholes) (TornIn containers wholes)
      (Contains storeys) objects steps
