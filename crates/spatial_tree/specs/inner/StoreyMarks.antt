-- What is known of each place.
use Rattle.std.specs.Prelude.{◌≡◌, ◌≢◌, ℕ, ◌<◌, ◌+◌, ◌⊎◌, List, length, Contains, Option, Some, None, slice_index, slice_index_or}
use Rattle.spatial_tree.specs.declared.step.Step.{Step}
use Rattle.spatial_tree.specs.declared.mark.Mark.{Mark}
use Rattle.spatial_tree.specs.declared.mark.Mark.TheVariants.{Unseen, OnWay, Looped, Settled}
use Rattle.spatial_tree.specs.inner.UpwardSteps.{Goes, IsRound, Finds}

-- the mark at a place
abbrev pub mark_at : List Mark → ℕ → Mark
mark_at marks at = slice_index_or marks at Unseen

-- the storey that a mark tells
abbrev pub told_by : Mark → Option ℕ
told_by (Settled storey) = storey
told_by _ = None

-- some place is on a loop
pub record HasRound (steps : List Step) : Type 0 where
  pub member : ℕ
  pub round : IsRound steps member

-- the storey that is found; where some place is on a loop, nothing is said of none
abbrev pub Answers : List Step → ℕ → Option ℕ → Type 0
Answers steps at (Some storey) = Finds steps at storey
Answers steps at None = ((storey : ℕ) → Finds steps at storey → ⊥) ⊎ HasRound steps

-- A place that is settled isn't on a loop.
pub record IsSettled (steps : List Step) (at : ℕ) (storey : Option ℕ) : Type 0 where
  pub single : IsRound steps at → ⊥
  pub answers : Answers steps at storey

-- what a mark says of its place
abbrev pub Says : List Step → ℕ → Mark → Type 0
Says steps at Unseen = Unit {0}
Says steps at OnWay = Unit {0}
Says steps at Looped = IsRound steps at
Says steps at (Settled storey) = IsSettled steps at storey

-- what a marked loop leads to is marked so
abbrev pub AreClosed : List Step → List Mark → Type 0
AreClosed steps marks = (at up : ℕ) → mark_at marks at ≡ Looped → Goes steps at up → mark_at marks up ≡ Looped

-- The marks are right.
pub record AreRight (steps : List Step) (marks : List Mark) : Type 0 where
  pub size : length marks ≡ length steps
  pub says : (at : ℕ) → Says steps at (mark_at marks at)
  pub closed : AreClosed steps marks

-- no way is being followed
abbrev pub AreIdle : List Mark → Type 0
AreIdle marks = (at : ℕ) → mark_at marks at ≢ OnWay

-- what was seen stays seen
abbrev pub KeepsSeen : List Mark → List Mark → Type 0
KeepsSeen old new = (at : ℕ) → mark_at old at ≢ Unseen → mark_at new at ≢ Unseen

-- A place was put on the way.
pub record WasPut (old new : List Mark) (way : List ℕ) (at : ℕ) : Type 0 where
  pub before : mark_at old at ≡ Unseen
  pub after : mark_at new at ≡ OnWay
  pub there : Contains way at

-- Each place of the way is the next one up from the one before it.
pub record IsWay (steps : List Step) (way : List ℕ) : Type 0 where
  pub within : (k : ℕ) → k < length way → slice_index way k < length steps
  pub chain : (k : ℕ) → k + 1 < length way → Goes steps (slice_index way k) (slice_index way (k + 1))

-- the place that the way leads to is no longer unseen
abbrev pub EndsSeen : List Step → List Mark → List ℕ → Type 0
EndsSeen steps marks way = (k up : ℕ) → k + 1 ≡ length way → Goes steps (slice_index way k) up
    → mark_at marks up ≢ Unseen

-- A way was followed as far as it was unseen.
pub record Climbed (steps : List Step) (old new : List Mark) (way : List ℕ) : Type 0 where
  pub changed : (at : ℕ) → (mark_at new at ≡ mark_at old at) ⊎ WasPut old new way at
  pub is_way : IsWay steps way
  pub ends : EndsSeen steps new way

-- what is on the way that is being followed stands in the list
pub record Known (steps : List Step) (marks : List Mark) (way : List ℕ) : Type 0 where
  pub is_way : IsWay steps way
  pub ends : EndsSeen steps marks way
  pub listed : (at : ℕ) → mark_at marks at ≡ OnWay → Contains way at

-- it is known whether the place is on a loop
abbrev pub IsDone : Mark → Type 0
IsDone Unseen = ⊥
IsDone OnWay = ⊥
IsDone Looped = Unit {0}
IsDone (Settled _) = Unit {0}

-- A loop was marked.
pub record Rounded (steps : List Step) (old new : List Mark) (start : ℕ) : Type 0 where
  pub changed : (at : ℕ) → (mark_at new at ≡ mark_at old at) ⊎ ((mark_at new at ≡ Looped) × IsRound steps at)
  pub closed : AreClosed steps new
  pub started : mark_at new start ≡ Looped

-- The marks are right, but for the places of the way, and the place that it leads to is done.
pub record Settling (steps : List Step) (marks : List Mark) (way : List ℕ) : Type 0 where
  pub right : AreRight steps marks
  pub is_way : IsWay steps way
  pub listed : (at : ℕ) → mark_at marks at ≡ OnWay → Contains way at
  pub ends : (k up : ℕ) → k + 1 ≡ length way → Goes steps (slice_index way k) up → IsDone (mark_at marks up)

-- each place is on a loop and marked so, or it isn't, and its storey is known
pub record IsSurveyed (steps : List Step) (marks : List Mark) : Type 0 where
  pub size : length marks ≡ length steps
  pub says : (at : ℕ) → Says steps at (mark_at marks at)
  pub done : (at : ℕ) → at < length steps → IsDone (mark_at marks at)
