-- The numbers that the elements of a version had in the version before, where they did not change.
use Rattle.std.specs.Prelude.{◌≡◌, ℕ, ◌<◌, ◌≤◌, List, length, slice_index_or, Option, None, Some, MatchOption}
use Rattle.std.specs.List.{AllZip}
use Rattle.bim_model.specs.Keys.{Subject, subjects_of, IsBelow}
use Rattle.bucket_grid.specs.Grids.{GridValue}
use Rattle.bucket_grid.specs.Subjects.{subject_at}
use Rattle.bucket_check.specs.ClashSets.{IsSame}

-- the elements of a grid's version, by number
abbrev pub subjects : GridValue → List Subject
subjects grid = subjects_of grid.version.models

-- the element of a number
abbrev pub subject_of : GridValue → ℕ → Subject
subject_of grid number = subject_at (subjects grid) number

-- the element has this number among those before: one of the same key, class, storey and triangles
pub record HadNumber (before : List Subject) (s : Subject) (number : ℕ) : Type 0 where
  pub within : number < length before
  pub same : IsSame (subject_at before number) s

-- the element's number before, or none where it is new or changed
abbrev pub IsNumberBefore : List Subject → Subject → Option ℕ → Type 0
IsNumberBefore before s number =
    MatchOption number ((n : ℕ) → HadNumber before s n → ⊥) (HadNumber before s)

-- for each element of a version its number before
abbrev pub AreNumbersBefore : List Subject → List Subject → List (Option ℕ) → Type 0
AreNumbersBefore before after numbers = AllZip (IsNumberBefore before) after numbers

-- the elements before of lower numbers are below another by their keys
abbrev pub AllBelow : List Subject → ℕ → Subject → Type 0
AllBelow before number s = (n : ℕ) → n < number → IsBelow (subject_at before n) s

-- where an element stands by its key among those before: those of lower numbers are below it, that of the number isn't
pub record IsReached (before : List Subject) (s : Subject) (number : ℕ) : Type 0 where
  pub within : number ≤ length before
  pub below : AllBelow before number s
  pub first : number < length before → IsBelow (subject_at before number) s → ⊥

-- these numbers are those before of the other ones
abbrev pub AreFrom : List (Option ℕ) → List ℕ → List ℕ → Type 0
AreFrom numbers old new = AllZip (λ o n. slice_index_or numbers n None ≡ Some o) old new
