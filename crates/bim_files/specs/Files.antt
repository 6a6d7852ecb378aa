-- What contracts see of files, and what their calls do.
use Rattle.std.specs.Prelude.{◌≡◌, ℕ, ◌+◌, ◌≤◌, ◌<◌, List, [], ◌∷◌, take, cond, false, ⊤}
use Rattle.std.specs.Prelude.{Option, Some, None, IfSome}
use Rattle.std.specs.Str.{bytes_eq}
use Rattle.bim_model.specs.declared.limits.TheConstants.{MOST_UPLOAD}
use Rattle.bim_io.specs.Causes.{Rose}
use Rattle.bim_io.specs.StreamViews.{SourceSeen}

-- a file: its name and what it holds
pub record FileSeen : Type 0 where
  pub name : List ℕ
  pub bytes : List ℕ

-- files that tell their contents: each file, and how often each name is lent
pub record FilesTold : Type 0 where
  pub files : List FileSeen
  pub lent : List ℕ → ℕ

-- what files tell, where they tell it, and how often they have failed
pub record FilesSeen : Type 0 where
  pub told : Option FilesTold
  pub faults : ℕ

-- what the first file of that name holds, nothing where there is none
abbrev pub content_of : List FileSeen → List ℕ → List ℕ
content_of [] name = []
content_of (file ∷ files) name = cond (bytes_eq file.name name) file.bytes (content_of files name)

-- one for this name and none for others
abbrev pub once : List ℕ → List ℕ → ℕ
once name other = cond (bytes_eq name other) 1 0

-- a source that has given nothing, has not failed and has not answered its end
pub record IsFresh (source : SourceSeen) : Type 0 where
  pub given : IfSome source.given (λ bytes. bytes ≡ [])
  pub ended : source.ended ≡ false
  pub faults : source.faults ≡ 0

-- a source was lent under a name, which is lent once more; where the name wasn't lent, all that the file
-- holds is left of the source
pub record LendsTold (old new : FilesTold) (name : List ℕ) (source : SourceSeen) (named : Option (List ℕ))
    : Type 0 where
  pub files : new.files ≡ old.files
  pub lent : (n : List ℕ) → new.lent n ≡ old.lent n + once name n
  pub name_is : named ≡ Some name
  pub left : old.lent name ≡ 0 → source.left ≡ Some (content_of old.files name)

-- A source was lent under a name. Files may stop telling, and never begin to.
abbrev pub Lends : Option FilesTold → Option FilesTold → List ℕ → SourceSeen → Option (List ℕ) → Type 0
Lends None None name source named = ⊤
Lends None (Some new) name source named = ⊥
Lends (Some old) None name source named = ⊤
Lends (Some old) (Some new) name source named = LendsTold old new name source named

-- the name of a source is lent by files that tell it
abbrev pub IsLent : Option FilesTold → Option (List ℕ) → Type 0
IsLent None named = ⊤
IsLent (Some told) None = ⊥
IsLent (Some told) (Some name) = 1 ≤ told.lent name

-- a name is lent once less
pub record TakesBackTold (old new : FilesTold) (name : List ℕ) : Type 0 where
  pub files : new.files ≡ old.files
  pub lent : (n : List ℕ) → new.lent n + once name n ≡ old.lent n

-- a source of that name was taken back
abbrev pub TakesBack : Option FilesTold → Option FilesTold → Option (List ℕ) → Type 0
TakesBack None None named = ⊤
TakesBack None (Some new) named = ⊥
TakesBack (Some old) None named = ⊤
TakesBack (Some old) (Some new) None = ⊥
TakesBack (Some old) (Some new) (Some name) = TakesBackTold old new name

-- the files have failed once more where the source that is taken back had, and not otherwise
pub record ClosesWith (source old new : ℕ) : Type 0 where
  pub later : old ≤ new
  pub failed : 0 < source → Rose old new
  pub done : source ≡ 0 → new ≡ old

-- the bytes of a file that are judged: all, or one more than an upload may have
abbrev pub judged : List ℕ → List ℕ
judged bytes = take (MOST_UPLOAD + 1) bytes

-- these are the bytes that are judged of what is left of a source, where it tells it
abbrev pub IsFront : Option (List ℕ) → List ℕ → Type 0
IsFront None bytes = ⊤
IsFront (Some left) bytes = bytes ≡ judged left

-- these are the bytes that are judged of the file of that name, where the files tell it, before and after,
-- and the name wasn't lent
abbrev pub Holds : Option FilesTold → Option FilesTold → List ℕ → List ℕ → Type 0
Holds None after name bytes = ⊤
Holds (Some before) None name bytes = ⊤
Holds (Some before) (Some after) name bytes =
    before.lent name ≡ 0 → bytes ≡ judged (content_of before.files name)

-- two states of files that tell the same, but for files that stopped telling
abbrev pub Tells : Option FilesTold → Option FilesTold → Type 0
Tells None None = ⊤
Tells None (Some new) = ⊥
Tells (Some old) None = ⊤
Tells (Some old) (Some new) = (new.files ≡ old.files) × ((n : List ℕ) → new.lent n ≡ old.lent n)
