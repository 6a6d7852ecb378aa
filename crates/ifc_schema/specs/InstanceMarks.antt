-- What the survey keeps while it follows the rows: a mark for each place, and the places whose rows are still to be followed.
use Rattle.std.specs.Prelude.{◌≡◌, ℕ, ◌+◌, ◌-◌, ◌*◌, ◌<◌, ◌≤◌, ◌⊎◌, Bool, true, false, List, length, Some, Contains, sum_by, slice_index_or}
use Rattle.std.specs.List.{slice_get}
use Rattle.p21_values.specs.declared.value.Instance.{Instance}
use Rattle.ifc_schema.specs.declared.worklist.Mark.{Mark}
use Rattle.ifc_schema.specs.declared.worklist.Mark.TheVariants.{Unseen, Used as Met, Mapped}
use Rattle.ifc_schema.specs.declared.worklist.Work.{Work}
use Rattle.ifc_schema.specs.Used.{is_root, Used, IsMapped, Names, Maps}
use Rattle.p21_values.specs.InstanceLookup.{look}
use Rattle.ifc_instances.specs.EntityLookup.{entity_at}
use Rattle.p21_values.specs.InstancePlaces.{IsPlaceOf}

-- how far an instance has been followed
abbrev pub rank : Mark → ℕ
rank Unseen = 0
rank Met = 1
rank Mapped = 2

-- the instance was met
abbrev pub is_seen : Mark → Bool
is_seen Unseen = false
is_seen Met = true
is_seen Mapped = true

-- the instance was met as one that is mapped
abbrev pub is_mapped : Mark → Bool
is_mapped Unseen = false
is_mapped Met = false
is_mapped Mapped = true

-- the mark of the instance at a place
abbrev pub mark_at : Work → ℕ → Mark
mark_at work at = slice_index_or work.marks.items at Unseen

-- the rank of the instance at a place
abbrev pub rank_at : Work → ℕ → ℕ
rank_at work at = rank (mark_at work at)

-- how much is still to be done
abbrev pub weight : Work → ℕ
weight work = sum_by (λ m. 4 - 2 * rank m) work.marks.items + length work.stack.items

-- An instance is used, or mapped, by its place.

-- the instance at a place is used
pub record UsedAt (world : List Instance) (at : ℕ) : Type 0 where
  pub id : ℕ
  pub place : IsPlaceOf world id at
  pub used : Used world id

-- the instance at a place is mapped
pub record MappedAt (world : List Instance) (at : ℕ) : Type 0 where
  pub id : ℕ
  pub place : IsPlaceOf world id at
  pub mapped : IsMapped world id

-- a mark says nothing wrong
pub record SoundAt (world : List Instance) (at : ℕ) (mark : Mark) : Type 0 where
  pub used : 0 < rank mark → UsedAt world at
  pub mapped : 1 < rank mark → MappedAt world at

-- Marks rise, and where one does, its place is put on the stack.
pub record Grows (world : List Instance) (old new : Work) : Type 0 where
  pub size : length new.marks.items ≡ length old.marks.items
  pub sound : ((at : ℕ) → SoundAt world at (mark_at old at)) → (at : ℕ) → SoundAt world at (mark_at new at)
  pub stacked : ((at : ℕ) → Contains old.stack.items at → 0 < rank_at old at) → (at : ℕ)
      → Contains new.stack.items at → 0 < rank_at new at
  pub rises : (at : ℕ) → rank_at old at ≤ rank_at new at
  pub pending : (at : ℕ) → (mark_at new at ≡ mark_at old at) ⊎ Contains new.stack.items at
  pub keeps : (at : ℕ) → Contains old.stack.items at → Contains new.stack.items at
  pub weight : weight new ≤ weight old

-- the instance of that number is marked
abbrev pub IsMarked : List Instance → Work → ℕ → ℕ → Type 0
IsMarked world work least id = (at : ℕ) → IsPlaceOf world id at → least < rank_at work at

-- all that an instance names is marked
pub record IsFollowed (world : List Instance) (work : Work) (mapped : Bool) (i : Instance) : Type 0 where
  pub names : (to : ℕ) → Names world mapped i to → IsMarked world work 0 to
  pub maps : (to : ℕ) → Maps world i to → IsMarked world work 1 to

-- what the instance at a place names is met too
abbrev pub FollowedAt : List Instance → Work → Bool → ℕ → Type 0
FollowedAt world work mapped at =
    (i : Instance) → slice_get world at ≡ Some i → IsFollowed world work mapped i

-- an instance that is used wherever it stands
pub record IsRootAt (world : List Instance) (at : ℕ) : Type 0 where
  pub id : ℕ
  pub place : IsPlaceOf world id at
  pub instance : Instance
  pub found : look world id ≡ Some instance
  pub root : is_root (entity_at instance) ≡ true

-- The marks are right, and where an instance's row isn't followed its place is on the stack.
pub record Going (world : List Instance) (work : Work) : Type 0 where
  pub size : length work.marks.items ≡ length world
  pub sound : (at : ℕ) → SoundAt world at (mark_at work at)
  pub stacked : (at : ℕ) → Contains work.stack.items at → 0 < rank_at work at
  pub pending : (at : ℕ) → 0 < rank_at work at
      → Contains work.stack.items at ⊎ FollowedAt world work (is_mapped (mark_at work at)) at

-- the marks tell which instances are used and which are mapped
pub record Known (world : List Instance) (work : Work) : Type 0 where
  pub size : length work.marks.items ≡ length world
  pub sound : (at : ℕ) → SoundAt world at (mark_at work at)
  pub used : (id : ℕ) → Used world id → IsMarked world work 0 id
  pub mapped : (id : ℕ) → IsMapped world id → IsMarked world work 1 id
