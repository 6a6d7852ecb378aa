-- Objects with the storeys that marks tell.
use Rattle.std.specs.Prelude.{◌≡◌, ℕ, ◌<◌, List, Contains, Some, slice_index}
use Rattle.spatial_tree.specs.declared.mark.Mark.{Mark}
use Rattle.spatial_tree.specs.declared.mark.Mark.TheVariants.{Settled}
use Rattle.spatial_tree.specs.declared.storey_tree.Placed.{Placed}
use Rattle.spatial_tree.specs.inner.StoreyMarks.{mark_at}

-- an object with its storey
abbrev pub placed : ℕ → ℕ → Placed
placed object storey = record { object = object; storey = storey }

-- the mark of the object at a place says that storey
pub record Tells (objects : List ℕ) (marks : List Mark) (count object storey : ℕ) : Type 0 where
  pub place : ℕ
  pub within : place < count
  pub is : slice_index objects place ≡ object
  pub marked : mark_at marks place ≡ Settled (Some storey)

-- a list of exactly the objects whose marks tell a storey, among the first ones
pub record ArePlaced (objects : List ℕ) (marks : List Mark) (count : ℕ) (list : List Placed) : Type 0 where
  pub sound : (object storey : ℕ) → Contains list (placed object storey)
      → Tells objects marks count object storey
  pub all : (object storey : ℕ) → Tells objects marks count object storey
      → Contains list (placed object storey)
