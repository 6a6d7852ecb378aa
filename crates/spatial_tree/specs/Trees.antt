-- The spatial tree of a file (IFC4 ADD2 TC1, spatial structure and decomposition): the way up from an object, the faults, and the storeys.
use Rattle.std.specs.Prelude.{◌≡◌, ℕ, ◌<◌, ◌⊎◌, List, Contains}
use Rattle.bim_model.specs.declared.upload.UploadFault.{UploadFault}
use Rattle.bim_model.specs.declared.upload.UploadFault.TheVariants as faults
use Rattle.bim_model.specs.declared.upload.BuildError.{BuildError}
use Rattle.bim_model.specs.declared.upload.BuildError.TheVariants.{Fault, Memory}
use Rattle.p21_values.specs.declared.value.Instance.{Instance}
use Rattle.spatial_tree.specs.declared.storey_tree.Placed.{Placed}
use Rattle.spatial_tree.specs.Placing.{placed}
use Rattle.spatial_tree.specs.Relations.{HasContainer, HasWhole, IsStorey}
use Rattle.spatial_tree.specs.Climbing.{HasTwo, IsNext, IsAbove, IsFirstStorey}

-- the next object on the way up
abbrev pub Next : List Instance → ℕ → ℕ → Type 0
Next world object above = IsNext (HasContainer world) (HasWhole world) object above

-- two different containers, or two different wholes
abbrev pub IsTorn : List Instance → ℕ → Type 0
IsTorn world object = HasTwo (HasContainer world object) ⊎ HasTwo (HasWhole world object)

-- an object comes again on its own way up
abbrev pub IsLooped : List Instance → ℕ → Type 0
IsLooped world object = IsAbove (Next world) object object

-- an object for which the relations make no tree
abbrev pub HasTreeFault : List Instance → ℕ → Type 0
HasTreeFault world object = IsTorn world object ⊎ IsLooped world object

-- the relations make a tree
abbrev pub IsTree : List Instance → Type 0
IsTree world = (object : ℕ) → HasTreeFault world object → ⊥

-- the least object for which they make none
pub record LeastTreeFault (world : List Instance) (fault : UploadFault) : Type 0 where
  pub id : ℕ
  pub flawed : HasTreeFault world id
  pub told : fault ≡ faults.TreeFault id
  pub least : (lower : ℕ) → lower < id → HasTreeFault world lower → ⊥

-- why there is no tree; out of memory is always allowed
abbrev pub IsRefused : List Instance → BuildError → Type 0
IsRefused world (Fault fault) = LeastTreeFault world fault
IsRefused world Memory = Unit {0}

-- the first storey on the way up, after the object itself
abbrev pub StoreyOf : List Instance → ℕ → ℕ → Type 0
StoreyOf world object storey = IsFirstStorey (Next world) (IsStorey world) object storey

-- a list of exactly the objects that have a storey, with it
pub record ListsStoreys (world : List Instance) (list : List Placed) : Type 0 where
  pub sound : (object storey : ℕ) → Contains list (placed object storey) → StoreyOf world object storey
  pub all : (object storey : ℕ) → StoreyOf world object storey → Contains list (placed object storey)

-- a list of exactly the storeys
pub record ListsStoreyIds (world : List Instance) (ids : List ℕ) : Type 0 where
  pub sound : (id : ℕ) → Contains ids id → IsStorey world id
  pub all : (id : ℕ) → IsStorey world id → Contains ids id
