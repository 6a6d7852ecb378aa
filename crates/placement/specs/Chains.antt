-- Chains of placements (IFC4 ADD2 TC1, IfcLocalPlacement): a placement stands in its parent, which may stand in one of its own.
use Rattle.std.specs.Prelude.{◌≡◌, ℕ, ◌<◌, ◌≤◌, ◌⊎◌, if◌then◌else◌, List, length, take, slice_index_or, Option, Some, None, option_map, option_and_then, Contains}
use Rattle.std.specs.List.{slice_get}
use Rattle.bim_model.specs.declared.upload.BuildError.{BuildError}
use Rattle.bim_model.specs.declared.upload.BuildError.TheVariants as errors
use Rattle.bim_model.specs.declared.upload.UploadFault.TheVariants as faults
use Rattle.p21_values.specs.declared.value.Value21.{Value21}
use Rattle.p21_values.specs.declared.value.Instance.{Instance}
use Rattle.p21_values.specs.Values.{reference_of, is_absent}
use Rattle.p21_values.specs.InstanceLookup.{look}

-- what a value names, or that it is absent
abbrev pub named_by : Value21 → Option (Option ℕ)
named_by v = if is_absent v then Some None else option_map Some (reference_of v)

-- the placement that a placement is relative to: none, or its number, where the value says so
abbrev pub parent_in : Instance → Option (Option ℕ)
parent_in i = option_and_then named_by (slice_get i.values 0)

-- the placement in which that one stands, or that it stands in none
abbrev pub parent_of : List Instance → ℕ → Option (Option ℕ)
parent_of world id = option_and_then parent_in (look world id)

-- the chain of parents from that placement on comes to one that stands in none
pub data Ends (world : List Instance) : ℕ → Type 0 where
  here : (id : ℕ) → parent_of world id ≡ Some None → Ends world id
  above : (id parent : ℕ) → parent_of world id ≡ Some (Some parent) → Ends world parent → Ends world id

-- the chain from that placement never ends
abbrev pub NeverEnds : List Instance → ℕ → Type 0
NeverEnds world id = Ends world id → ⊥

-- the least of these placements whose chain never ends
pub record IsLeastLoop (world : List Instance) (named : List ℕ) (id : ℕ) : Type 0 where
  pub listed : Contains named id
  pub endless : NeverEnds world id
  pub least : (lower : ℕ) → Contains named lower → lower < id → Ends world lower

-- a placement stands in none, or in one of these
abbrev pub StandsIn : List Instance → List ℕ → ℕ → Type 0
StandsIn world others id = (parent_of world id ≡ Some None)
    ⊎ ((parent : ℕ) × (parent_of world id ≡ Some (Some parent)) × Contains others parent)

-- each of the placements stands in none, or in one before it
abbrev pub ParentsFirst : List Instance → List ℕ → Type 0
ParentsFirst world ids = (k : ℕ) (d : ℕ) → k < length ids
    → StandsIn world (take k ids) (slice_index_or ids k d)

-- a placement is named, or one that is stands in it, or one that stands in it does, and so on
pub data Reached (world : List Instance) (named : List ℕ) : ℕ → Type 0 where
  directly : (id : ℕ) → Contains named id → Reached world named id
  further : (id parent : ℕ) → parent_of world id ≡ Some (Some parent) → Reached world named id
      → Reached world named parent

-- All the placements that are named, and those in which they stand, the parents first. Each chain ends.
pub record AreChains (world : List Instance) (named ids : List ℕ) : Type 0 where
  pub first : ParentsFirst world ids
  pub all : (id : ℕ) → Contains named id → Contains ids id
  pub reached : (id : ℕ) → Contains ids id → Reached world named id
  pub ends : (id : ℕ) → Contains ids id → Ends world id
  pub few : length ids ≤ length world

-- out of memory is always allowed
abbrev pub IsLoopCause : List Instance → List ℕ → BuildError → Type 0
IsLoopCause world named (errors.Fault (faults.PlacementLoop id)) = IsLeastLoop world named id
IsLoopCause world named (errors.Fault _) = ⊥
IsLoopCause world named errors.Memory = Unit {0}
