-- What the relations of a file say (IFC4 ADD2 TC1, IfcRelAggregates, IfcRelContainedInSpatialStructure). A world is the list of its instances,
-- and an object is a number, whatever it leads to.
use Rattle.std.specs.Prelude.{◌≡◌, ℕ, true, List, Some, Any, option_and_then}
use Rattle.std.specs.List.{slice_get}
use Rattle.p21_values.specs.declared.value.Value21.{Value21}
use Rattle.p21_values.specs.declared.value.Instance.{Instance}
use Rattle.ifc_instances.specs.declared.entity.Entity.{Entity}
use Rattle.ifc_instances.specs.declared.entity.Entity.TheVariants.{Aggregates, Containment, Storey}
use Rattle.p21_values.specs.Values.{reference_of, items_of}
use Rattle.ifc_instances.specs.EntityLookup.{is_a}
use Rattle.p21_values.specs.Attributes.{reference_at}

-- An instance of the entity says that the object has that one above it: its attribute `many` is a list with a reference to the object, and its
-- attribute `one` is a reference to the one above. Attributes count from 0.
pub record Relates (entity : Entity) (many one : ℕ) (i : Instance) (object above : ℕ) : Type 0 where
  pub kind : is_a entity i ≡ true
  pub items : List Value21
  pub lists : option_and_then items_of (slice_get i.values many) ≡ Some items
  pub listed : Any (λ v. reference_of v ≡ Some object) items
  pub refers : reference_at i one ≡ Some above

-- some relation of the entity says so
abbrev pub IsRelated : Entity → ℕ → ℕ → List Instance → ℕ → ℕ → Type 0
IsRelated entity many one world object above = Any (λ i. Relates entity many one i object above) world

-- a content has its container
abbrev pub HasContainer : List Instance → ℕ → ℕ → Type 0
HasContainer world content container = IsRelated Containment 4 5 world content container

-- a part has its whole
abbrev pub HasWhole : List Instance → ℕ → ℕ → Type 0
HasWhole world part whole = IsRelated Aggregates 5 4 world part whole

-- an object is a storey
abbrev pub IsStorey : List Instance → ℕ → Type 0
IsStorey world id = Any (λ i. (i.id ≡ id) × (is_a Storey i ≡ true)) world
