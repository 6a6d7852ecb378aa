-- The instances that a model is read from.
use Rattle.std.specs.Prelude.{◌≡◌, ℕ, Bool, true, false, List, Option, Some, MatchOption, Contains, Any}
use Rattle.std.specs.List.{slice_get}
use Rattle.p21_values.specs.declared.value.Value21.{Value21}
use Rattle.p21_values.specs.declared.value.Instance.{Instance}
use Rattle.ifc_instances.specs.declared.entity.Entity.{Entity}
use Rattle.ifc_instances.specs.declared.entity.Entity.TheVariants.{Project, Storey, Aggregates, Containment, Subject, RepresentationMap, Representation}
use Rattle.ifc_schema.specs.declared.form.Attribute.{Attribute}
use Rattle.ifc_schema.specs.declared.form.Targets.{Targets}
use Rattle.ifc_schema.specs.declared.form.Targets.TheVariants as targets
use Rattle.ifc_schema.specs.declared.form.Shape.{Shape}
use Rattle.ifc_schema.specs.declared.form.Shape.TheVariants as shape
use Rattle.ifc_schema.specs.Forms.{holds, followed}
use Rattle.p21_values.specs.Values.{reference_of, items_of}
use Rattle.p21_values.specs.InstanceLookup.{look}
use Rattle.ifc_instances.specs.EntityLookup.{entity_at}
use Rattle.ifc_schema.specs.AttributeTable.{row_at}
use Rattle.ifc_schema.specs.BodyRepresentations.{applies}

-- the entities whose instances are used wherever they stand
abbrev pub is_root : Option Entity → Bool
is_root (Some Project) = true
is_root (Some Storey) = true
is_root (Some Aggregates) = true
is_root (Some Containment) = true
is_root (Some Subject) = true
is_root _ = false

-- a value is a reference to that instance
abbrev pub RefersTo : ℕ → Value21 → Type 0
RefersTo to v = reference_of v ≡ Some to

-- a value of a list is such
abbrev pub SomeItem : (Value21 → Type 0) → Value21 → Type 0
SomeItem P v = MatchOption (items_of v) ⊥ (Any P)

-- a reference stands in a value, where the shape has its leaves
abbrev pub StandsIn : ℕ → Shape → Value21 → Type 0
StandsIn to shape.One v = RefersTo to v
StandsIn to shape.Identifier v = ⊥
StandsIn to (shape.List _) v = SomeItem (RefersTo to) v
StandsIn to (shape.Table _ _) v = SomeItem (SomeItem (RefersTo to)) v

-- a reference leads to an instance that is one of these
pub record LeadsTo (world : List Instance) (targets : Targets) (to : ℕ) : Type 0 where
  pub target : Instance
  pub found : look world to ≡ Some target
  pub meant : holds targets target.keyword ≡ true

-- an attribute of an instance follows that one
pub record NamesBy (world : List Instance) (mapped : Bool) (i : Instance) (attribute : Attribute)
    (to : ℕ) : Type 0 where
  pub applied : applies world mapped i attribute.when ≡ true
  pub value : Value21
  pub there : slice_get i.values attribute.at ≡ Some value
  pub stands : StandsIn to attribute.shape value
  pub leads : LeadsTo world (followed attribute.leaf) to

-- An instance's row follows that one, also where the instance lacks its form. Whether the instance is mapped is given.
pub record Names (world : List Instance) (mapped : Bool) (i : Instance) (to : ℕ) : Type 0 where
  pub attribute : Attribute
  pub listed : Contains (row_at i) attribute
  pub names : NamesBy world mapped i attribute to

-- an instance is a representation map of that representation
pub record Maps (world : List Instance) (i : Instance) (representation : ℕ) : Type 0 where
  pub map : entity_at i ≡ Some RepresentationMap
  pub value : Value21
  pub there : slice_get i.values 1 ≡ Some value
  pub refers : RefersTo representation value
  pub leads : LeadsTo world (targets.One Representation) representation

-- An instance is used: it is used wherever it stands; or one that is used names it; or it is among the items of a representation that one that
-- is used maps.
pub data Used (world : List Instance) : ℕ → Type 0 where
  root : (id : ℕ) (i : Instance) → look world id ≡ Some i → is_root (entity_at i) ≡ true → Used world id
  named : (from to : ℕ) (i : Instance) → Used world from → look world from ≡ Some i → Names world false i to
      → Used world to
  mapped : (by from to : ℕ) (m i : Instance) → Used world by → look world by ≡ Some m → Maps world m from
      → look world from ≡ Some i → Names world true i to → Used world to

-- a representation is mapped: one that is used is a map of it
pub record IsMapped (world : List Instance) (id : ℕ) : Type 0 where
  pub by : ℕ
  pub map : Instance
  pub used : Used world by
  pub found : look world by ≡ Some map
  pub maps : Maps world map id
