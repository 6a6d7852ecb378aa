-- The length unit of a file (IFC4 ADD2 TC1, IfcProject, IfcUnitAssignment, IfcSIUnit). A world is the list of its instances. Only values are
-- looked at, also of instances that lack their own form.
use Rattle.std.specs.Prelude.{◌≡◌, ◌≢◌, ℕ, ◌≤◌, ◌&&◌, ◌||◌, Bool, true, if◌then◌else◌, negsuc, codes, List, [], ◌∷◌, Option, Some, None, All, Any}
use Rattle.std.specs.Bool.{MatchBool}
use Rattle.std.specs.List.{filter}
use Rattle.bim_model.specs.declared.upload.UploadFault.{UploadFault}
use Rattle.bim_model.specs.declared.upload.UploadFault.TheVariants.{LengthUnit}
use Rattle.p21_values.specs.declared.value.Value21.{Value21}
use Rattle.p21_values.specs.declared.value.Instance.{Instance}
use Rattle.ifc_instances.specs.declared.entity.Entity.TheVariants as entity
use Rattle.p21_values.specs.Attributes.{listed, target_at}
use Rattle.p21_values.specs.InstanceLookup.{look}
use Rattle.ifc_instances.specs.EntityLookup.{is_a, says}
use Rattle.p21_values.specs.Values.{reference_of}
use Rattle.bim_text.specs.ScaledNumbers.{Scaled}
use Rattle.ifc_units.specs.declared.scale.Scale.{Scale}
use Rattle.ifc_units.specs.Metres.{metric_power}
use Rattle.ifc_units.specs.Conversions.{tenths_of, IsMeasure}

-- Of a unit.

-- a unit of length: of the international system, or converted to one
unfoldable pub is_length_unit : Instance → Bool
is_length_unit i = (is_a entity.SiUnit i || is_a entity.ConvertedUnit i) && says (codes "LENGTHUNIT") i 1

-- a metre with a prefix makes the scale
pub record IsMetric (unit : Instance) (scale : Scale) : Type 0 where
  pub factor : scale.factor ≡ 1
  pub power : metric_power unit ≡ Some scale.power

-- an inch or a foot makes it, in tenths of a millimetre
pub record IsConverted (world : List Instance) (unit : Instance) (scale : Scale) : Type 0 where
  pub measure : Instance
  pub measured : target_at world unit 3 ≡ Some measure
  pub length : Scaled
  pub is : IsMeasure world measure length
  pub factor : tenths_of length ≡ Some scale.factor
  pub power : scale.power ≡ negsuc 0

-- the unit makes the scale
abbrev pub MakesScale : List Instance → Instance → Scale → Type 0
MakesScale world unit scale =
    MatchBool (is_a entity.ConvertedUnit unit) (IsConverted world unit scale) (IsMetric unit scale)

-- Of a file.

-- the instances that are projects
abbrev pub projects : List Instance → List Instance
projects world = filter (is_a entity.Project) world

-- an instance that passes a test
abbrev pub kept_if : (Instance → Bool) → Option Instance → Option Instance
kept_if test None = None
kept_if test (Some i) = if test i then Some i else None

-- the assignment of units of a project
abbrev pub assignment_of : List Instance → Instance → Option Instance
assignment_of world project = kept_if (is_a entity.UnitAssignment) (target_at world project 8)

-- a value refers to that instance, and this is a unit of length
pub record RefersToUnit (world : List Instance) (id : ℕ) (v : Value21) : Type 0 where
  pub refers : reference_of v ≡ Some id
  pub unit : Instance
  pub found : look world id ≡ Some unit
  pub kind : is_length_unit unit ≡ true

-- a unit of length is among the items
abbrev pub IsUnitAmong : List Instance → List Value21 → ℕ → Type 0
IsUnitAmong world items id = Any (RefersToUnit world id) items

-- it holds of that number, and of no other
pub record IsOnly (P : ℕ → Type 0) (number : ℕ) : Type 0 where
  pub holds : P number
  pub only : (other : ℕ) → P other → other ≡ number

-- a value refers to a unit of length of another number
pub record RefersToOther (world : List Instance) (id : ℕ) (v : Value21) : Type 0 where
  pub other : ℕ
  pub names : RefersToUnit world other v
  pub differs : other ≢ id

-- An assignment holds exactly one unit of length, whatever its name and its prefix, and this makes the scale.
pub record AssignsScale (world : List Instance) (assignment : Instance) (scale : Scale) : Type 0 where
  pub id : ℕ
  pub one_unit : IsOnly (IsUnitAmong world (listed assignment 0)) id
  pub unit : Instance
  pub found : look world id ≡ Some unit
  pub makes : MakesScale world unit scale

-- the file has exactly one project, and the units that it is assigned make the scale
pub record IsLengthUnit (world : List Instance) (scale : Scale) : Type 0 where
  pub project : Instance
  pub one_project : projects world ≡ project ∷ []
  pub assignment : Instance
  pub assigned : assignment_of world project ≡ Some assignment
  pub makes : AssignsScale world assignment scale

-- the least number of the instances, or 0 where there are none
abbrev pub IsLeastNumber : List Instance → ℕ → Type 0
IsLeastNumber [] id = id ≡ 0
IsLeastNumber (p ∷ ps) id = Any (λ i. i.id ≡ id) (p ∷ ps) × All (λ i. id ≤ i.id) (p ∷ ps)

-- the file has no length unit, and the fault names its least project
pub record LengthUnitFault (world : List Instance) (fault : UploadFault) : Type 0 where
  pub id : ℕ
  pub least : IsLeastNumber (projects world) id
  pub told : fault ≡ LengthUnit id
  pub none : (scale : Scale) → IsLengthUnit world scale → ⊥
