-- The survey of a file: whether all that is used has the form of its row.
use Rattle.std.specs.Prelude.{◌≡◌, ℕ, ◌<◌, ◌&&◌, Bool, true, false, List, Option, Some, None, Contains, IsTrue, ◌↔◌}
use Rattle.std.specs.List.Sorted.{IsStrictlyIncreasing}
use Rattle.bim_model.specs.declared.upload.UploadFault.{UploadFault}
use Rattle.bim_model.specs.declared.upload.UploadFault.TheVariants as fault
use Rattle.p21_values.specs.declared.value.Instance.{Instance}
use Rattle.bim_model.specs.declared.upload.BuildError.{BuildError}
use Rattle.bim_model.specs.declared.upload.BuildError.TheVariants.{Fault, Memory}
use Rattle.ifc_instances.specs.declared.entity.Entity.{Entity}
use Rattle.ifc_instances.specs.declared.entity.Entity.TheVariants.{Subject}
use Rattle.ifc_schema.specs.declared.flaw.Flaw.{Flaw}
use Rattle.ifc_schema.specs.declared.flaw.Flaw.TheVariants.{Dangling, BadShape}
use Rattle.ifc_schema.specs.declared.outcome.Survey.{Survey}
use Rattle.p21_values.specs.InstanceLookup.{look}
use Rattle.ifc_instances.specs.EntityLookup.{entity_at}
use Rattle.ifc_schema.specs.BodyRepresentations.{has_body}
use Rattle.ifc_schema.specs.Flaws.{InstanceFlaw}
use Rattle.ifc_schema.specs.Used.{Used, IsMapped}

-- what is wrong first with the instance of that number, which is used
pub record UsedFlaw (world : List Instance) (id : ℕ) (flaw : Option Flaw) : Type 0 where
  pub instance : Instance
  pub found : look world id ≡ Some instance
  pub mapped : Bool
  pub is_mapped : IsTrue mapped ↔ IsMapped world id
  pub flawed : InstanceFlaw world mapped instance flaw

-- the fault of an instance with this flaw
abbrev pub fault_of : ℕ → Flaw → UploadFault
fault_of id (Dangling to) = fault.Dangling id to
fault_of id BadShape = fault.BadShape id

-- the fault of the least instance that is used and lacks the form of its row
pub record SurveyFault (world : List Instance) (fault : UploadFault) : Type 0 where
  pub id : ℕ
  pub used : Used world id
  pub flaw : Flaw
  pub flawed : UsedFlaw world id (Some flaw)
  pub told : fault ≡ fault_of id flaw
  pub least : (lower : ℕ) → lower < id → Used world lower → UsedFlaw world lower None

-- the entity is one that elements have
abbrev pub is_subject : Option Entity → Bool
is_subject (Some Subject) = true
is_subject _ = false

-- a subject element that has a body
abbrev pub is_model_element : List Instance → Instance → Bool
is_model_element world i = is_subject (entity_at i) && has_body world i

-- an instance of this number is an element of the model
pub record IsModelElement (world : List Instance) (id : ℕ) : Type 0 where
  pub instance : Instance
  pub found : look world id ≡ Some instance
  pub element : is_model_element world instance ≡ true

-- numbers that rise, and are exactly those of which P holds
pub record Lists (P : ℕ → Type 0) (ids : List ℕ) : Type 0 where
  pub rises : IsStrictlyIncreasing ids
  pub each : (id : ℕ) → Contains ids id → P id
  pub all : (id : ℕ) → P id → Contains ids id

-- the numbers of the used instances of a survey
abbrev pub used_ids : Survey → List ℕ
used_ids survey = survey.used.items

-- the numbers of the mapped instances of a survey
abbrev pub mapped_ids : Survey → List ℕ
mapped_ids survey = survey.mapped.items

-- the numbers of the elements of a survey
abbrev pub element_ids : Survey → List ℕ
element_ids survey = survey.elements.items

-- every instance that is used has the form of its row, and the survey lists them, the representations that are mapped and the elements that
-- have a body
pub record Surveyed (world : List Instance) (survey : Survey) : Type 0 where
  pub shaped : (id : ℕ) → Used world id → UsedFlaw world id None
  pub used : Lists (Used world) (used_ids survey)
  pub mapped : Lists (IsMapped world) (mapped_ids survey)
  pub elements : Lists (IsModelElement world) (element_ids survey)

-- why there is no survey: the file has that fault, or memory runs out
abbrev pub IsSurveyError : List Instance → BuildError → Type 0
IsSurveyError world (Fault fault) = SurveyFault world fault
IsSurveyError world Memory = Unit {0}
