-- What the parts of the survey answer, place by place.
use Rattle.std.specs.Prelude.{◌≡◌, ℕ, ◌<◌, List, Option, Some, None}
use Rattle.bim_model.specs.declared.upload.UploadFault.{UploadFault}
use Rattle.p21_values.specs.declared.value.Instance.{Instance}
use Rattle.ifc_schema.specs.declared.flaw.Flaw.{Flaw}
use Rattle.p21_values.specs.InstancePlaces.{IsPlaceOf}
use Rattle.ifc_schema.specs.Used.{Used}
use Rattle.ifc_schema.specs.Surveys.{UsedFlaw, SurveyFault, fault_of}

-- the fault of the instance at a place
pub record FaultAt (world : List Instance) (at : ℕ) (fault : UploadFault) : Type 0 where
  pub id : ℕ
  pub place : IsPlaceOf world id at
  pub used : Used world id
  pub flaw : Flaw
  pub flawed : UsedFlaw world id (Some flaw)
  pub told : fault ≡ fault_of id flaw

-- the instance at a place has this fault, or none where it is used
abbrev pub CheckedAt : List Instance → ℕ → Option UploadFault → Type 0
CheckedAt world at None = (id : ℕ) → IsPlaceOf world id at → Used world id → UsedFlaw world id None
CheckedAt world at (Some fault) = FaultAt world at fault

-- of all places
abbrev pub Checked : List Instance → Option UploadFault → Type 0
Checked world None = (id : ℕ) → Used world id → UsedFlaw world id None
Checked world (Some fault) = SurveyFault world fault

-- an instance of which P holds stands before that place
pub record Below (world : List Instance) (at : ℕ) (P : ℕ → Type 0) (id : ℕ) : Type 0 where
  pub place : ℕ
  pub below : place < at
  pub there : IsPlaceOf world id place
  pub holds : P id
