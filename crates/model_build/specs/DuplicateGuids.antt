-- Global identifiers that stand twice (IFC4 ADD2 TC1, IfcGloballyUniqueId).
use Rattle.std.specs.Prelude.{◌≡◌, ℕ, ◌<◌, List, Some, Contains}
use Rattle.bim_model.specs.declared.upload.UploadFault.{UploadFault}
use Rattle.bim_model.specs.declared.upload.UploadFault.TheVariants as faults
use Rattle.bim_model.specs.declared.guid.Guid.{Guid}
use Rattle.bim_model.specs.Guids.{IsGuid}
use Rattle.p21_values.specs.declared.value.Instance.{Instance}
use Rattle.ifc_elements.specs.Finding.{Finds}
use Rattle.ifc_elements.specs.ElementTexts.{guid_of}

-- an instance of this number has this identifier
abbrev pub HasGuid : List Instance → ℕ → List ℕ → Type 0
HasGuid world id guid = Finds world id (λ i. guid_of i ≡ Some guid)

-- one of lower number has the same global identifier
pub record RepeatsGuid (world : List Instance) (Of : ℕ → Type 0) (id : ℕ) : Type 0 where
  pub guid : List ℕ
  pub here : HasGuid world id guid
  pub lower : ℕ
  pub below : lower < id
  pub of : Of lower
  pub there : HasGuid world lower guid

-- its global identifier is one
abbrev pub IsIdentified : List Instance → ℕ → Type 0
IsIdentified world id = Finds world id (λ i. (guid : List ℕ) × (guid_of i ≡ Some guid) × IsGuid guid)

-- an instance of this number has the identifier
abbrev pub HasThatGuid : List Instance → ℕ → Guid → Type 0
HasThatGuid world id guid = HasGuid world id guid.chars

-- no identifier stands at this number
abbrev pub HasNoGuid : List Instance → ℕ → Type 0
HasNoGuid world id = IsIdentified world id → ⊥

-- none of the list has the global identifier of a lower one
abbrev pub NoneRepeats : List Instance → List ℕ → Type 0
NoneRepeats world ids = (id : ℕ) → Contains ids id → RepeatsGuid world (Contains ids) id → ⊥

-- the least one of the list that has the global identifier of a lower one
pub record IsFirstRepeated (world : List Instance) (ids : List ℕ) (id : ℕ) : Type 0 where
  pub listed : Contains ids id
  pub repeats : RepeatsGuid world (Contains ids) id
  pub least : (k : ℕ) → k < id → Contains ids k → RepeatsGuid world (Contains ids) k → ⊥

-- the identifier at this number is another element's too
abbrev pub GuidFault : List Instance → (ℕ → Type 0) → ℕ → UploadFault → Type 0
GuidFault world Of id fault = (fault ≡ faults.DoubleGuid id) × RepeatsGuid world Of id
