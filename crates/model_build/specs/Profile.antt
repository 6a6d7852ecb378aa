-- Which files make which model, and the first fault of the others.
use Rattle.std.specs.Prelude.{ℕ, List, IsPermutation, ◌⊎◌, Result, Ok, Err}
use Rattle.std.specs.List.{AllZip}
use Rattle.bim_model.specs.declared.upload.Mode.{Mode}
use Rattle.bim_model.specs.declared.element.Element.{Element}
use Rattle.p21_values.specs.declared.value.Instance.{Instance}
use Rattle.ifc_schema.specs.Surveys.{IsModelElement, Lists}
use Rattle.ifc_units.specs.declared.scale.Scale.{Scale}
use Rattle.ifc_units.specs.Units.{IsLengthUnit}
use Rattle.model_build.specs.Order.{Rise}
use Rattle.ifc_elements.specs.Elements.{IsElement}
use Rattle.bim_model.specs.declared.upload.UploadFault.{UploadFault}
use Rattle.bim_model.specs.declared.upload.BuildError.{BuildError}
use Rattle.bim_model.specs.declared.upload.BuildError.TheVariants as errors
use Rattle.p21_reader.specs.Uploads.{SpellsExchange, HasFault}
use Rattle.model_build.specs.StageFaults.{IsClear}
use Rattle.model_build.specs.Stages.{FileFault}

-- The model: an element for each model element of the file, rising strictly by identifier.
pub record IsModelOf (world : List Instance) (mode : Mode) (elements : List Element) : Type 0 where
  pub scale : Scale
  pub unit : IsLengthUnit world scale
  pub ids : List ℕ
  pub lists : Lists (IsModelElement world) ids
  pub made : List Element
  pub each : AllZip (IsElement world scale mode) ids made
  pub order : IsPermutation made elements
  pub rising : Rise elements

-- The bytes make the model; or they have that fault, as a spelled file or by its instances.
unfoldable pub Profile : List ℕ → Mode → Result (List Element) UploadFault → Type 0
Profile bytes mode (Ok elements) =
    (world : List Instance) × SpellsExchange bytes world × IsClear (FileFault world mode)
    × IsModelOf world mode elements
Profile bytes mode (Err fault) =
    HasFault bytes fault ⊎ ((world : List Instance) × SpellsExchange bytes world × FileFault world mode fault)

-- why there is no model; out of memory is always allowed
abbrev pub IsCause : List ℕ → Mode → BuildError → Type 0
IsCause bytes mode (errors.Fault fault) = Profile bytes mode (Err fault)
IsCause bytes mode errors.Memory = Unit {0}
