-- The lengths of a file that aren't on the grid or are beyond the reach: the first number of a point or of a list of points decides.
use Rattle.std.specs.Prelude.{◌≡◌, ℕ, List}
use Rattle.bim_model.specs.declared.upload.Mode.{Mode}
use Rattle.bim_model.specs.declared.upload.UploadFault.{UploadFault}
use Rattle.bim_model.specs.declared.upload.UploadFault.TheVariants as faults
use Rattle.p21_values.specs.declared.value.Instance.{Instance}
use Rattle.ifc_units.specs.declared.scale.Scale.{Scale}
use Rattle.ifc_units.specs.declared.length_error.GridFault.{GridFault}
use Rattle.ifc_units.specs.declared.length_error.GridFault.TheVariants.{OffGrid, TooFar}
use Rattle.ifc_units.specs.Lengths.{InstanceRefused}
use Rattle.ifc_elements.specs.Finding.{Finds}

-- a length of the instance of this number is refused so
abbrev pub Refuses : List Instance → Scale → Mode → ℕ → GridFault → Type 0
Refuses world scale mode id refused = Finds world id (λ i. InstanceRefused scale mode i refused)

-- the fault of an upload for a refused length of an instance
abbrev pub told_of : ℕ → GridFault → UploadFault
told_of id OffGrid = faults.OffGrid id
told_of id TooFar = faults.TooFar id

-- the fault of a refused length of an instance
abbrev pub LengthFault : List Instance → Scale → Mode → ℕ → UploadFault → Type 0
LengthFault world scale mode id fault =
    (refused : GridFault) × (fault ≡ told_of id refused) × Refuses world scale mode id refused
