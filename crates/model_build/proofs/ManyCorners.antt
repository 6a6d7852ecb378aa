-- Whether any of some numbers has a face with too many corners.
use Rattle.std.proofs.Common.{ℕ, ◌<◌, ◌≤◌, List, length, get_or, take, refl}
use Rattle.std.specs.List.{All, Any}
use Rattle.std.proofs.lemmas.List.Elements.{Contains-get_or}
use Rattle.p21_values.specs.declared.value.Instance.{Instance}
use Rattle.bim_model.specs.declared.upload.UploadFault.TheVariants as faults
use Rattle.bim_model.specs.declared.upload.Many.TheVariants as many
use Rattle.ifc_schema.specs.Used.{Used}
use Rattle.ifc_schema.specs.Surveys.{Lists}
use Rattle.ifc_elements.specs.Finding.{Finds}
use Rattle.model_build.specs.Faces.{HasManyCorners}
use Rattle.model_build.specs.Stages.{CornersStage}
use Rattle.model_build.proofs.FirstIsLeast.{none_there}

pub any_here : (P : ℕ → Type 0) (ids : List ℕ) (i : ℕ) → i < length ids → P (get_or ids i 0) → Any P ids
any_here P ids i lt h = let c = Contains-get_or ids i 0 lt in (c.0, get_or ids i 0, c.1, c.2, h)

pub none_any : (P : ℕ → Type 0) (ids : List ℕ) (i : ℕ) → length ids ≤ i → All (λ k. P k → ⊥) (take i ids) → Any P ids → ⊥
none_any P ids i le none any = none_there P ids i le none any.1 (any.0, any.2, any.3) any.4

-- a face that is used has too many corners
pub corners_stage : (world : List Instance) (used : List ℕ) → Lists (Used world) used → Any (λ id. Finds world id HasManyCorners) used → CornersStage world (faults.TooMany many.Corners)
corners_stage world used ls any = (refl, any.1, ls.each any.1 (any.0, any.2, any.3), any.4)
