-- What is known after a check that found nothing says that its stage has no fault.
use Rattle.std.proofs.Common.{ℕ, List, Contains}
use Rattle.bim_model.specs.declared.upload.Mode.{Mode}
use Rattle.p21_values.specs.declared.value.Instance.{Instance}
use Rattle.ifc_schema.specs.Used.{Used}
use Rattle.ifc_schema.specs.Surveys.{Lists, Surveyed}
use Rattle.ifc_units.specs.declared.scale.Scale.{Scale}
use Rattle.model_build.specs.StageFaults.{IsClear, LeastFault}
use Rattle.model_build.specs.Unsupported.{IsUnsupported}
use Rattle.model_build.specs.Stages.{FormStage, TreeStage, ObliqueStage, ItemStage, IndexStage, LengthStage, CornersStage}
use Rattle.model_build.specs.FaultyInstances.{NoneOf, IsBadSet, IsOblique}
use Rattle.model_build.specs.inner.Outcomes.{HaveFewCorners, AreMeasured}
use Rattle.ifc_schema.specs.declared.outcome.Survey.{Survey}
use Rattle.ifc_schema.proofs.Apart.{used_apart}
use Rattle.bim_model.specs.declared.upload.UploadFault.{UploadFault}
use Rattle.spatial_tree.specs.Trees.{IsTree}
use Rattle.model_build.specs.LengthFaults.{LengthFault}

pub square_clear : (world : List Instance) (used : List ℕ) → Lists (Used world) used → NoneOf used (IsOblique world) → IsClear (ObliqueStage world)
square_clear world used ls none fault h = none h.id (ls.all h.id h.of) h.here.1

pub items_clear : (world : List Instance) (scale : Scale) (mode : Mode) → ((id : ℕ) → IsUnsupported world scale mode id → ⊥) → IsClear (ItemStage world mode scale)
items_clear world scale mode none fault h = none h.id h.of

pub indexes_clear : (world : List Instance) (used : List ℕ) → Lists (Used world) used → NoneOf used (IsBadSet world) → IsClear (IndexStage world)
indexes_clear world used ls none fault h = none h.id (ls.all h.id h.of) h.here.1

pub corners_clear : (world : List Instance) (used : List ℕ) → Lists (Used world) used → HaveFewCorners world used → IsClear (CornersStage world)
corners_clear world used ls few fault h = let c = ls.all h.1 h.2 in few (c.0, h.1, c.1, c.2, h.3)

-- where a survey stands, nothing that is used lacks the form of its row
pub survey_clear : (world : List Instance) (survey : Survey) → Surveyed world survey → IsClear (FormStage world)
survey_clear world survey s fault f = used_apart world f.id f.flaw (s.shaped f.id f.used) f.flawed

pub measured_clear : (world : List Instance) (scale : Scale) (mode : Mode) (used : List ℕ) → Lists (Used world) used → AreMeasured world scale mode used → IsClear (LengthStage world mode scale)
measured_clear world scale mode used ls h fault l = h l.id (ls.all l.id l.of) fault l.here

pub measured_fault : (world : List Instance) (scale : Scale) (mode : Mode) (used : List ℕ) (fault : UploadFault) → Lists (Used world) used → LeastFault (Contains used) (LengthFault world scale mode) fault
    → LengthStage world mode scale fault
measured_fault world scale mode used fault ls l = record { id = l.id; of = ls.each l.id l.of; here = l.here; lower = λ k below of other f. l.lower k below (ls.all k of) other f }

pub tree_clear : (world : List Instance) → IsTree world → IsClear (TreeStage world)
tree_clear world h fault s = h s.id s.flawed
