-- What is known of a file after each group of checks. No public contract cites it.
use Rattle.std.specs.Prelude.{◌≡◌, ℕ, ◌≤◌, true, List, sum_by, Contains, Any, Option, Some}
use Rattle.bim_model.specs.declared.upload.Mode.{Mode}
use Rattle.bim_model.specs.declared.upload.UploadFault.{UploadFault}
use Rattle.bim_model.specs.declared.upload.BuildError.{BuildError}
use Rattle.bim_model.specs.declared.upload.BuildError.TheVariants as errors
use Rattle.p21_values.specs.declared.value.Value21.{Value21}
use Rattle.p21_values.specs.declared.value.Instance.{Instance}
use Rattle.ifc_schema.specs.Surveys.{Surveyed, used_ids, element_ids}
use Rattle.ifc_units.specs.Units.{IsLengthUnit}
use Rattle.ifc_units.specs.declared.scale.Scale.{Scale}
use Rattle.spatial_tree.specs.Trees.{IsTree, ListsStoreys}
use Rattle.placement.specs.Chains.{AreChains}
use Rattle.model_build.specs.declared.judged_file.File.{File}
use Rattle.model_build.specs.StageFaults.{Stage, IsClear}
use Rattle.model_build.specs.Stages.{UnitStage}
use Rattle.ifc_elements.specs.Finding.{Finds}
use Rattle.p21_values.specs.Attributes.{reference_at}
use Rattle.model_build.specs.DuplicateGuids.{NoneRepeats}
use Rattle.model_build.specs.FaultyInstances.{NoneOf, IsBadSet, IsOblique}
use Rattle.ifc_elements.specs.PointTables.{ListsPoints}
use Rattle.model_build.specs.LengthFaults.{LengthFault}
use Rattle.model_build.specs.Unsupported.{IsUnsupported}
use Rattle.model_build.specs.Faces.{HasManyCorners}
use Rattle.faceset.specs.FaceSets.{is_set, IsStuck, IsUnbridged, HasFace}
use Rattle.bim_model.specs.declared.geometry.Point.{Point}
use Rattle.bim_model.specs.declared.geometry.Triangle.{Triangle}
use Rattle.p21_values.specs.InstanceLookup.{look}
use Rattle.model_build.specs.NamedPlacements.{ListsNamed}
use Rattle.ifc_elements.specs.Items.{count_of}
use Rattle.ifc_elements.specs.Sound.{IsSoundSet, AreSets}
use Rattle.model_build.specs.Triangles.{most_triangles}
use Rattle.ifc_elements.specs.ElementReadiness.{IsReady}

-- the error has that fault; out of memory is always allowed
abbrev pub IsErrorOf : Stage → BuildError → Type 0
IsErrorOf S (errors.Fault fault) = S fault
IsErrorOf S errors.Memory = Unit {0}

-- the chains of the placements that the listed elements name
abbrev pub HasChains : List Instance → List ℕ → List ℕ → Type 0
HasChains world ids chains = (named : List ℕ) × ListsNamed world ids named × AreChains world named chains

-- none of the listed instances is a face of more than a thousand corners
abbrev pub HaveFewCorners : List Instance → List ℕ → Type 0
HaveFewCorners world used = Any (λ id. Finds world id HasManyCorners) used → ⊥

-- none of the listed instances has a length that isn't on the grid or is beyond the reach
abbrev pub AreMeasured : List Instance → Scale → Mode → List ℕ → Type 0
AreMeasured world scale mode used =
    (id : ℕ) → Contains used id → (fault : UploadFault) → LengthFault world scale mode id fault → ⊥

-- What is known of a file whose instances have their forms, a unit, a tree, identifiers that differ and chains that end.
pub record IsOpened (file : File) : Type 0 where
  pub surveyed : Surveyed file.exchange file.survey
  pub unit : IsLengthUnit file.exchange file.scale
  pub one_unit : IsClear (UnitStage file.exchange)
  pub tree : IsTree file.exchange
  pub storeys : ListsStoreys file.exchange file.tree
  pub distinct : NoneRepeats file.exchange (element_ids file.survey)
  pub has_chains : HasChains file.exchange (element_ids file.survey) file.chains

-- What is known once its axes, its items and the indexes of its sets are read.
pub record IsSupported (file : File) : Type 0 where
  pub opened : IsOpened file
  pub square : NoneOf (used_ids file.survey) (IsOblique file.exchange)
  pub supported : (id : ℕ) → IsUnsupported file.exchange file.scale file.mode id → ⊥
  pub indexed : NoneOf (used_ids file.survey) (IsBadSet file.exchange)

-- What is known once its lengths are on the grid, and its faces have few corners.
pub record IsMeasured (file : File) : Type 0 where
  pub supported : IsSupported file
  pub measured : AreMeasured file.exchange file.scale file.mode (used_ids file.survey)
  pub few : HaveFewCorners file.exchange (used_ids file.survey)

-- What is known once its sets are cut: these are their triangles, and there are few enough.
pub record IsCut (file : File) (sets : List (ℕ × List Triangle)) : Type 0 where
  pub cut : AreSets file.exchange file.scale file.mode (used_ids file.survey) sets
  pub few : sum_by (count_of file.exchange) (element_ids file.survey) ≤ most_triangles

-- none of the elements of these numbers lacks what is wanted
abbrev pub AreReady : List Instance → Scale → Mode → List ℕ → List ℕ → List ℕ → Type 0
AreReady world scale mode placements listed ids =
    (id : ℕ) → Contains ids id → (Finds world id (IsReady world scale mode placements listed) → ⊥) → ⊥

-- the listed sets are sound
abbrev pub AreSound : List Instance → Scale → Mode → List ℕ → Type 0
AreSound world scale mode listed =
    (id : ℕ) → Contains listed id → (s : Instance) → look world id ≡ Some s → is_set s ≡ true
    → IsSoundSet world scale mode s

-- the set of that number, whose points are on the grid, has that face, of which something holds
abbrev pub ShowsFaceSet : (Option (List Value21) → List Point → Instance → Type 0) → List Instance → Scale
    → Mode → ℕ → ℕ → Type 0
ShowsFaceSet Is world scale mode set id =
    Finds world set (λ s. (is_set s ≡ true) × (list : ℕ) × (reference_at s 0 ≡ Some list)
    × (points : List Point) × ListsPoints world scale mode list points × HasFace Is world points s id)

-- .. it can't be cut
abbrev pub ShowsStuckSet : List Instance → Scale → Mode → ℕ → ℕ → Type 0
ShowsStuckSet = ShowsFaceSet IsStuck

-- .. its loops can't be joined
abbrev pub ShowsApartSet : List Instance → Scale → Mode → ℕ → ℕ → Type 0
ShowsApartSet = ShowsFaceSet IsUnbridged
