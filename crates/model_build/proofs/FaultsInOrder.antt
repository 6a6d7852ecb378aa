-- The fault of a stage is the file's first one, where what is known says that the stages before it have none.
use Rattle.std.proofs.Common.{ℕ, List, drop, inl}
use Rattle.bim_model.specs.declared.upload.Mode.{Mode}
use Rattle.bim_model.specs.declared.upload.UploadFault.{UploadFault}
use Rattle.bim_model.specs.declared.upload.BuildError.{BuildError}
use Rattle.bim_model.specs.declared.upload.BuildError.TheVariants as errors
use Rattle.bim_model.specs.declared.geometry.Triangle.{Triangle}
use Rattle.p21_values.specs.declared.value.Instance.{Instance}
use Rattle.ifc_schema.specs.declared.outcome.Survey.{Survey}
use Rattle.ifc_schema.specs.Surveys.{Surveyed, IsModelElement, used_ids, element_ids}
use Rattle.spatial_tree.specs.Trees.{IsTree, IsRefused}
use Rattle.model_build.specs.declared.judged_file.File.{File}
use Rattle.model_build.specs.StageFaults.{IsClear, first_fault}
use Rattle.model_build.specs.DuplicateGuids.{NoneRepeats}
use Rattle.model_build.specs.FaultyInstances.{NoneOf, IsOblique}
use Rattle.model_build.specs.Unsupported.{IsUnsupported}
use Rattle.model_build.specs.Faces.{IsStuckFace}
use Rattle.model_build.specs.Stages.{FormStage, UnitStage, TreeStage, TwiceStage, LoopStage, ObliqueStage, ItemStage, IndexStage, LengthStage, CornersStage, StuckStage, TrianglesStage, ReachStage, InUnit, stages, FileFault}
use Rattle.model_build.specs.inner.Outcomes.{IsErrorOf, AreMeasured, IsOpened, IsSupported, IsMeasured, IsCut}
use Rattle.model_build.proofs.FirstOfStages.{stop, pass, AllClear, all_clear, unit_clear}
use Rattle.model_build.proofs.StagesClear.{survey_clear, tree_clear, square_clear, items_clear, indexes_clear, measured_clear, corners_clear}
use Rattle.model_build.proofs.RepeatedGuids.{repeats_clear}
use Rattle.model_build.proofs.ChainsEnd.{chains_clear}
use Rattle.model_build.proofs.SetsCut.{sets_unstuck, stuck_clear}
use Rattle.model_build.proofs.TrianglesCounted.{triangles_clear}

-- Of a file that is being opened.

past_forms : (world : List Instance) (mode : Mode) (survey : Survey) (e : BuildError) → Surveyed world survey → IsErrorOf (first_fault (drop 1 (stages world mode))) e → IsErrorOf (FileFault world mode) e
past_forms world mode survey e s h = pass (FormStage world) (drop 1 (stages world mode)) e (survey_clear world survey s) h

pub unit_first : (world : List Instance) (mode : Mode) (survey : Survey) (e : BuildError) → Surveyed world survey → IsErrorOf (UnitStage world) e → IsErrorOf (FileFault world mode) e
unit_first world mode survey e s h = past_forms world mode survey e s (stop (UnitStage world) (drop 2 (stages world mode)) e h)

past_unit : (world : List Instance) (mode : Mode) (survey : Survey) (e : BuildError) → Surveyed world survey → IsClear (UnitStage world) → IsErrorOf (first_fault (drop 2 (stages world mode))) e → IsErrorOf (FileFault world mode) e
past_unit world mode survey e s u h = past_forms world mode survey e s (pass (UnitStage world) (drop 2 (stages world mode)) e u h)

refused : (world : List Instance) (e : BuildError) → IsRefused world e → IsErrorOf (TreeStage world) e
refused world (errors.Fault fault) h = h
refused world errors.Memory h = h

pub tree_first : (world : List Instance) (mode : Mode) (survey : Survey) (e : BuildError) → Surveyed world survey → IsClear (UnitStage world) → IsRefused world e → IsErrorOf (FileFault world mode) e
tree_first world mode survey e s u h = past_unit world mode survey e s u (stop (TreeStage world) (drop 3 (stages world mode)) e (refused world e h))

past_tree : (world : List Instance) (mode : Mode) (survey : Survey) (e : BuildError) → Surveyed world survey → IsClear (UnitStage world) → IsTree world → IsErrorOf (first_fault (drop 3 (stages world mode))) e → IsErrorOf (FileFault world mode) e
past_tree world mode survey e s u t h = past_unit world mode survey e s u (pass (TreeStage world) (drop 3 (stages world mode)) e (tree_clear world t) h)

pub twice_first : (world : List Instance) (mode : Mode) (survey : Survey) (fault : UploadFault) → Surveyed world survey → IsClear (UnitStage world) → IsTree world → TwiceStage world fault → FileFault world mode fault
twice_first world mode survey fault s u t h = past_tree world mode survey (errors.Fault fault) s u t (inl h)

past_guids : (world : List Instance) (mode : Mode) (survey : Survey) (e : BuildError) → Surveyed world survey → IsClear (UnitStage world) → IsTree world → NoneRepeats world (element_ids survey)
    → IsErrorOf (first_fault (drop 4 (stages world mode))) e → IsErrorOf (FileFault world mode) e
past_guids world mode survey e s u t d h =
    past_tree world mode survey e s u t (pass (TwiceStage world) (drop 4 (stages world mode)) e (repeats_clear world (IsModelElement world) (element_ids survey) s.elements d) h)

pub loop_first : (world : List Instance) (mode : Mode) (survey : Survey) (e : BuildError) → Surveyed world survey → IsClear (UnitStage world) → IsTree world → NoneRepeats world (element_ids survey) → IsErrorOf (LoopStage world) e
    → IsErrorOf (FileFault world mode) e
loop_first world mode survey e s u t d h = past_guids world mode survey e s u t d (stop (LoopStage world) (drop 5 (stages world mode)) e h)

-- Of a file that is opened.

past_opened : (file : File) (e : BuildError) → IsOpened file → IsErrorOf (first_fault (drop 5 (stages file.exchange file.mode))) e → IsErrorOf (FileFault file.exchange file.mode) e
past_opened file e o h =
    let world = file.exchange in
    past_guids world file.mode file.survey e o.surveyed o.one_unit o.tree o.distinct
    (pass (LoopStage world) (drop 5 (stages world file.mode)) e (chains_clear world (IsModelElement world) (element_ids file.survey) file.chains o.surveyed.elements o.has_chains) h)

pub oblique_first : (file : File) (fault : UploadFault) → IsOpened file → ObliqueStage file.exchange fault → FileFault file.exchange file.mode fault
oblique_first file fault o h = past_opened file (errors.Fault fault) o (inl h)

past_axes : (file : File) (e : BuildError) → IsOpened file → NoneOf (used_ids file.survey) (IsOblique file.exchange) → IsErrorOf (first_fault (drop 6 (stages file.exchange file.mode))) e → IsErrorOf (FileFault file.exchange file.mode) e
past_axes file e o a h = past_opened file e o (pass (ObliqueStage file.exchange) (drop 6 (stages file.exchange file.mode)) e (square_clear file.exchange (used_ids file.survey) o.surveyed.used a) h)

pub item_first : (file : File) (fault : UploadFault) → IsOpened file → NoneOf (used_ids file.survey) (IsOblique file.exchange) → ItemStage file.exchange file.mode file.scale fault → FileFault file.exchange file.mode fault
item_first file fault o a h = past_axes file (errors.Fault fault) o a (inl (file.scale, o.unit, h))

past_items : (file : File) (e : BuildError) → IsOpened file → NoneOf (used_ids file.survey) (IsOblique file.exchange) → ((id : ℕ) → IsUnsupported file.exchange file.scale file.mode id → ⊥)
    → IsErrorOf (first_fault (drop 7 (stages file.exchange file.mode))) e → IsErrorOf (FileFault file.exchange file.mode) e
past_items file e o a i h =
    let world = file.exchange in
    past_axes file e o a (pass (InUnit world (ItemStage world file.mode)) (drop 7 (stages world file.mode)) e (unit_clear world (ItemStage world file.mode) file.scale o.unit (items_clear world file.scale file.mode i)) h)

pub index_first : (file : File) (fault : UploadFault) → IsOpened file → NoneOf (used_ids file.survey) (IsOblique file.exchange) → ((id : ℕ) → IsUnsupported file.exchange file.scale file.mode id → ⊥)
    → IndexStage file.exchange fault → FileFault file.exchange file.mode fault
index_first file fault o a i h = past_items file (errors.Fault fault) o a i (inl h)

-- Of a file that is supported.

past_supported : (file : File) (e : BuildError) → IsSupported file → IsErrorOf (first_fault (drop 8 (stages file.exchange file.mode))) e → IsErrorOf (FileFault file.exchange file.mode) e
past_supported file e s h =
    past_items file e s.opened s.square s.supported
    (pass (IndexStage file.exchange) (drop 8 (stages file.exchange file.mode)) e (indexes_clear file.exchange (used_ids file.survey) s.opened.surveyed.used s.indexed) h)

pub length_first : (file : File) (fault : UploadFault) → IsSupported file → LengthStage file.exchange file.mode file.scale fault → FileFault file.exchange file.mode fault
length_first file fault s h = past_supported file (errors.Fault fault) s (inl (file.scale, s.opened.unit, h))

past_lengths : (file : File) (e : BuildError) → IsSupported file → AreMeasured file.exchange file.scale file.mode (used_ids file.survey)
    → IsErrorOf (first_fault (drop 9 (stages file.exchange file.mode))) e → IsErrorOf (FileFault file.exchange file.mode) e
past_lengths file e s m h =
    let world = file.exchange in
    past_supported file e s
    (pass (InUnit world (LengthStage world file.mode)) (drop 9 (stages world file.mode)) e (unit_clear world (LengthStage world file.mode) file.scale s.opened.unit (measured_clear world file.scale file.mode (used_ids file.survey) s.opened.surveyed.used m)) h)

pub corners_first : (file : File) (fault : UploadFault) → IsSupported file → AreMeasured file.exchange file.scale file.mode (used_ids file.survey) → CornersStage file.exchange fault → FileFault file.exchange file.mode fault
corners_first file fault s m h = past_lengths file (errors.Fault fault) s m (inl h)

-- Of a file that is measured.

past_measured : (file : File) (e : BuildError) → IsMeasured file → IsErrorOf (first_fault (drop 10 (stages file.exchange file.mode))) e → IsErrorOf (FileFault file.exchange file.mode) e
past_measured file e m h =
    past_lengths file e m.supported m.measured
    (pass (CornersStage file.exchange) (drop 10 (stages file.exchange file.mode)) e (corners_clear file.exchange (used_ids file.survey) m.supported.opened.surveyed.used m.few) h)

pub stuck_first : (file : File) (fault : UploadFault) → IsMeasured file → StuckStage file.exchange file.mode file.scale fault → FileFault file.exchange file.mode fault
stuck_first file fault m h = past_measured file (errors.Fault fault) m (inl (file.scale, m.supported.opened.unit, h))

past_stuck : (file : File) (e : BuildError) → IsMeasured file → ((id : ℕ) → IsStuckFace file.exchange file.scale file.mode id → ⊥) → IsErrorOf (first_fault (drop 11 (stages file.exchange file.mode))) e
    → IsErrorOf (FileFault file.exchange file.mode) e
past_stuck file e m n h =
    let world = file.exchange in
    past_measured file e m (pass (InUnit world (StuckStage world file.mode)) (drop 11 (stages world file.mode)) e (unit_clear world (StuckStage world file.mode) file.scale m.supported.opened.unit (stuck_clear world file.scale file.mode n)) h)

pub triangles_first : (file : File) (fault : UploadFault) → IsMeasured file → ((id : ℕ) → IsStuckFace file.exchange file.scale file.mode id → ⊥) → TrianglesStage file.exchange fault → FileFault file.exchange file.mode fault
triangles_first file fault m n h = past_stuck file (errors.Fault fault) m n (inl h)

-- Of a file whose sets are cut.

unstuck : (file : File) (sets : List (ℕ × List Triangle)) → IsMeasured file → IsCut file sets → (id : ℕ) → IsStuckFace file.exchange file.scale file.mode id → ⊥
unstuck file sets m c = sets_unstuck file.exchange file.scale file.mode (used_ids file.survey) sets m.supported.opened.surveyed.used c.cut

pub reach_first : (file : File) (sets : List (ℕ × List Triangle)) (fault : UploadFault) → IsMeasured file → IsCut file sets → ReachStage file.exchange file.mode file.scale fault → FileFault file.exchange file.mode fault
reach_first file sets fault m c h =
    let world = file.exchange in
    past_stuck file (errors.Fault fault) m (unstuck file sets m c)
    (pass (TrianglesStage world) (drop 12 (stages world file.mode)) (errors.Fault fault) (triangles_clear world (element_ids file.survey) m.supported.opened.surveyed.elements c.few) (inl (file.scale, m.supported.opened.unit, h)))

-- a file without a fault
pub none_first : (file : File) (sets : List (ℕ × List Triangle)) → IsMeasured file → IsCut file sets → IsClear (ReachStage file.exchange file.mode file.scale) → IsClear (FileFault file.exchange file.mode)
none_first file sets m c reach =
    let world = file.exchange in
    let mode = file.mode in
    let used = used_ids file.survey in
    let ids = element_ids file.survey in
    let s = m.supported in
    let o = s.opened in
    let reached : AllClear (drop 12 (stages world mode)) = (unit_clear world (ReachStage world mode) file.scale o.unit reach, tt) in
    let counted : AllClear (drop 11 (stages world mode)) = (triangles_clear world ids o.surveyed.elements c.few, reached) in
    let cut : AllClear (drop 10 (stages world mode)) = (unit_clear world (StuckStage world mode) file.scale o.unit (stuck_clear world file.scale mode (unstuck file sets m c)), counted) in
    let faced : AllClear (drop 9 (stages world mode)) = (corners_clear world used o.surveyed.used m.few, cut) in
    let measured : AllClear (drop 8 (stages world mode)) = (unit_clear world (LengthStage world mode) file.scale o.unit (measured_clear world file.scale mode used o.surveyed.used m.measured), faced) in
    let indexed : AllClear (drop 7 (stages world mode)) = (indexes_clear world used o.surveyed.used s.indexed, measured) in
    let supported : AllClear (drop 6 (stages world mode)) = (unit_clear world (ItemStage world mode) file.scale o.unit (items_clear world file.scale mode s.supported), indexed) in
    let square : AllClear (drop 5 (stages world mode)) = (square_clear world used o.surveyed.used s.square, supported) in
    let chained : AllClear (drop 4 (stages world mode)) = (chains_clear world (IsModelElement world) ids file.chains o.surveyed.elements o.has_chains, square) in
    let distinct : AllClear (drop 3 (stages world mode)) = (repeats_clear world (IsModelElement world) ids o.surveyed.elements o.distinct, chained) in
    all_clear (stages world mode) (survey_clear world file.survey o.surveyed, (o.one_unit, (tree_clear world o.tree, distinct)))
