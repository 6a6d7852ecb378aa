-- The stages of the faults that a file's instances may have, and their order.
use Rattle.std.specs.Prelude.{◌≡◌, ℕ, ◌<◌, ◌⊎◌, true, List, [], ◌∷◌}
use Rattle.bim_model.specs.declared.upload.Mode.{Mode}
use Rattle.bim_model.specs.declared.upload.Many.TheVariants as many
use Rattle.bim_model.specs.declared.upload.UploadFault.{UploadFault}
use Rattle.bim_model.specs.declared.upload.UploadFault.TheVariants as faults
use Rattle.p21_values.specs.declared.value.Instance.{Instance}
use Rattle.ifc_instances.specs.declared.entity.Entity.{Entity}
use Rattle.ifc_instances.specs.EntityLookup.{is_a}
use Rattle.ifc_schema.specs.Used.{Used}
use Rattle.ifc_schema.specs.Surveys.{SurveyFault, IsModelElement}
use Rattle.ifc_units.specs.declared.scale.Scale.{Scale}
use Rattle.ifc_units.specs.Units.{IsLengthUnit, LengthUnitFault}
use Rattle.spatial_tree.specs.Trees.{LeastTreeFault}
use Rattle.placement.specs.Chains.{NeverEnds}
use Rattle.ifc_elements.specs.Finding.{Finds}
use Rattle.ifc_elements.specs.Surfaces.{IsBeyond}
use Rattle.model_build.specs.StageFaults.{Stage, first_fault, LeastFault}
use Rattle.model_build.specs.DuplicateGuids.{GuidFault}
use Rattle.model_build.specs.NamedPlacements.{IsNamed}
use Rattle.model_build.specs.FaultyInstances.{IsBadSet, IsOblique}
use Rattle.model_build.specs.Unsupported.{IsUnsupported}
use Rattle.model_build.specs.LengthFaults.{LengthFault}
use Rattle.model_build.specs.Faces.{HasManyCorners, IsStuckFace, IsUnbridgedFace}
use Rattle.model_build.specs.Triangles.{HasTriangles, most_triangles}

-- a reference that leads nowhere, or an attribute without the form of its row, of the least instance that is used and has one
abbrev pub FormStage : List Instance → Stage
FormStage world = SurveyFault world

-- not exactly one length unit
abbrev pub UnitStage : List Instance → Stage
UnitStage world = LengthUnitFault world

-- the least object for which the relations make no tree
abbrev pub TreeStage : List Instance → Stage
TreeStage world = LeastTreeFault world

-- an element whose identifier another one has
abbrev pub TwiceStage : List Instance → Stage
TwiceStage world = LeastFault (IsModelElement world) (GuidFault world (IsModelElement world))

-- the placements from this number on never end
abbrev pub LoopFault : List Instance → ℕ → UploadFault → Type 0
LoopFault world id fault = (fault ≡ faults.PlacementLoop id) × NeverEnds world id

-- a placement of an element that never ends
abbrev pub LoopStage : List Instance → Stage
LoopStage world = LeastFault (IsNamed world (IsModelElement world)) (LoopFault world)

-- an axis placement or an operator without axes along the grid's
abbrev pub ObliqueStage : List Instance → Stage
ObliqueStage world = LeastFault (Used world) (λ id fault. (fault ≡ faults.Oblique id) × IsOblique world id)

-- an item that the profile doesn't support
abbrev pub ItemStage : List Instance → Mode → Scale → Stage
ItemStage world mode scale = LeastFault (IsUnsupported world scale mode)
    (λ id fault. fault ≡ faults.UnsupportedItem id)

-- an instance of that entity that is used
abbrev pub IsUsed : Entity → List Instance → ℕ → Type 0
IsUsed entity world id = Used world id × Finds world id (λ i. is_a entity i ≡ true)

-- a used set with a bad index
abbrev pub IndexStage : List Instance → Stage
IndexStage world = LeastFault (Used world) (λ id fault. (fault ≡ faults.BadIndex id) × IsBadSet world id)

-- a length that is refused
abbrev pub LengthStage : List Instance → Mode → Scale → Stage
LengthStage world mode scale = LeastFault (Used world) (LengthFault world scale mode)

-- a face that is used has more than a thousand corners in all its loops
abbrev pub CornersStage : List Instance → Stage
CornersStage world fault = (fault ≡ faults.TooMany many.Corners) × (id : ℕ) × Used world id
    × Finds world id HasManyCorners

-- the fault of a face that can't be cut: with the points of a set its loops can't be joined, or else they can with all
abbrev pub StuckFault : List Instance → Mode → Scale → ℕ → UploadFault → Type 0
StuckFault world mode scale id fault =
    (IsUnbridgedFace world scale mode id × (fault ≡ faults.VoidedFace id))
    ⊎ ((IsUnbridgedFace world scale mode id → ⊥) × (fault ≡ faults.FaceStuck id))

-- a face that can't be cut
abbrev pub StuckStage : List Instance → Mode → Scale → Stage
StuckStage world mode scale = LeastFault (IsStuckFace world scale mode) (StuckFault world mode scale)

-- there are too many triangles
abbrev pub TrianglesStage : List Instance → Stage
TrianglesStage world fault = (fault ≡ faults.TooMany many.Triangles) × (count : ℕ) × HasTriangles world count
    × (most_triangles < count)

-- the element of this number lies too far out
abbrev pub ReachFault : List Instance → Mode → Scale → ℕ → UploadFault → Type 0
ReachFault world mode scale id fault = (fault ≡ faults.TooFar id) × Finds world id (IsBeyond world scale mode)

-- an element that lies too far out
abbrev pub ReachStage : List Instance → Mode → Scale → Stage
ReachStage world mode scale = LeastFault (IsModelElement world) (ReachFault world mode scale)

-- a stage that reads lengths, in the unit of the file
abbrev pub InUnit : List Instance → (Scale → Stage) → Stage
InUnit world S fault = (scale : Scale) × IsLengthUnit world scale × S scale fault

-- The stages in the order of the table of faults.
abbrev pub stages : List Instance → Mode → List Stage
stages world mode =
    -- U6, U7: a reference that leads nowhere, or an attribute without its form
    FormStage world ∷
    -- U8: not exactly one project with exactly one length unit
    UnitStage world ∷
    -- U18: an object with two containers or two wholes, or on a way up that comes back to it
    TreeStage world ∷
    -- U17: an element with the global identifier of one of lower number
    TwiceStage world ∷
    -- U12: a placement, named by an element, whose chain never ends
    LoopStage world ∷
    -- U11: an axis placement or an operator without axes along the grid's
    ObliqueStage world ∷
    -- U13: an item that isn't read, or is mapped in a way that isn't
    InUnit world (ItemStage world mode) ∷
    -- U14: a set of which an index counts nothing
    IndexStage world ∷
    -- U9, U10: a point or a list of points with a number between two of the grid, or too far
    InUnit world (LengthStage world mode) ∷
    -- U19: a face with too many corners
    CornersStage world ∷
    -- U16, U15: a face whose loops can't be joined, or whose polygon can't be cut
    InUnit world (StuckStage world mode) ∷
    -- U19: too many triangles
    TrianglesStage world ∷
    -- U10: an element with a corner too far from zero in the building
    InUnit world (ReachStage world mode) ∷ []

-- the fault of the file's instances
abbrev pub FileFault : List Instance → Mode → Stage
FileFault world mode = first_fault (stages world mode)
