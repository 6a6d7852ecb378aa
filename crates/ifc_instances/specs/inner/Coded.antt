-- The entities by the numbers of their keywords.
use Rattle.std.specs.Prelude.{ℕ, ◌==◌, ◌&&◌, nat_lt, nat_le, Bool, if◌then◌else◌, List, [], ◌∷◌, Option, Some, None}
use Rattle.std.specs.List.{slice_get}
use Rattle.ifc_keywords.specs.declared.known_words.TheConstants.{FIRST_ELEMENT, KEYWORDS}
use Rattle.ifc_instances.specs.declared.entity.Entity.{Entity}
use Rattle.ifc_instances.specs.declared.entity.Entity.TheVariants.{Project, UnitAssignment, SiUnit, Storey, Aggregates, Containment, ProductShape, Representation, Placement, AxisPlacement, Point, Direction, PointList, TriangulatedFaceSet, PolygonalFaceSet, Face, FaceWithVoids, MappedItem, RepresentationMap, Operator, ConvertedUnit, Measure, Subject}

-- a number is that of one of the entity's keywords
unfoldable pub has_code : Entity → ℕ → Bool
has_code Project code = code == 0
has_code UnitAssignment code = code == 1
has_code SiUnit code = code == 2
has_code Storey code = code == 3
has_code Aggregates code = code == 4
has_code Containment code = code == 5
has_code ProductShape code = code == 6
has_code Representation code = code == 7
has_code Placement code = code == 8
has_code AxisPlacement code = code == 9
has_code Point code = code == 10
has_code Direction code = code == 11
has_code PointList code = code == 12
has_code TriangulatedFaceSet code = code == 13
has_code PolygonalFaceSet code = code == 14
has_code Face code = code == 15
has_code FaceWithVoids code = code == 16
has_code MappedItem code = code == 17
has_code RepresentationMap code = code == 18
has_code Operator code = code == 19
has_code ConvertedUnit code = code == 20
has_code Measure code = code == 21
has_code Subject code = nat_le FIRST_ELEMENT code && nat_lt code KEYWORDS

-- those of one keyword, in the order of their numbers
abbrev pub coded : List Entity
coded =
    Project ∷ UnitAssignment ∷ SiUnit ∷ Storey ∷ Aggregates ∷ Containment ∷ ProductShape
    ∷ Representation ∷ Placement ∷ AxisPlacement ∷ Point ∷ Direction ∷ PointList
    ∷ TriangulatedFaceSet ∷ PolygonalFaceSet ∷ Face ∷ FaceWithVoids ∷ MappedItem ∷ RepresentationMap
    ∷ Operator ∷ ConvertedUnit ∷ Measure ∷ []

-- the entity that has a number
unfoldable pub by_code : ℕ → Option Entity
by_code code =
    if nat_lt code FIRST_ELEMENT then slice_get coded code
    else (if nat_lt code KEYWORDS then Some Subject else None)
