-- The keywords of the entities that are followed (IFC4 ADD2 TC1).
use Rattle.std.specs.Prelude.{ℕ, Bool, List, [], ◌∷◌, Option, codes}
use Rattle.std.specs.List.{list_any, find}
use Rattle.std.specs.Str.{bytes_eq}
use Rattle.ifc_instances.specs.declared.entity.Entity.{Entity}
use Rattle.ifc_instances.specs.declared.entity.Entity.TheVariants.{Project, UnitAssignment, SiUnit, Storey, Aggregates, Containment, ProductShape, Representation, Placement, AxisPlacement, Point, Direction, PointList, TriangulatedFaceSet, PolygonalFaceSet, Face, FaceWithVoids, MappedItem, RepresentationMap, Operator, ConvertedUnit, Measure, Subject}

-- building elements and distribution elements
unfoldable pub subjects : List (List ℕ)
subjects =
    codes "IFCBEAM" ∷
    codes "IFCBEAMSTANDARDCASE" ∷
    codes "IFCBUILDINGELEMENTPROXY" ∷
    codes "IFCCHIMNEY" ∷
    codes "IFCCOLUMN" ∷
    codes "IFCCOLUMNSTANDARDCASE" ∷
    codes "IFCCOVERING" ∷
    codes "IFCCURTAINWALL" ∷
    codes "IFCDOOR" ∷
    codes "IFCDOORSTANDARDCASE" ∷
    codes "IFCELEMENTASSEMBLY" ∷
    codes "IFCFOOTING" ∷
    codes "IFCFURNISHINGELEMENT" ∷
    codes "IFCFURNITURE" ∷
    codes "IFCMEMBER" ∷
    codes "IFCMEMBERSTANDARDCASE" ∷
    codes "IFCPILE" ∷
    codes "IFCPLATE" ∷
    codes "IFCPLATESTANDARDCASE" ∷
    codes "IFCRAILING" ∷
    codes "IFCRAMP" ∷
    codes "IFCRAMPFLIGHT" ∷
    codes "IFCROOF" ∷
    codes "IFCSHADINGDEVICE" ∷
    codes "IFCSLAB" ∷
    codes "IFCSLABSTANDARDCASE" ∷
    codes "IFCSTAIR" ∷
    codes "IFCSTAIRFLIGHT" ∷
    codes "IFCTRANSPORTELEMENT" ∷
    codes "IFCWALL" ∷
    codes "IFCWALLSTANDARDCASE" ∷
    codes "IFCWINDOW" ∷
    codes "IFCWINDOWSTANDARDCASE" ∷
    codes "IFCDISTRIBUTIONELEMENT" ∷
    codes "IFCDISTRIBUTIONFLOWELEMENT" ∷
    codes "IFCFLOWSEGMENT" ∷
    codes "IFCFLOWFITTING" ∷
    codes "IFCFLOWTERMINAL" ∷
    codes "IFCFLOWCONTROLLER" ∷
    codes "IFCPIPESEGMENT" ∷
    codes "IFCPIPEFITTING" ∷
    codes "IFCDUCTSEGMENT" ∷
    codes "IFCDUCTFITTING" ∷
    codes "IFCCABLESEGMENT" ∷
    codes "IFCCABLECARRIERSEGMENT" ∷
    codes "IFCVALVE" ∷
    codes "IFCPUMP" ∷
    codes "IFCFAN" ∷
    codes "IFCBOILER" ∷
    codes "IFCTANK" ∷
    codes "IFCAIRTERMINAL" ∷
    codes "IFCDAMPER" ∷
    codes "IFCLIGHTFIXTURE" ∷
    codes "IFCOUTLET" ∷
    codes "IFCSANITARYTERMINAL" ∷ []

-- the keywords of an entity and of its kinds
abbrev pub keywords_of : Entity → List (List ℕ)
keywords_of Project = codes "IFCPROJECT" ∷ []
keywords_of UnitAssignment = codes "IFCUNITASSIGNMENT" ∷ []
keywords_of SiUnit = codes "IFCSIUNIT" ∷ []
keywords_of Storey = codes "IFCBUILDINGSTOREY" ∷ []
keywords_of Aggregates = codes "IFCRELAGGREGATES" ∷ []
keywords_of Containment = codes "IFCRELCONTAINEDINSPATIALSTRUCTURE" ∷ []
keywords_of ProductShape = codes "IFCPRODUCTDEFINITIONSHAPE" ∷ []
keywords_of Representation = codes "IFCSHAPEREPRESENTATION" ∷ []
keywords_of Placement = codes "IFCLOCALPLACEMENT" ∷ []
keywords_of AxisPlacement = codes "IFCAXIS2PLACEMENT3D" ∷ []
keywords_of Point = codes "IFCCARTESIANPOINT" ∷ []
keywords_of Direction = codes "IFCDIRECTION" ∷ []
keywords_of PointList = codes "IFCCARTESIANPOINTLIST3D" ∷ []
keywords_of TriangulatedFaceSet = codes "IFCTRIANGULATEDFACESET" ∷ []
keywords_of PolygonalFaceSet = codes "IFCPOLYGONALFACESET" ∷ []
keywords_of Face = codes "IFCINDEXEDPOLYGONALFACE" ∷ []
keywords_of FaceWithVoids = codes "IFCINDEXEDPOLYGONALFACEWITHVOIDS" ∷ []
keywords_of MappedItem = codes "IFCMAPPEDITEM" ∷ []
keywords_of RepresentationMap = codes "IFCREPRESENTATIONMAP" ∷ []
keywords_of Operator = codes "IFCCARTESIANTRANSFORMATIONOPERATOR3D" ∷ []
keywords_of ConvertedUnit = codes "IFCCONVERSIONBASEDUNIT" ∷ []
keywords_of Measure = codes "IFCMEASUREWITHUNIT" ∷ []
keywords_of Subject = subjects

-- a keyword is one of the entity's
unfoldable pub is_of : Entity → List ℕ → Bool
is_of entity keyword = list_any (bytes_eq keyword) (keywords_of entity)

-- all entities; no two of them share a keyword
abbrev pub entities : List Entity
entities =
    Face ∷ FaceWithVoids ∷ Point ∷ Direction ∷ PointList ∷ TriangulatedFaceSet ∷ PolygonalFaceSet
    ∷ AxisPlacement ∷ Placement ∷ Representation ∷ ProductShape ∷ MappedItem ∷ RepresentationMap ∷ Operator
    ∷ Containment ∷ Aggregates ∷ Storey ∷ Project ∷ UnitAssignment ∷ SiUnit
    ∷ ConvertedUnit ∷ Measure ∷ Subject ∷ []

-- the entity of a keyword
unfoldable pub entity_of : List ℕ → Option Entity
entity_of keyword = find (λ entity. is_of entity keyword) entities
