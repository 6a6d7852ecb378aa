-- The keywords of the entities that are followed, each with a number (IFC4 ADD2 TC1).
use Rattle.std.specs.Prelude.{ℕ, ◌+◌, ◌*◌, ◌-◌, ◌/◌, ◌%◌, List, [], ◌∷◌, Option, Some, None, length, slice_index_or, cond, codes}
use Rattle.std.specs.Str.{bytes_eq}

-- in the order of their numbers
unfoldable pub known : List (List ℕ)
known =
    codes "IFCPROJECT" ∷
    codes "IFCUNITASSIGNMENT" ∷
    codes "IFCSIUNIT" ∷
    codes "IFCBUILDINGSTOREY" ∷
    codes "IFCRELAGGREGATES" ∷
    codes "IFCRELCONTAINEDINSPATIALSTRUCTURE" ∷
    codes "IFCPRODUCTDEFINITIONSHAPE" ∷
    codes "IFCSHAPEREPRESENTATION" ∷
    codes "IFCLOCALPLACEMENT" ∷
    codes "IFCAXIS2PLACEMENT3D" ∷
    codes "IFCCARTESIANPOINT" ∷
    codes "IFCDIRECTION" ∷
    codes "IFCCARTESIANPOINTLIST3D" ∷
    codes "IFCTRIANGULATEDFACESET" ∷
    codes "IFCPOLYGONALFACESET" ∷
    codes "IFCINDEXEDPOLYGONALFACE" ∷
    codes "IFCINDEXEDPOLYGONALFACEWITHVOIDS" ∷
    codes "IFCMAPPEDITEM" ∷
    codes "IFCREPRESENTATIONMAP" ∷
    codes "IFCCARTESIANTRANSFORMATIONOPERATOR3D" ∷
    codes "IFCCONVERSIONBASEDUNIT" ∷
    codes "IFCMEASUREWITHUNIT" ∷
    codes "IFCBEAM" ∷
    codes "IFCBEAMSTANDARDCASE" ∷
    codes "IFCBUILDINGELEMENTPROXY" ∷
    codes "IFCCHIMNEY" ∷
    codes "IFCCOLUMN" ∷
    codes "IFCCOLUMNSTANDARDCASE" ∷
    codes "IFCCOVERING" ∷
    codes "IFCCURTAINWALL" ∷
    codes "IFCDOOR" ∷
    codes "IFCDOORSTANDARDCASE" ∷
    codes "IFCELEMENTASSEMBLY" ∷
    codes "IFCFOOTING" ∷
    codes "IFCFURNISHINGELEMENT" ∷
    codes "IFCFURNITURE" ∷
    codes "IFCMEMBER" ∷
    codes "IFCMEMBERSTANDARDCASE" ∷
    codes "IFCPILE" ∷
    codes "IFCPLATE" ∷
    codes "IFCPLATESTANDARDCASE" ∷
    codes "IFCRAILING" ∷
    codes "IFCRAMP" ∷
    codes "IFCRAMPFLIGHT" ∷
    codes "IFCROOF" ∷
    codes "IFCSHADINGDEVICE" ∷
    codes "IFCSLAB" ∷
    codes "IFCSLABSTANDARDCASE" ∷
    codes "IFCSTAIR" ∷
    codes "IFCSTAIRFLIGHT" ∷
    codes "IFCTRANSPORTELEMENT" ∷
    codes "IFCWALL" ∷
    codes "IFCWALLSTANDARDCASE" ∷
    codes "IFCWINDOW" ∷
    codes "IFCWINDOWSTANDARDCASE" ∷
    codes "IFCDISTRIBUTIONELEMENT" ∷
    codes "IFCDISTRIBUTIONFLOWELEMENT" ∷
    codes "IFCFLOWSEGMENT" ∷
    codes "IFCFLOWFITTING" ∷
    codes "IFCFLOWTERMINAL" ∷
    codes "IFCFLOWCONTROLLER" ∷
    codes "IFCPIPESEGMENT" ∷
    codes "IFCPIPEFITTING" ∷
    codes "IFCDUCTSEGMENT" ∷
    codes "IFCDUCTFITTING" ∷
    codes "IFCCABLESEGMENT" ∷
    codes "IFCCABLECARRIERSEGMENT" ∷
    codes "IFCVALVE" ∷
    codes "IFCPUMP" ∷
    codes "IFCFAN" ∷
    codes "IFCBOILER" ∷
    codes "IFCTANK" ∷
    codes "IFCAIRTERMINAL" ∷
    codes "IFCDAMPER" ∷
    codes "IFCLIGHTFIXTURE" ∷
    codes "IFCOUTLET" ∷
    codes "IFCSANITARYTERMINAL" ∷ []

-- the number of a keyword among these, which are numbered from there on; 255 of another
abbrev pub code_among : ℕ → List (List ℕ) → List ℕ → ℕ
code_among n [] k = 255
code_among n (w ∷ ws) k = cond (bytes_eq k w) n (code_among (n + 1) ws k)

-- the number of a keyword; 255 of one that isn't known
unfoldable pub code_of : List ℕ → ℕ
code_of k = code_among 0 known k

-- the number of an instance's keyword; 255 of a complex instance
abbrev pub code_at : Option (List ℕ) → ℕ
code_at None = 255
code_at (Some k) = code_of k

-- what the table of keywords is asked by
unfoldable pub hash_of : List ℕ → ℕ
hash_of k =
    (4 * length k + 46 * slice_index_or k 3 0 + 56 * slice_index_or k (length k / 2) 0
    + 43 * slice_index_or k (length k - 1) 0) % 512
