-- The lines of a generated file, each with its line feed.
use Rattle.std.specs.Prelude.{ℕ, ◌+◌, ◌*◌, ◌/◌, ◌%◌, ◌==◌, List, ◌++◌, if◌then◌else◌, codes}
use Rattle.std.specs.Fmt.{decimal}
use Rattle.model_generator.specs.declared.cuboid.Cuboid.{Cuboid}
use Rattle.model_generator.specs.declared.phrases.Phrase.{Phrase}
use Rattle.model_generator.specs.declared.phrases.Phrase.TheVariants.{Points, Set, Closed, Plain}
use Rattle.model_generator.specs.declared.phrases.Phrase.TheVariants.{Shape, Product, Close, Guid}
use Rattle.model_generator.specs.declared.phrases.Phrase.TheVariants.{Named, Placed, Done, Zeros}
use Rattle.model_generator.specs.Phrases.{text_of}

-- the lines before the elements: the header, a project and its unit, the millimetre
unfoldable pub head : List ℕ
head =
    codes "ISO-10303-21;\nHEADER;\nFILE_DESCRIPTION((''),'2;1');\n"
    ++ codes "FILE_NAME('a.ifc','2024-05-01T12:00:00',(''),(''),'','','');\n"
    ++ codes "FILE_SCHEMA(('IFC4'));\nENDSEC;\nDATA;\n"
    ++ codes "#1=IFCPROJECT('0000000000000000000001',$,'P',$,$,$,$,(),#2);\n"
    ++ codes "#2=IFCUNITASSIGNMENT((#3));\n#3=IFCSIUNIT(*,.LENGTHUNIT.,.MILLI.,.METRE.);\n"

-- the lines after them
unfoldable pub end : List ℕ
end = codes "ENDSEC;\nEND-ISO-10303-21;\n"

-- a whole number in decimal
unfoldable pub whole : ℕ → List ℕ
whole number = decimal number

-- a point: three whole numbers of millimetres
abbrev pub corner : ℕ → ℕ → ℕ → List ℕ
corner x y z =
    (codes "(" ++ (whole x ++ codes ".,")) ++ ((whole y ++ codes ".,") ++ (whole z ++ codes ".)"))

-- the two corners of an edge of a cuboid along x
abbrev pub edge : Cuboid → ℕ → ℕ → List ℕ
edge cuboid y z = corner cuboid.x y z ++ (codes "," ++ corner (cuboid.x + cuboid.width) y z)

-- its four corners at a height
abbrev pub corners_at : Cuboid → ℕ → List ℕ
corners_at cuboid z = edge cuboid cuboid.y z ++ (codes "," ++ edge cuboid (cuboid.y + cuboid.depth) z)

-- its eight corners, the low ones first
abbrev pub corners : Cuboid → List ℕ
corners cuboid = corners_at cuboid cuboid.z ++ (codes "," ++ corners_at cuboid (cuboid.z + cuboid.height))

-- two triangles for each side
unfoldable pub triples : List ℕ
triples =
    codes "(1,3,2),(2,3,4),(5,6,7),(6,8,7),(1,2,5),(2,6,5),(3,7,4),(4,7,8),(1,5,3),(3,5,7),(2,4,6),(4,8,6)"

-- beams and pieces of pipe take turns
unfoldable pub class_of : ℕ → List ℕ
class_of place = if place % 2 == 0 then codes "IFCBEAM" else codes "IFCPIPESEGMENT"

-- the identifier of a number below 100,000: seventeen zeros and its digits down to the thousands
abbrev pub guid_front : ℕ → List ℕ
guid_front number = text_of Zeros ++ (whole (number / 10000) ++ whole (number / 1000 % 10))

-- and its last three digits
abbrev pub guid_back : ℕ → List ℕ
guid_back number = whole (number / 100 % 10) ++ (whole (number / 10 % 10) ++ whole (number % 10))

-- the identifier of an element
abbrev pub guid_of : ℕ → List ℕ
guid_of number = guid_front number ++ guid_back number

-- `#` and the number of an instance
abbrev pub name : ℕ → List ℕ
name id = codes "#" ++ whole id

-- the front of a line: its instance, a phrase and the instance that it names
abbrev pub front_of : ℕ → Phrase → ℕ → List ℕ
front_of id phrase named = name id ++ (text_of phrase ++ name named)

-- a line that names one instance and nothing else
abbrev pub line_of : ℕ → Phrase → ℕ → List ℕ
line_of id phrase named = front_of id phrase named ++ text_of Close

-- the lines of an element, whose first instance has the number k: its corners
abbrev pub points_line : ℕ → Cuboid → List ℕ
points_line k cuboid = (name k ++ text_of Points) ++ (corners cuboid ++ text_of Close)

-- what ends the line of a set of triangles
abbrev pub set_back : List ℕ
set_back = text_of Closed ++ (triples ++ text_of Plain)

-- its triangles, which close
abbrev pub set_line : ℕ → List ℕ
set_line k = front_of (k + 1) Set k ++ set_back

-- its surface
abbrev pub surface_lines : ℕ → Cuboid → List ℕ
surface_lines k cuboid = points_line k cuboid ++ set_line k

-- the representation that the surface is, and the shape of the element
abbrev pub shape_lines : ℕ → List ℕ
shape_lines k = line_of (k + 2) Shape (k + 1) ++ line_of (k + 3) Product (k + 2)

-- the identifier of the element of a place, and its name, which is the same; identifiers count from 1
abbrev pub named : ℕ → List ℕ
named place = (text_of Guid ++ (guid_of (place + 1) ++ text_of Named)) ++ guid_of (place + 1)

-- the element of a place
abbrev pub subject_front : ℕ → ℕ → List ℕ
subject_front k place = name (k + 4) ++ (codes "=" ++ class_of place)

-- what ends the line of an element
abbrev pub subject_back : ℕ → List ℕ
subject_back k = text_of Placed ++ (name (k + 3) ++ text_of Done)

-- the line of an element
abbrev pub subject_line : ℕ → ℕ → List ℕ
subject_line k place = subject_front k place ++ (named place ++ subject_back k)

-- the lines of the element of a place, from 0
abbrev pub element_lines : ℕ → Cuboid → List ℕ
element_lines place cuboid =
    surface_lines (10 + 5 * place) cuboid
    ++ (shape_lines (10 + 5 * place) ++ subject_line (10 + 5 * place) place)
