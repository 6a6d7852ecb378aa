-- Versions, and what uploads answer, as JSON data.
use Rattle.std.specs.Prelude.{◌≡◌, ℕ, ℤ, List, [], ◌∷◌, length, codes}
use Rattle.serde_json.specs.Data.{Data, number, string, array, object, Items, no_items, item, member, no_members}
use Rattle.serde_json.specs.Find.{of_integer}
use Rattle.bim_model.specs.declared.geometry.TheConstants.{PER_MM}
use Rattle.bim_model.specs.Boxes.{IsExtentOf}
use Rattle.bim_model.specs.Snapshots.{Version}
use Rattle.coord_json.specs.RuleTrees.{count_tree, storey_tree, rule_items}
use Rattle.bim_model.specs.declared.geometry.Extent.{Extent}
use Rattle.bim_model.specs.declared.element.Element.{Element}
use Rattle.bim_model.specs.declared.named_model.NamedModel.{NamedModel}

-- a length in grid numbers
abbrev pub length_tree : ℤ → Data
length_tree z = number (of_integer z)

-- a box by its lowest and its highest corner, in grid numbers
abbrev pub box_tree : Extent → Data
box_tree e =
    array (item (length_tree e.low.x) (item (length_tree e.low.y) (item (length_tree e.low.z)
    (item (length_tree e.high.x) (item (length_tree e.high.y) (item (length_tree e.high.z) no_items))))))

-- an element by its parts, with the number of its triangles
unfoldable pub element_tree : Data → List ℕ → List ℕ → List ℕ → Data → ℕ → Data
element_tree box class guid name storey triangles =
    object (member (codes "box") box
    (member (codes "class") (string class)
    (member (codes "guid") (string guid)
    (member (codes "name") (string name)
    (member (codes "storey") storey
    (member (codes "triangles") (count_tree triangles) no_members))))))

-- an element: the smallest box round its triangles, and how many these are
abbrev pub IsElementTree : Element → Data → Type 0
IsElementTree e tree =
    (extent : Extent) × IsExtentOf e.triangles extent
    × (tree
    ≡ element_tree (box_tree extent) e.class e.guid.chars e.name (storey_tree e.storey) (length e.triangles))

-- elements, one after another
abbrev pub AreElementTrees : List Element → Items → Type 0
AreElementTrees [] no_items = Unit {0}
AreElementTrees [] (item d ds) = ⊥
AreElementTrees (e ∷ es) no_items = ⊥
AreElementTrees (e ∷ es) (item d ds) = IsElementTree e d × AreElementTrees es ds

-- a model by its elements and its name
unfoldable pub model_tree : Items → List ℕ → Data
model_tree elements name =
    object (member (codes "elements") (array elements) (member (codes "name") (string name) no_members))

-- a model under its name
abbrev pub IsModelTree : NamedModel → Data → Type 0
IsModelTree m tree =
    (elements : Items) × AreElementTrees m.model elements × (tree ≡ model_tree elements m.name)

-- models, one after another
abbrev pub AreModelTrees : List NamedModel → Items → Type 0
AreModelTrees [] no_items = Unit {0}
AreModelTrees [] (item d ds) = ⊥
AreModelTrees (m ∷ ms) no_items = ⊥
AreModelTrees (m ∷ ms) (item d ds) = IsModelTree m d × AreModelTrees ms ds

-- a version by its models, the number of the newest one, its rules and its number; lengths are in grid numbers,
-- of which `per_mm` are a millimetre
unfoldable pub version_tree : Items → ℕ → Items → ℕ → Data
version_tree models newest rules version =
    object (member (codes "models") (array models)
    (member (codes "newest") (count_tree newest)
    (member (codes "per_mm") (length_tree PER_MM)
    (member (codes "rules") (array rules)
    (member (codes "version") (count_tree version) no_members)))))

-- a version with its models and its rules
abbrev pub IsVersionTree : ℕ → ℕ → Version → Data → Type 0
IsVersionTree version newest snapshot tree =
    (trees : Items) × AreModelTrees snapshot.models trees
    × (tree ≡ version_tree trees newest (rule_items snapshot.rules) version)

-- what an upload made
unfoldable pub changed_tree : ℕ → ℕ → ℕ → ℕ → Data
changed_tree version elements triangles left =
    object (member (codes "elements") (count_tree elements)
    (member (codes "left") (count_tree left)
    (member (codes "triangles") (count_tree triangles)
    (member (codes "version") (count_tree version) no_members))))
