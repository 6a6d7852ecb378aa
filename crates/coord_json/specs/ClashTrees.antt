-- Clashes of a version as JSON data.
use Rattle.std.specs.Prelude.{ℕ, List, [], ◌∷◌, length, take, drop, Option, Some, None, codes}
use Rattle.serde_json.specs.Data.{Data, string, array, object, Items, no_items, item, member, no_members}
use Rattle.bim_model.specs.Snapshots.{Version}
use Rattle.bucket_check.specs.declared.pair.SetPair.{SetPair}
use Rattle.bucket_check.specs.Clashes.{clashes}
use Rattle.clash_publish.specs.Listed.{element_of, distance_at}
use Rattle.coord_json.specs.RuleTrees.{count_tree}

-- an element by its identifier and the name of its model
unfoldable pub side_tree : List ℕ → List ℕ → Data
side_tree guid model =
    object (member (codes "guid") (string guid) (member (codes "model") (string model) no_members))

-- the element of a version that has this number
abbrev pub element_side : Version → ℕ → Data
element_side version number =
    side_tree (element_of version number).element.guid.chars (element_of version number).name

-- two elements that clash, the distance in millimetres that their rule asks for, and the rule's number, from 0
unfoldable pub near_tree : Data → Data → ℕ → ℕ → Data
near_tree a b distance rule =
    object (member (codes "a") a
    (member (codes "b") b
    (member (codes "distance") (count_tree distance)
    (member (codes "rule") (count_tree rule) no_members))))

-- two elements that clash under a rule without a distance, and the rule's number, from 0
unfoldable pub pierced_tree : Data → Data → ℕ → Data
pierced_tree a b rule =
    object (member (codes "a") a (member (codes "b") b (member (codes "rule") (count_tree rule) no_members)))

-- two elements that clash, by the distance of their rule, if it has one, and its number
abbrev pub pair_tree : Data → Data → Option ℕ → ℕ → Data
pair_tree a b (Some distance) rule = near_tree a b distance rule
pair_tree a b None rule = pierced_tree a b rule

-- a clash of a version
abbrev pub clash_data : Version → SetPair → Data
clash_data version p =
    pair_tree (element_side version p.a) (element_side version p.b) (distance_at version.rules p.rule) p.rule

-- clashes of a version, one after another
abbrev pub pair_items : Version → List SetPair → Items
pair_items version [] = no_items
pair_items version (p ∷ ps) = item (clash_data version p) (pair_items version ps)

-- a part of a list of clashes: the place of its first, how many there are in all, and the version's number
unfoldable pub part_tree : Items → ℕ → ℕ → ℕ → Data
part_tree pairs first total number =
    object (member (codes "clashes") (array pairs)
    (member (codes "first") (count_tree first)
    (member (codes "total") (count_tree total)
    (member (codes "version") (count_tree number) no_members))))

-- of all clashes of a version at most so many, from a place on
abbrev pub clashes_tree : ℕ → Version → ℕ → ℕ → Data
clashes_tree number version first count =
    part_tree (pair_items version (take count (drop first (clashes version)))) first
    (length (clashes version))
    number

-- so many buckets of a version are still to be checked
unfoldable pub pending_tree : ℕ → ℕ → Data
pending_tree left number =
    object (member (codes "left") (count_tree left) (member (codes "version") (count_tree number) no_members))
