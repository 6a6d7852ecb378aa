-- The clashes of a version, and the part of them that a cell owns.
--
-- An element of a version is spoken of by its number: its place in the list of all elements by rising key. So
-- of two elements the one with the lower number has the lower key.
use Rattle.std.specs.Prelude.{ℕ, ◌<◌, ◌⊎◌, ◌≡◌, nat_lt, Bool, ◌&&◌, cond, List, [], ◌∷◌, length, filter, Option, Some, None}
use Rattle.std.specs.List.{flat_map}
use Rattle.std.specs.Ordering.{int_eq}
use Rattle.std.specs.Str.{bytes_eq}
use Rattle.bim_model.specs.declared.geometry.Extent.{Extent}
use Rattle.bim_model.specs.declared.element.Element.{Element}
use Rattle.bim_model.specs.declared.rules.Rule.{Rule}
use Rattle.bim_model.specs.declared.rules.Meeting.{Meeting}
use Rattle.bim_model.specs.declared.rules.Meeting.TheVariants.{Within, Through}
use Rattle.bim_model.specs.declared.rules.Found.{Found}
use Rattle.bim_model.specs.Distances.{in_grid_numbers}
use Rattle.bim_model.specs.Rules.{rule_of}
use Rattle.bim_model.specs.Snapshots.{Version}
use Rattle.bim_model.specs.Keys.{Subject, subjects_of}
use Rattle.clearance.specs.Decided.{is_near}
use Rattle.tri_pierce.specs.PiercingSigns.{is_piercing}
use Rattle.bucket_grid.specs.declared.cell.Cell.{Cell}
use Rattle.bucket_grid.specs.Cells.{owner_of}
use Rattle.bucket_grid.specs.Subjects.{subject_at}
use Rattle.box_lanes.specs.BoxPlaces.{box_at}
use Rattle.bucket_grid.specs.BucketTable.{upto}
use Rattle.bucket_check.specs.declared.pair.SetPair.{SetPair}

-- the rule of two elements of a version, which are of one model where the names of their models agree
abbrev pub rule_between : List Rule → Subject → Subject → Option Found
rule_between rules a b = rule_of rules a.element b.element (bytes_eq a.name b.name)

-- two elements meet in that way: their surfaces come within a distance in millimetres, or they pierce
abbrev pub meet_by : Meeting → ℕ → Element → Element → Bool
meet_by Within distance a b = is_near a b (in_grid_numbers distance)
meet_by Through distance a b = is_piercing a b

-- the number of a rule that decides for two elements, where they meet as it asks
abbrev pub clash_by : Option Found → Element → Element → Option ℕ
clash_by None a b = None
clash_by (Some found) a b = cond (meet_by found.meeting found.distance a b) (Some found.rule) None

-- the rule by which two elements clash: their rule, where they meet as it asks
abbrev pub clash_of : List Rule → Subject → Subject → Option ℕ
clash_of rules a b = clash_by (rule_between rules a b) a.element b.element

-- two numbers with their rule, if they have one
abbrev pub pair_if : ℕ → ℕ → Option ℕ → List SetPair
pair_if a b None = []
pair_if a b (Some rule) = record { a = a; b = b; rule = rule } ∷ []

-- a number with each later one below n with which it has a rule, by rising second number
abbrev pub row_by : ℕ → (ℕ → ℕ → Option ℕ) → ℕ → List SetPair
row_by n rule a = flat_map (λ b. cond (nat_lt a b) (pair_if a b (rule a b)) []) (upto n)

-- of the numbers below n each two that have a rule, the lower first, by rising first and then second number
abbrev pub pairs_by : ℕ → (ℕ → ℕ → Option ℕ) → List SetPair
pairs_by n rule = flat_map (row_by n rule) (upto n)

-- all clashes of elements, each two of them asked
abbrev pub clashes_among : List Rule → List Subject → List SetPair
clashes_among rules subjects =
    pairs_by (length subjects) (λ a b. clash_of rules (subject_at subjects a) (subject_at subjects b))

-- all clashes of a version
abbrev pub clashes : Version → List SetPair
clashes version = clashes_among version.rules (subjects_of version.models)

-- two cells are the same
abbrev pub is_cell : Cell → Cell → Bool
is_cell c d = int_eq c.x d.x && int_eq c.y d.y && int_eq c.z d.z

-- the least cell that holds the boxes of both elements
abbrev pub owner : List Extent → SetPair → Cell
owner boxes p = owner_of (box_at boxes p.a) (box_at boxes p.b)

-- the clashes of a version that a cell owns
abbrev pub own_clashes : Version → List Extent → Cell → List SetPair
own_clashes version boxes cell =
    filter (λ (p : SetPair). is_cell (owner boxes p) cell) (clashes version)

-- the order of pairs: by the first number, then by the second
abbrev pub IsBefore : SetPair → SetPair → Type 0
IsBefore p q = (p.a < q.a) ⊎ ((p.a ≡ q.a) × (p.b < q.b))
