-- What stands in the list of all clashes of a version, by numbers and by keys.
--
-- An element's number is its place in the list of all elements of the version by rising key.
use Rattle.std.specs.Prelude.{◌≡◌, ℕ, ◌<◌, zero, suc, List, [], ◌∷◌, length, IsTrue, Contains, Option, Some, None}
use Rattle.std.specs.Ordering.{is_lt}
use Rattle.bim_model.specs.declared.element.Element.{Element}
use Rattle.bim_model.specs.declared.keys.Pair.{Pair}
use Rattle.bim_model.specs.declared.rules.Rule.{Rule}
use Rattle.bim_model.specs.declared.rules.Meeting.{Meeting}
use Rattle.bim_model.specs.declared.rules.Meeting.TheVariants.{Within, Through}
use Rattle.bim_model.specs.declared.rules.Found.{Found}
use Rattle.bim_model.specs.Distances.{in_grid_numbers}
use Rattle.bim_model.specs.Rules.{distance_if}
use Rattle.bim_model.specs.Snapshots.{Version}
use Rattle.bim_model.specs.Keys.{Subject, subjects_of, key_of, pair_cmp, IsBelow}
use Rattle.clearance.specs.Near.{ElementsNear}
use Rattle.tri_pierce.specs.Piercing.{ElementsPierce}
use Rattle.bucket_grid.specs.Subjects.{subject_at}
use Rattle.bucket_check.specs.declared.pair.SetPair.{SetPair}
use Rattle.bucket_check.specs.Clashes.{rule_between}

-- the element of a number
abbrev pub element_of : Version → ℕ → Subject
element_of version n = subject_at (subjects_of version.models) n

-- the distance of the rule of a number in millimetres, if it has one
abbrev pub distance_at : List Rule → ℕ → Option ℕ
distance_at [] number = None
distance_at (rule ∷ rules) zero = distance_if rule.kind
distance_at (rule ∷ rules) (suc number) = distance_at rules number

-- the distance in millimetres at which two elements have to meet in that way, if they have to
abbrev pub distance_by : Meeting → ℕ → Option ℕ
distance_by Within distance = Some distance
distance_by Through distance = None

-- two elements meet in that way: their surfaces come within a distance in millimetres, or they pierce
abbrev pub Meet : Meeting → ℕ → Element → Element → Type 0
Meet Within distance a b = ElementsNear a b (in_grid_numbers distance)
Meet Through distance a b = ElementsPierce a b

-- the rule of that number decides for two elements, and they meet as it asks
pub record ClashBy (rules : List Rule) (s t : Subject) (number : ℕ) : Type 0 where
  pub found : Found
  pub decides : rule_between rules s t ≡ Some found
  pub number_is : found.rule ≡ number
  pub distance_is : distance_by found.meeting found.distance ≡ distance_at rules number
  pub meet : Meet found.meeting found.distance s.element t.element

-- two elements of a version by their numbers, the lower first, and the rule by which they clash
pub record IsClash (version : Version) (p : SetPair) : Type 0 where
  pub below : p.a < p.b
  pub within : p.b < length (subjects_of version.models)
  pub clash : ClashBy version.rules (element_of version p.a) (element_of version p.b) p.rule

-- the same by keys
abbrev pub by_keys : Version → SetPair → Pair
by_keys version p =
    record { a = key_of (element_of version p.a); b = key_of (element_of version p.b); rule = p.rule }

-- two elements of a version by their keys, the lower first, and the rule by which they clash
pub record IsKeyClash (version : Version) (p : Pair) : Type 0 where
  pub first : Subject
  pub second : Subject
  pub first_in : Contains (subjects_of version.models) first
  pub second_in : Contains (subjects_of version.models) second
  pub first_key : key_of first ≡ p.a
  pub second_key : key_of second ≡ p.b
  pub below : IsBelow first second
  pub clash : ClashBy version.rules first second p.rule

-- one pair of keys stands before another: by the first key, then by the second
abbrev pub IsKeyBefore : Pair → Pair → Type 0
IsKeyBefore p q = IsTrue (is_lt (pair_cmp p q))
