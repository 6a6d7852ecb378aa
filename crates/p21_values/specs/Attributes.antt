-- The attributes of instances, and what they refer to (ISO 10303-21). A world is the list of a file's instances; attributes count from 0.
use Rattle.std.specs.Prelude.{ℕ, List, [], filter_map, Option, option_and_then}
use Rattle.std.specs.List.{slice_get}
use Rattle.std.specs.Option.{unwrap_or}
use Rattle.p21_values.specs.declared.value.Value21.{Value21}
use Rattle.p21_values.specs.declared.value.Instance.{Instance}
use Rattle.p21_values.specs.Values.{reference_of, items_of}
use Rattle.p21_values.specs.InstanceLookup.{look}

-- the items of a value, or none
abbrev pub items_in : Value21 → List Value21
items_in v = unwrap_or (items_of v) []

-- the items of the list that is the attribute of that number, or none
unfoldable pub listed : Instance → ℕ → List Value21
listed i at = unwrap_or (option_and_then items_of (slice_get i.values at)) []

-- the number that an attribute names, where it is a reference
abbrev pub reference_at : Instance → ℕ → Option ℕ
reference_at i at = option_and_then reference_of (slice_get i.values at)

-- the instance that an attribute refers to
abbrev pub target_at : List Instance → Instance → ℕ → Option Instance
target_at world i at = option_and_then (look world) (reference_at i at)

-- an attribute of the instance of that number
abbrev pub value_at : List Instance → ℕ → ℕ → Option Value21
value_at world id at = option_and_then (λ i. slice_get i.values at) (look world id)

-- the number of the instance that the attribute refers to
abbrev pub referred_at : List Instance → ℕ → ℕ → Option ℕ
referred_at world id at = option_and_then reference_of (value_at world id at)

-- the instances that references among the values lead to, in their order
abbrev pub led_to : List Instance → List Value21 → List Instance
led_to world values = filter_map (look world) (filter_map reference_of values)
