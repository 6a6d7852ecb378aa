-- What the search for unsupported items knows. No public contract cites it.
use Rattle.std.specs.Prelude.{◌≡◌, ℕ, ◌⊎◌, nat_lt, Bool, true, false, if◌then◌else◌, ℤ, pos, List, filter_map, Option, Some, None, Contains}
use Rattle.bim_model.specs.declared.upload.Mode.{Mode}
use Rattle.p21_values.specs.declared.value.Value21.{Value21}
use Rattle.p21_values.specs.declared.value.Instance.{Instance}
use Rattle.p21_values.specs.Values.{reference_of}
use Rattle.ifc_schema.specs.BodyRepresentations.{is_body_representation}
use Rattle.ifc_units.specs.declared.scale.Scale.{Scale}
use Rattle.model_build.specs.declared.mapping.Lies.{Lies}
use Rattle.model_build.specs.declared.mapping.Lies.TheVariants.{AtZero, OffZero, Between}
use Rattle.ifc_elements.specs.Finding.{Finds}
use Rattle.p21_values.specs.Attributes.{reference_at}
use Rattle.ifc_elements.specs.Items.{spelled_items, is_item, is_mapped_item}
use Rattle.model_build.specs.Unsupported.{IsNoTarget, HasNoTarget, HasGridNumber, IsSome, IsShifted}

-- the lesser of two numbers that may lack
abbrev pub lesser : Option ℕ → Option ℕ → Option ℕ
lesser None b = b
lesser (Some a) None = Some a
lesser (Some a) (Some b) = if nat_lt a b then Some a else Some b

-- one of the values refers to that instance, which is neither a face set nor a mapped item
abbrev pub HasOther : List Instance → List Value21 → ℕ → Type 0
HasOther world values id = Contains (filter_map reference_of values) id
    × Finds world id (λ i. is_item i ≡ false)

-- .. which is a mapped item
abbrev pub HasInner : List Instance → List Value21 → ℕ → Type 0
HasInner world values id = Contains (filter_map reference_of values) id
    × Finds world id (λ i. is_mapped_item i ≡ true)

-- What a body, a mapped representation and a mapped item show to be unsupported.

-- a body shows something that is no item
abbrev pub BodyShows : List Instance → ℕ → ℕ → Type 0
BodyShows world from id = Finds world from
    (λ r. (is_body_representation r ≡ true) × HasOther world (spelled_items r) id)

-- a mapped representation shows something that is no item, or a mapped item
abbrev pub MapShows : List Instance → ℕ → ℕ → Type 0
MapShows world from id = Finds world from
    (λ r. HasOther world (spelled_items r) id ⊎ HasInner world (spelled_items r) id)

-- a mapped item has no target, or one that lies elsewhere
abbrev pub ItemShows : List Instance → Scale → Mode → ℕ → ℕ → Type 0
ItemShows world scale mode from id =
    HasNoTarget world from id ⊎ ((from ≡ id) × IsShifted world scale mode from)

-- the item is mapped by that one, which is no operator, or one with a scale other than 1
abbrev pub NamesNoTarget : List Instance → Instance → ℕ → Type 0
NamesNoTarget world item id = (reference_at item 1 ≡ Some id) × Finds world id IsNoTarget

-- Where a length lies.
abbrev pub HasPlace : Scale → Mode → Value21 → Lies → Type 0
HasPlace scale mode v AtZero = HasGridNumber scale mode v (pos 0)
HasPlace scale mode v OffZero = (g : ℤ) × HasGridNumber scale mode v g × IsSome g
HasPlace scale mode v Between = (g : ℤ) → HasGridNumber scale mode v g → ⊥

-- three have grid numbers that aren't all 0
abbrev pub are_away : Lies → Lies → Lies → Bool
are_away Between b c = false
are_away AtZero Between c = false
are_away OffZero Between c = false
are_away AtZero AtZero Between = false
are_away AtZero OffZero Between = false
are_away OffZero AtZero Between = false
are_away OffZero OffZero Between = false
are_away AtZero AtZero AtZero = false
are_away AtZero AtZero OffZero = true
are_away AtZero OffZero AtZero = true
are_away AtZero OffZero OffZero = true
are_away OffZero AtZero AtZero = true
are_away OffZero AtZero OffZero = true
are_away OffZero OffZero AtZero = true
are_away OffZero OffZero OffZero = true
