-- What is told of an element in texts (IFC4 ADD2 TC1, IfcRoot).
use Rattle.std.specs.Prelude.{◌≡◌, ℕ, List, [], Option, Some, None, option_map, option_and_then}
use Rattle.std.specs.List.{slice_get}
use Rattle.bim_model.specs.declared.guid.Guid.{Guid}
use Rattle.bim_model.specs.Guids.{IsGuid}
use Rattle.bim_text.specs.TextSpellings.{text_of_spelling}
use Rattle.p21_values.specs.declared.value.Instance.{Instance}
use Rattle.p21_values.specs.InstanceLookup.{look}
use Rattle.p21_values.specs.Values.{words_of}

-- the text that is the attribute of that number, if there is one
abbrev pub text_at : Instance → ℕ → Option (List ℕ)
text_at i at = option_map text_of_spelling (option_and_then words_of (slice_get i.values at))

-- a text, or the empty one
abbrev pub or_empty : Option (List ℕ) → List ℕ
or_empty None = []
or_empty (Some text) = text

-- its global identifier
abbrev pub guid_of : Instance → Option (List ℕ)
guid_of i = text_at i 0

-- its name, which is empty where none is given
abbrev pub name_of : Instance → List ℕ
name_of i = or_empty (text_at i 2)

-- the name of an instance, by its number
abbrev pub name_at : List Instance → ℕ → Option (List ℕ)
name_at world id = option_map name_of (look world id)

-- what was read as its global identifier
abbrev pub IsRead : Instance → Guid → Type 0
IsRead i guid = (guid_of i ≡ Some guid.chars) × IsGuid guid.chars

-- it has no text as its global identifier, or one that isn't one
abbrev pub IsUnread : Instance → Type 0
IsUnread i = (guid : List ℕ) → guid_of i ≡ Some guid → IsGuid guid → ⊥
