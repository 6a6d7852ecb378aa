-- Globally unique identifiers (IFC4 ADD2 TC1, IfcGloballyUniqueId): 22 characters of an alphabet of 64.
use Rattle.std.specs.Prelude.{◌≡◌, ℕ, ◌==◌, ◌||◌, List, length, Bool, IsTrue}
use Rattle.std.specs.List.{list_all}
use Rattle.std.specs.Char.{is_ascii_alphanumeric}

-- a letter, a digit, an underscore (95) or a dollar sign (36)
abbrev pub is_guid_char : ℕ → Bool
is_guid_char byte = is_ascii_alphanumeric byte || byte == 95 || byte == 36

-- 22 characters of the alphabet of identifiers
abbrev pub IsGuid : List ℕ → Type 0
IsGuid text = (length text ≡ 22) × IsTrue (list_all is_guid_char text)
