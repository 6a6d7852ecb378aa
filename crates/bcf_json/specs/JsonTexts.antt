-- Dates and identifiers as texts.
use Rattle.std.specs.Prelude.{◌≡◌, ℕ, ◌*◌, ◌++◌, pos, List, codes}
use Rattle.std.specs.Int.{to_be_bytes, w128}
use Rattle.uuid.specs.Text.{hyphenated_text, lower}
use Rattle.jiff.specs.Words.{civil_nanos}
use Rattle.jiff.specs.Names.{iso_datetime_text}
use Rattle.jiff_core.specs.declared.civil.datetime.DateTime.{DateTime}
use Rattle.bim_model.specs.Identifiers.{identifier}

-- the moment's date and time of day in UTC, to the second, and Z (RFC 3339)
unfoldable pub IsDateText : ℕ → List ℕ → Type 0
IsDateText moment text =
    (dt : DateTime) × (civil_nanos dt ≡ pos (moment * 1000000000))
    × (text ≡ iso_datetime_text dt ++ codes "Z")

-- the identifier of an object as a text (RFC 9562, 4)
unfoldable pub identifier_text : ℕ → ℕ → List ℕ
identifier_text project serial = hyphenated_text lower (to_be_bytes w128 (identifier project serial))
