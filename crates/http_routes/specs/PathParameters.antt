-- The forms of the parameters of a path.
use Rattle.std.specs.Prelude.{ℕ, List, if◌then◌else◌, Option, Some, None, option_map, codes, bytes_eq}
use Rattle.std.specs.Int.{from_be_bytes, w128}
use Rattle.uuid.specs.Text.{parsed}
use Rattle.bim_model.specs.Names.{is_model_name}
use Rattle.book_history.specs.declared.requests.Wanted.{Wanted}
use Rattle.book_history.specs.declared.requests.Wanted.TheVariants.{Newest, Number}
use Rattle.http_routes.specs.PathNumbers.{number_in}

-- sixteen bytes as a number, the first one highest
abbrev pub number_of_bytes : List ℕ → ℕ
number_of_bytes bytes = from_be_bytes w128 bytes

-- the identifier that a text spells, in any of the forms of a UUID (RFC 9562, 4)
unfoldable pub identifier_in : List ℕ → Option ℕ
identifier_in text = option_map number_of_bytes (parsed text)

-- the name of a model
abbrev pub if_name : List ℕ → Option (List ℕ)
if_name text = if is_model_name text then Some text else None

-- the version that a text names: the newest one, or one by its number
abbrev pub wanted_in : List ℕ → Option Wanted
wanted_in text = if bytes_eq text (codes "newest") then Some Newest else option_map Number (number_in text)
