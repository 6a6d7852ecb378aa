-- The queries of targets, as forms (URL Standard, 5.1).
use Rattle.std.specs.Prelude.{◌≡◌, ℕ, List, [], ◌∷◌, if◌then◌else◌, Option, Some, None, Result, Ok, Err, unwrap_or, codes, bytes_eq, ⊤}
use Rattle.std.specs.Str.Lossy.{utf8_lossy}
use Rattle.form_urlencoded.specs.Form.{decode, raw_pairs}
use Rattle.bim_model.specs.declared.upload.Mode.{Mode}
use Rattle.bim_model.specs.declared.upload.Mode.TheVariants.{Exact, Snap}
use Rattle.http_routes.specs.declared.query.QueryName.{QueryName}
use Rattle.http_routes.specs.declared.query.QueryName.TheVariants.{First, Count}
use Rattle.http_routes.specs.declared.query.Page.{Page}
use Rattle.http_routes.specs.declared.query.PageGiven.{PageGiven}
use Rattle.http_routes.specs.declared.query.PageError.{PageError}
use Rattle.http_routes.specs.declared.query.PageError.TheVariants.{Bad, Memory}
use Rattle.http_routes.specs.declared.query.TheConstants.{MOST_PAIRS}
use Rattle.http_routes.specs.PathNumbers.{number_in, number_within}

-- the text that a name or a value stands for
abbrev pub form_text : List ℕ → List ℕ
form_text bytes = utf8_lossy (decode bytes)

-- the values that pairs of a form give to a name, in their order
abbrev pub values_given : List ℕ → List (List ℕ × List ℕ) → List (List ℕ)
values_given name [] = []
values_given name ((n, v) ∷ pairs) =
    if bytes_eq (form_text n) name then form_text v ∷ values_given name pairs else values_given name pairs

-- how lengths come on the grid by a value, where it is one of the two
abbrev pub mode_in : List ℕ → Option Mode
mode_in value =
    if bytes_eq value (codes "exact") then Some Exact
    else (if bytes_eq value (codes "snap") then Some Snap else None)

-- the same by all values that are given: none stands for exactly, and two are too many
abbrev pub mode_by : List (List ℕ) → Option Mode
mode_by [] = Some Exact
mode_by (value ∷ []) = mode_in value
mode_by (value ∷ other ∷ more) = None

-- how lengths come on the grid by a query, where it says it well
unfoldable pub grid_asked : List ℕ → Option Mode
grid_asked query = mode_by (values_given (codes "grid") (raw_pairs query))

-- ---- which part of a list is asked for

-- what a query has given so far: the place of the first pair, and how many pairs
abbrev pub nothing_given : PageGiven
nothing_given = record { first = None; count = None }

-- the place of the first pair, by a value that is given for it
abbrev pub with_first : PageGiven → Option ℕ → Result PageGiven QueryName
with_first g None = Err First
with_first g (Some n) = Ok (record g { first = Some n })

-- how many pairs, by a value that is given for it
abbrev pub with_count : PageGiven → Option ℕ → Result PageGiven QueryName
with_count g None = Err Count
with_count g (Some n) = Ok (record g { count = Some n })

-- a value where none was given before
abbrev pub if_new : Option ℕ → Option ℕ → Option ℕ
if_new None value = value
if_new (Some n) value = None

-- one more pair of a name and a value: another name is passed over
abbrev pub with_pair : PageGiven → List ℕ → List ℕ → Result PageGiven QueryName
with_pair g name value =
    if bytes_eq name (codes "first") then with_first g (if_new g.first (number_in value))
    else (if bytes_eq name (codes "count")
    then with_count g (if_new g.count (number_within 1 MOST_PAIRS (number_in value))) else Ok g)

-- what comes of a query next, unless a part of it was bad
abbrev pub if_given : Result PageGiven QueryName → (PageGiven → Result PageGiven QueryName)
    → Result PageGiven QueryName
if_given (Ok g) next = next g
if_given (Err name) next = Err name

-- what pairs give, in their order, or the name of the first bad one: one that stands twice, or has a value that it may
-- not have
abbrev pub given_by : PageGiven → List (List ℕ × List ℕ) → Result PageGiven QueryName
given_by g [] = Ok g
given_by g ((n, v) ∷ pairs) = if_given (with_pair g (form_text n) (form_text v)) (λ h. given_by h pairs)

-- from the first pair on, and so many as a reply may have, where the query doesn't say
abbrev pub page_by : Result PageGiven QueryName → Result Page QueryName
page_by (Ok g) = Ok (record { first = unwrap_or g.first 0; count = unwrap_or g.count MOST_PAIRS })
page_by (Err name) = Err name

-- which pairs a query asks for, or the name of its first bad part
unfoldable pub page_asked : List ℕ → Result Page QueryName
page_asked query = page_by (given_by nothing_given (raw_pairs query))

-- the answer is what is meant, or out of memory
abbrev pub IsAsMeant : {A : Type 0} → Result A PageError → Result A QueryName → Type 0
IsAsMeant (Ok value) meant = meant ≡ Ok value
IsAsMeant (Err (Bad name)) meant = meant ≡ Err name
IsAsMeant (Err Memory) meant = ⊤
