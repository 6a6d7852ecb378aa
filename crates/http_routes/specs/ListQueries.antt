-- Which of a project's topics a query asks for, as it spells them (OData 4.01, Part 2, 5.1).
use Rattle.std.specs.Prelude.{ℕ, List, [], ◌∷◌, if◌then◌else◌, Option, Some, None, Result, Ok, Err, codes, bytes_eq}
use Rattle.form_urlencoded.specs.Form.{raw_pairs}
use Rattle.http_routes.specs.declared.query.QueryName.{QueryName}
use Rattle.http_routes.specs.declared.query.QueryName.TheVariants.{Filter, OrderBy, Skip, Top}
use Rattle.http_routes.specs.declared.list_query.ListAsked.{ListAsked}
use Rattle.http_routes.specs.PathNumbers.{number_in}
use Rattle.http_routes.specs.Queries.{form_text, if_new}

-- a query that says nothing of the four
abbrev pub no_list : ListAsked
no_list = record { filter = None; order = None; skip = None; top = None }

-- a text where none was given before
abbrev pub if_first : Option (List ℕ) → List ℕ → Option (List ℕ)
if_first None text = Some text
if_first (Some before) text = None

-- the filter, by a text that is given for it
abbrev pub with_filter : ListAsked → Option (List ℕ) → Result ListAsked QueryName
with_filter asked None = Err Filter
with_filter asked (Some text) = Ok (record asked { filter = Some text })

-- the order, by a text that is given for it
abbrev pub with_order : ListAsked → Option (List ℕ) → Result ListAsked QueryName
with_order asked None = Err OrderBy
with_order asked (Some text) = Ok (record asked { order = Some text })

-- how many are left out, by a number that is given for it
abbrev pub with_skip : ListAsked → Option ℕ → Result ListAsked QueryName
with_skip asked None = Err Skip
with_skip asked (Some n) = Ok (record asked { skip = Some n })

-- how many are listed at most, by a number that is given for it
abbrev pub with_top : ListAsked → Option ℕ → Result ListAsked QueryName
with_top asked None = Err Top
with_top asked (Some n) = Ok (record asked { top = Some n })

-- one more pair of a name and a value: another name is passed over
abbrev pub with_list_pair : ListAsked → List ℕ → List ℕ → Result ListAsked QueryName
with_list_pair asked name value =
    if bytes_eq name (codes "$filter") then with_filter asked (if_first asked.filter value)
    else (if bytes_eq name (codes "$orderby") then with_order asked (if_first asked.order value)
    else (if bytes_eq name (codes "$skip") then with_skip asked (if_new asked.skip (number_in value))
    else (if bytes_eq name (codes "$top") then with_top asked (if_new asked.top (number_in value))
    else Ok asked)))

-- what comes of a query next, unless a part of it was bad
abbrev pub if_asked : Result ListAsked QueryName → (ListAsked → Result ListAsked QueryName)
    → Result ListAsked QueryName
if_asked (Ok asked) next = next asked
if_asked (Err name) next = Err name

-- what pairs ask for, in their order, or the name of the first bad one: one that stands twice, or a number that isn't 1
-- to 15 digits
abbrev pub list_by : ListAsked → List (List ℕ × List ℕ) → Result ListAsked QueryName
list_by asked [] = Ok asked
list_by asked ((n, v) ∷ pairs) =
    if_asked (with_list_pair asked (form_text n) (form_text v)) (λ more. list_by more pairs)

-- which topics a query asks for, or the name of its first bad part
unfoldable pub list_asked : List ℕ → Result ListAsked QueryName
list_asked query = list_by no_list (raw_pairs query)
