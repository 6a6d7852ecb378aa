-- What the fields of a head say, from where they stand.
use Rattle.std.specs.Prelude.{◌≡◌, ℕ, List, [], ◌∷◌, Bool, not, ◌&&◌, length, map, codes, if◌then◌else◌, nat_lt, nat_le}
use Rattle.std.specs.Str.{is_utf8}
use Rattle.httparse.specs.declared.spans.Span.{Span}
use Rattle.httparse.specs.declared.spans.HeaderSpan.{HeaderSpan}
use Rattle.httparse.specs.Spans.{IsWithin, span_bytes, header_bytes}
use Rattle.http1.specs.Text.{eq_ignore_case}
use Rattle.http1.specs.Fields.{is_named, values_named}
use Rattle.http_frame.specs.declared.facts.Only.{Only}
use Rattle.http_frame.specs.declared.facts.Only.TheVariants.{Absent, Once, Repeated}

-- the field has the name, in letters of either case
abbrev pub has_name : List ℕ → List ℕ × List ℕ → Bool
has_name name field = is_named name field

-- the field has the name and the value, in letters of either case
abbrev pub has_value : List ℕ → List ℕ → List ℕ × List ℕ → Bool
has_value name option field = has_name name field && eq_ignore_case field.1 option

-- the field has the name and another value
abbrev pub has_other_value : List ℕ → List ℕ → List ℕ × List ℕ → Bool
has_other_value name option field = has_name name field && not (eq_ignore_case field.1 option)

-- the values of the fields with this name, of those that stand at these places
abbrev pub values_at : List ℕ → List ℕ → List HeaderSpan → List (List ℕ)
values_at name block headers = values_named name (map (header_bytes block) headers)

-- the first value is at this place
abbrev pub IsFirst : List ℕ → List (List ℕ) → Span → Type 0
IsFirst block values span =
    IsWithin (length block) span × ((more : List (List ℕ)) × (values ≡ span_bytes block span ∷ more))

-- there is no value, there is one at this place, or there are several
abbrev pub IsOnly : List ℕ → List (List ℕ) → Only → Type 0
IsOnly block values Absent = values ≡ []
IsOnly block values (Once span) = IsWithin (length block) span × (values ≡ span_bytes block span ∷ [])
IsOnly block values Repeated = (a : List ℕ) × (b : List ℕ) × (more : List (List ℕ)) × (values ≡ a ∷ b ∷ more)

-- the user that a lone value names
abbrev pub user_in : List ℕ → List ℕ
user_in user =
    if nat_lt 0 (length user) && nat_le (length user) 128 && is_utf8 user then user else codes "anonymous"
