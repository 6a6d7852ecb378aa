-- The members of bodies, over the JSON data that serde_json reads. A member that is null counts as absent; of
-- one that stands twice the data have the last.
use Rattle.std.specs.Prelude.{ℕ, ℤ, pos, negsuc, int_le, int_lt, int_div, unsigned_abs, nat_lt, nat_le, codes}
use Rattle.std.specs.Prelude.{Bool, true, ◌&&◌, ◌||◌, cond, List, [], ◌∷◌, length}
use Rattle.std.specs.Prelude.{Option, Some, None, option_and_then, option_map, is_some}
use Rattle.std.specs.Option.{unwrap_or}
use Rattle.std.specs.Result.{result_ok}
use Rattle.std.specs.Int.{from_be_bytes, w128}
use Rattle.serde_json.specs.Data.{Data, Items, no_items, item}
use Rattle.serde_json.specs.Find.{get, as_null, as_bool, as_number, as_str, as_array, as_object, as_integer}
use Rattle.jiff.specs.Words.{parse_timestamp}
use Rattle.uuid.specs.Text.{parsed}
use Rattle.bim_model.specs.Moments.{last_moment}

-- what stands as a member that need not be there, or none where it can't be read
abbrev pub optional : {A : Type 0} → (Data → Option A) → Option Data → Option (Option A)
optional read None = Some None
optional read (Some value) =
    cond (is_some (as_null value)) (Some None) (option_map (λ a. Some a) (read value))

-- a text of at most so many bytes
abbrev pub if_short : ℕ → List ℕ → Option (List ℕ)
if_short most text = cond (nat_le (length text) most) (Some text) None

-- the same, of data that are a text
abbrev pub short_text : ℕ → Data → Option (List ℕ)
short_text most value = option_and_then (if_short most) (as_str value)

-- a member that is such a text
unfoldable pub text_in : ℕ → List ℕ → Data → Option (Option (List ℕ))
text_in most name tree = optional (short_text most) (get name tree)

-- a text of 1 to so many bytes
abbrev pub if_filled : ℕ → List ℕ → Option (List ℕ)
if_filled most text = cond (nat_lt 0 (length text) && nat_le (length text) most) (Some text) None

-- a member that must be such a text
unfoldable pub filled_in : ℕ → List ℕ → Data → Option (List ℕ)
filled_in most name tree = option_and_then (if_filled most) (option_and_then as_str (get name tree))

-- a whole number of 32 bits
abbrev pub if_index : ℤ → Option ℤ
if_index n = cond (int_le (negsuc 2147483647) n && int_le n (pos 2147483647)) (Some n) None

-- a number is whole where it is spelled as an integer of at most 64 bits, not as -0
abbrev pub index_value : Data → Option ℤ
index_value value = option_and_then if_index (option_and_then as_integer (as_number value))

-- the member `index`
unfoldable pub index_in : Data → Option (Option ℤ)
index_in tree = optional index_value (get (codes "index") tree)

-- a second that is a moment
abbrev pub if_moment : ℤ → Option ℕ
if_moment second =
    cond (int_le (pos 0) second && int_le second (pos last_moment)) (Some (unsigned_abs second)) None

-- the second of an instant of 1970 or later, which is given in nanoseconds
abbrev pub moment_of : ℤ → Option ℕ
moment_of nanos = cond (int_lt nanos (pos 0)) None (if_moment (int_div nanos (pos 1000000000)))

-- a date and time of day with its offset, as jiff reads them (RFC 3339 and more)
unfoldable pub if_date : List ℕ → Option ℕ
if_date text = option_and_then moment_of (result_ok (parse_timestamp text))

-- the same, of data that are a text
abbrev pub date_value : Data → Option ℕ
date_value value = option_and_then if_date (as_str value)

-- the member `due_date`
unfoldable pub due_in : Data → Option (Option ℕ)
due_in tree = optional date_value (get (codes "due_date") tree)

-- an identifier in any form of a UUID (RFC 9562, 4)
unfoldable pub if_identifier : List ℕ → Option ℕ
if_identifier text = option_map (λ bytes. from_be_bytes w128 bytes) (parsed text)

-- the same, of data that are a text
abbrev pub identifier_value : Data → Option ℕ
identifier_value value = option_and_then if_identifier (as_str value)

-- the member `viewpoint_guid`
unfoldable pub viewpoint_in : Data → Option (Option ℕ)
viewpoint_in tree = optional identifier_value (get (codes "viewpoint_guid") tree)

-- one item before the rest, where both can be read
abbrev pub before : {A : Type 0} → Option A → Option (List A) → Option (List A)
before None rest = None
before (Some a) rest = option_map (λ xs. a ∷ xs) rest

-- the items as they are read, or none where one of them can't be
abbrev pub all_of : {A : Type 0} → (Data → Option A) → Items → Option (List A)
all_of read no_items = Some []
all_of read (item d ds) = before (read d) (all_of read ds)

-- each item passes
abbrev pub all_are : (Data → Bool) → Items → Bool
all_are test no_items = true
all_are test (item d ds) = test d && all_are test ds

-- a member that is an array, or need not be there
abbrev pub is_array_if : Option Data → Bool
is_array_if None = true
is_array_if (Some value) = is_some (as_null value) || is_some (as_array value)

-- the same of the member of a name
unfoldable pub is_list : List ℕ → Data → Bool
is_list name tree = is_array_if (get name tree)

-- a member that is an object, or need not be there
abbrev pub is_object_if : Option Data → Bool
is_object_if None = true
is_object_if (Some value) = is_some (as_null value) || is_some (as_object value)

-- the same of the member of a name
unfoldable pub is_table : List ℕ → Data → Bool
is_table name tree = is_object_if (get name tree)

-- a member that is a truth value, or need not be there
abbrev pub is_bool_if : Option Data → Bool
is_bool_if None = true
is_bool_if (Some value) = is_some (as_null value) || is_some (as_bool value)

-- the same of the member of a name
unfoldable pub is_flag : List ℕ → Data → Bool
is_flag name tree = is_bool_if (get name tree)

-- the items of a member, none where it is no array
unfoldable pub items_under : List ℕ → Data → Items
items_under name tree = unwrap_or (option_and_then as_array (get name tree)) no_items
