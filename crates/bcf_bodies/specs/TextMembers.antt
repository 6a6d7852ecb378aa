-- Objects and arrays that go out.
use Rattle.std.specs.Prelude.{ℕ, List, map, Option, Some, None}
use Rattle.serde_json.specs.Data.{Data, string, Items, Members, put}
use Rattle.serde_json.specs.View.{items_of}

-- the members with a text at that name
abbrev pub put_text : List ℕ → List ℕ → Members → Members
put_text name text members = put name (string text) members

-- the same where there is a text
abbrev pub put_text_if : List ℕ → Option (List ℕ) → Members → Members
put_text_if name None members = members
put_text_if name (Some text) members = put_text name text members

-- items as an array lists them
abbrev pub listed : {A : Type 0} → (A → Data) → List A → Items
listed tree xs = items_of (map tree xs)
