-- What a number leads to. A world is the list of a file's instances.
use Rattle.std.specs.Prelude.{ℕ, ◌==◌, List, [], Option, None, get_or}
use Rattle.std.specs.List.{find}
use Rattle.p21_values.specs.declared.value.Instance.{Instance}

-- the instance of that number
unfoldable pub look : List Instance → ℕ → Option Instance
look world id = find (λ (i : Instance). i.id == id) world

-- the instance at a place; past the last one, one that says nothing
abbrev pub instance_at : List Instance → ℕ → Instance
instance_at world at = get_or world at (record { id = 0; keyword = None; values = [] })
