-- The form of a model's name.
use Rattle.std.specs.Prelude.{ℕ, ◌==◌, ◌||◌, ◌&&◌, List, length, Bool, nat_lt, nat_le}
use Rattle.std.specs.List.{list_all}
use Rattle.std.specs.Char.{is_ascii_alphanumeric}
use Rattle.bim_model.specs.declared.limits.TheConstants.{MOST_NAME}

-- a letter, a digit, an underscore (95), a point (46) or a dash (45)
abbrev pub is_name_char : ℕ → Bool
is_name_char byte = is_ascii_alphanumeric byte || byte == 95 || byte == 46 || byte == 45

-- 1 to 64 such characters
unfoldable pub is_model_name : List ℕ → Bool
is_model_name text = nat_lt 0 (length text) && nat_le (length text) MOST_NAME && list_all is_name_char text
