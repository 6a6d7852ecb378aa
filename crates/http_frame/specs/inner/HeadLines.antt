-- The front of a line.
use Rattle.std.specs.Prelude.{ℕ, ◌==◌, ◌||◌, ◌&&◌, Bool, false, List, [], ◌∷◌, ◌++◌, Option, Some, None}
use Rattle.std.specs.Char.{is_ascii_digit}
use Rattle.http_frame.specs.Heads as heads

-- the bytes begin with LF
abbrev pub begins_lf : List ℕ → Bool
begins_lf bytes = heads.begins_lf bytes

-- an empty line, or the last byte of one, stands at the front
abbrev pub begins_blank : List ℕ → Bool
begins_blank [] = false
begins_blank (b ∷ bytes) = b == 10 || (b == 13 && heads.begins_lf bytes)

-- the bytes before a line, where it is whole
abbrev pub put_before : List ℕ → Option (List ℕ) → Option (List ℕ)
put_before front None = None
put_before front (Some line) = Some (front ++ line)

-- digit, point, digit, from the last
abbrev pub is_version : ℕ → ℕ → ℕ → Bool
is_version minor point major = is_ascii_digit minor && point == 46 && is_ascii_digit major

-- 1.0 or 1.1
abbrev pub is_current : ℕ → ℕ → Bool
is_current major minor = major == 49 && (minor == 48 || minor == 49)
