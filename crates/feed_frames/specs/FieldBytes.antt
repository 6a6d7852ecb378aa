-- How the fields of an entry are spelled: numbers begin with their greatest byte, and what may be longer or
-- shorter begins with its count.
use Rattle.std.specs.Prelude.{ℕ, ℤ, Bool, true, false, List, [], ◌∷◌, ◌++◌, length, Option, Some, None}
use Rattle.std.specs.List.{flat_map}
use Rattle.std.specs.Int.{w32, w64, to_be_bytes, cast_unsigned}

-- a number in eight bytes
unfoldable pub long_bytes : ℕ → List ℕ
long_bytes n = to_be_bytes w64 n

-- a number in four bytes
unfoldable pub short_bytes : ℕ → List ℕ
short_bytes n = to_be_bytes w32 n

-- a number with a sign in four bytes, as its two's complement
unfoldable pub signed_bytes : ℤ → List ℕ
signed_bytes z = to_be_bytes w32 (cast_unsigned w32 z)

-- a byte that is 0 or 1
unfoldable pub truth_bytes : Bool → List ℕ
truth_bytes false = 0 ∷ []
truth_bytes true = 1 ∷ []

-- a text: how many bytes of UTF-8 it has, and these
unfoldable pub text_bytes : List ℕ → List ℕ
text_bytes text = long_bytes (length text) ++ text

-- 0 where there is none; 1 and the value where there is one
unfoldable pub optional_bytes : {A : Type 0} → (A → List ℕ) → Option A → List ℕ
optional_bytes spelled None = 0 ∷ []
optional_bytes spelled (Some x) = 1 ∷ spelled x

-- how many items a list has, and each of them
unfoldable pub counted_bytes : {A : Type 0} → (A → List ℕ) → List A → List ℕ
counted_bytes spelled items = long_bytes (length items) ++ flat_map spelled items
