-- What stands behind the first byte of a value.
use Rattle.std.specs.Prelude.{◌≡◌, ℕ, ◌<◌, List, ◌∷◌, length, slice_index}
use Rattle.p21_values.specs.declared.value.Value21.{Value21}
use Rattle.p21_values.specs.Standing.{Stands, StandInside}

-- that byte stands there, and is neither a blank nor a slash
abbrev pub BeginsToken : List ℕ → ℕ → ℕ → Type 0
BeginsToken bytes at byte = (at < length bytes) × (slice_index bytes at ≡ byte)
    × (32 < byte) × (byte ≡ 47 → ⊥)

-- a value stands there, the first of those that stand from there on; the others stand from that place on
abbrev pub LeavesBehind : List ℕ → ℕ → ℕ → Type 0
LeavesBehind bytes at after = (vs : List Value21) → StandInside bytes at vs
    → (v : Value21) × (others : List Value21) × (vs ≡ v ∷ others)
    × Stands bytes at v × StandInside bytes after others
