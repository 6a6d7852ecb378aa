-- The bytes that a `Bytes` keeps, in place or beside.
use Rattle.std.specs.Prelude.{ℕ, List, take}
use Rattle.bim_model.specs.declared.bytes.Kept.{Kept}
use Rattle.bim_model.specs.declared.bytes.Kept.TheVariants.{Short, Middle, Long}

-- the bytes that are kept, in whichever of the three forms
abbrev pub kept_bytes : Kept → List ℕ
kept_bytes (Short few) = take few.count few.room
kept_bytes (Middle several) = take several.value.count several.value.room
kept_bytes (Long many) = many.items
