-- What values say that are short numbers, and rows of three.
use Rattle.std.specs.Prelude.{◌≡◌, ℕ, ◌^◌, ◌<◌, ◌≤◌, List, [], ◌∷◌, Some}
use Rattle.p21_values.specs.declared.value.Value21.{Value21}
use Rattle.p21_values.specs.Values.{number_of, items_of}
use Rattle.bim_text.specs.declared.short.Short.{Short}
use Rattle.bim_text.specs.declared.short.ShortRow.{ShortRow}
use Rattle.bim_text.specs.Short.{SpellsShort}

-- the value is a number that is read, spelled with these digits
pub record SaysShort (s : Short) (v : Value21) : Type 0 where
  pub spelled : List ℕ
  pub number : number_of v ≡ Some spelled
  pub spells : SpellsShort spelled s
  pub digits : s.digits < 10 ^ 15
  pub places : s.places ≤ 15

-- the value is a list of three such numbers
pub record SaysRow (r : ShortRow) (v : Value21) : Type 0 where
  pub x : Value21
  pub y : Value21
  pub z : Value21
  pub items : items_of v ≡ Some (x ∷ y ∷ z ∷ [])
  pub first : SaysShort r.x x
  pub second : SaysShort r.y y
  pub third : SaysShort r.z z
