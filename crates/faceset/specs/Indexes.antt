-- The indexes of face sets (IFC4 ADD2 TC1, IfcTriangulatedFaceSet): they count the points of a list from 1.
use Rattle.std.specs.Prelude.{◌≡◌, ℕ, suc, ◌<◌, pos, List, Some}
use Rattle.p21_values.specs.declared.value.Value21.{Value21}
use Rattle.bim_text.specs.Decimals.{WritesWhole}
use Rattle.p21_values.specs.Values.{number_of}

-- a value is the index of the k-th of so many points, counted from 0
pub record PointsAt (count : ℕ) (v : Value21) (k : ℕ) : Type 0 where
  pub bytes : List ℕ
  pub number : number_of v ≡ Some bytes
  pub within : k < count
  pub written : WritesWhole bytes (pos (suc k))

-- it is the index of none of them
abbrev pub PointsNowhere : ℕ → Value21 → Type 0
PointsNowhere count v = (k : ℕ) → PointsAt count v k → ⊥
