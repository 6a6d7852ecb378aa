-- Faces by their numbers, each looked at once. No public contract cites it.
use Rattle.std.specs.Prelude.{◌≡◌, ℕ, List, Option, Some, Contains}
use Rattle.p21_values.specs.declared.value.Value21.{Value21}
use Rattle.p21_values.specs.declared.value.Instance.{Instance}
use Rattle.bim_model.specs.declared.geometry.Point.{Point}
use Rattle.p21_values.specs.InstanceLookup.{look}
use Rattle.faceset.specs.FaceSets.{IsStuck, IsUnbridged}

-- the same numbers stand in both lists, each as often as it may
pub record HaveSame (xs ys : List ℕ) : Type 0 where
  pub to : (id : ℕ) → Contains xs id → Contains ys id
  pub from : (id : ℕ) → Contains ys id → Contains xs id

-- the face of that number is there, and something holds of it
pub record IsFaceSuch (Is : Option (List Value21) → List Point → Instance → Type 0) (world : List Instance)
    (numbers : Option (List Value21)) (points : List Point) (id : ℕ) : Type 0 where
  pub face : Instance
  pub found : look world id ≡ Some face
  pub such : Is numbers points face

-- .. it can't be cut
abbrev pub IsStuckFace : List Instance → Option (List Value21) → List Point → ℕ → Type 0
IsStuckFace = IsFaceSuch IsStuck

-- .. its loops can't be joined
abbrev pub IsApartFace : List Instance → Option (List Value21) → List Point → ℕ → Type 0
IsApartFace = IsFaceSuch IsUnbridged

-- it can't be cut and is one of these
abbrev pub IsStuckIn : List Instance → Option (List Value21) → List Point → List ℕ → ℕ → Type 0
IsStuckIn world numbers points ids id = Contains ids id × IsStuckFace world numbers points id
