-- The lengths and points that values of a file are on the grid (IFC4 ADD2 TC1, IfcCartesianPoint, IfcCartesianPointList3D).
use Rattle.std.specs.Prelude.{◌≡◌, ℕ, ◌<◌, ◌≤◌, ◌⊎◌, true, ℤ, unsigned_abs, List, [], ◌∷◌, Some, MatchOption}
use Rattle.std.specs.List.{slice_get, AllZip}
use Rattle.bim_model.specs.declared.geometry.Point.{Point}
use Rattle.bim_model.specs.declared.geometry.TheConstants.{PER_MM, FARTHEST}
use Rattle.bim_model.specs.declared.upload.Mode.{Mode}
use Rattle.bim_text.specs.declared.decimal.Decimal.{Decimal}
use Rattle.bim_text.specs.ScaledNumbers.{Scaled}
use Rattle.bim_text.specs.Decimals.{Reads}
use Rattle.p21_values.specs.declared.value.Value21.{Value21}
use Rattle.p21_values.specs.declared.value.Instance.{Instance}
use Rattle.ifc_instances.specs.declared.entity.Entity.TheVariants as entity
use Rattle.p21_values.specs.Values.{number_of, items_of}
use Rattle.ifc_instances.specs.EntityLookup.{is_a}
use Rattle.ifc_units.specs.declared.scale.Scale.{Scale}
use Rattle.ifc_units.specs.declared.length_error.GridFault.{GridFault}
use Rattle.ifc_units.specs.declared.length_error.GridFault.TheVariants.{OffGrid, TooFar}
use Rattle.ifc_units.specs.declared.length_error.LengthError.{LengthError}
use Rattle.ifc_units.specs.declared.length_error.LengthError.TheVariants.{Unread, Refused}
use Rattle.ifc_units.specs.Grid.{IsGridNumber, length_of}

-- grid numbers in a millimetre
abbrev pub units : ℕ
units = unsigned_abs PER_MM

-- 800 metres, in grid numbers
abbrev pub reach : ℕ
reach = unsigned_abs FARTHEST

-- Of a number.

-- a value is a number, and the length that it is in a unit of that scale has that grid number, which is in reach
pub record IsLength (scale : Scale) (mode : Mode) (v : Value21) (g : ℤ) : Type 0 where
  pub bytes : List ℕ
  pub number : number_of v ≡ Some bytes
  pub decimal : Decimal
  pub read : Reads bytes decimal
  pub grid : IsGridNumber mode units (length_of decimal scale) g
  pub near : unsigned_abs g ≤ reach

-- a length has no grid number, or one that is beyond the reach
abbrev pub HasFault : Mode → Scaled → GridFault → Type 0
HasFault mode x OffGrid = (g : ℤ) → IsGridNumber mode units x g → ⊥
HasFault mode x TooFar = (g : ℤ) × IsGridNumber mode units x g × (reach < unsigned_abs g)

-- a value is a number, and the length that it is has that fault
pub record LengthRefused (scale : Scale) (mode : Mode) (v : Value21) (fault : GridFault) : Type 0 where
  pub bytes : List ℕ
  pub number : number_of v ≡ Some bytes
  pub decimal : Decimal
  pub read : Reads bytes decimal
  pub refused : HasFault mode (length_of decimal scale) fault

-- a value has a length on the grid
abbrev pub HasLength : Scale → Mode → Value21 → Type 0
HasLength scale mode v = (g : ℤ) × IsLength scale mode v g

-- Of things in a row: the first that isn't good has the fault.
abbrev pub FirstRefused : {X : Type 0} → (X → Type 0) → (X → GridFault → Type 0) → List X → GridFault → Type 0
FirstRefused IsGood IsRefused [] fault = ⊥
FirstRefused IsGood IsRefused (x ∷ xs) fault =
    IsRefused x fault ⊎ (IsGood x × FirstRefused IsGood IsRefused xs fault)

-- Of three numbers.

-- a value is a list of exactly three numbers, and these are the coordinates of the point
pub record IsPoint (scale : Scale) (mode : Mode) (v : Value21) (p : Point) : Type 0 where
  pub a : Value21
  pub b : Value21
  pub c : Value21
  pub three : items_of v ≡ Some (a ∷ b ∷ c ∷ [])
  pub x : IsLength scale mode a p.x
  pub y : IsLength scale mode b p.y
  pub z : IsLength scale mode c p.z

-- a value is a list of exactly three, and the first of them that isn't a length on the grid is a number that has that fault
pub record PointRefused (scale : Scale) (mode : Mode) (v : Value21) (fault : GridFault) : Type 0 where
  pub a : Value21
  pub b : Value21
  pub c : Value21
  pub three : items_of v ≡ Some (a ∷ b ∷ c ∷ [])
  pub first : FirstRefused (HasLength scale mode) (LengthRefused scale mode) (a ∷ b ∷ c ∷ []) fault

-- a value has a point on the grid
abbrev pub HasPoint : Scale → Mode → Value21 → Type 0
HasPoint scale mode v = (p : Point) × IsPoint scale mode v p

-- Of a list of points.

-- the values are those points, one after another
abbrev pub ArePoints : Scale → Mode → List Value21 → List Point → Type 0
ArePoints scale mode = AllZip (IsPoint scale mode)

-- the first of the values that isn't a point has that fault
abbrev pub PointsRefused : Scale → Mode → List Value21 → GridFault → Type 0
PointsRefused scale mode = FirstRefused (HasPoint scale mode) (PointRefused scale mode)

-- What is neither can't be read.

-- nothing is found and nothing is refused
pub record IsUnread {A : Type 0} (Is : A → Type 0) (IsRefused : GridFault → Type 0) : Type 0 where
  pub none : (a : A) → Is a → ⊥
  pub unrefused : (fault : GridFault) → IsRefused fault → ⊥

-- why there is nothing that it is
abbrev pub Fails : {A : Type 0} → (A → Type 0) → (GridFault → Type 0) → LengthError → Type 0
Fails Is IsRefused Unread = IsUnread Is IsRefused
Fails Is IsRefused (Refused fault) = IsRefused fault

-- Of an instance.

-- a value is a list of values, and these are points with that fault
abbrev pub ListRefused : Scale → Mode → Value21 → GridFault → Type 0
ListRefused scale mode v fault = MatchOption (items_of v) ⊥ (λ vs. PointsRefused scale mode vs fault)

-- An instance is a point, and its attribute 0 has that fault; or it is a list of points, and that attribute's points have it.
abbrev pub InstanceRefused : Scale → Mode → Instance → GridFault → Type 0
InstanceRefused scale mode i fault =
    ((is_a entity.Point i ≡ true) × MatchOption (slice_get i.values 0) ⊥
    (λ v. PointRefused scale mode v fault))
    ⊎ ((is_a entity.PointList i ≡ true)
    × MatchOption (slice_get i.values 0) ⊥ (λ v. ListRefused scale mode v fault))
