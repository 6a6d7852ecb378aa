-- The items that aren't read, and the ways in which items aren't mapped (IFC4 ADD2 TC1, IfcShapeRepresentation, IfcMappedItem,
-- IfcRepresentationMap, IfcCartesianTransformationOperator3D).
use Rattle.std.specs.Prelude.{◌≡◌, ℕ, ◌⊎◌, false, true, ℤ, pos, List, [], ◌∷◌, filter_map, Some, Contains, Any}
use Rattle.std.specs.List.{AllZip, slice_get}
use Rattle.bim_model.specs.declared.upload.Mode.{Mode}
use Rattle.bim_text.specs.declared.decimal.Decimal.{Decimal}
use Rattle.bim_text.specs.Decimals.{Reads, WritesWhole}
use Rattle.p21_values.specs.declared.value.Value21.{Value21}
use Rattle.p21_values.specs.declared.value.Instance.{Instance}
use Rattle.ifc_instances.specs.declared.entity.Entity.TheVariants.{Operator}
use Rattle.ifc_instances.specs.EntityLookup.{is_a}
use Rattle.p21_values.specs.Values.{number_of, reference_of, items_of}
use Rattle.ifc_schema.specs.BodyRepresentations.{is_body_representation}
use Rattle.ifc_schema.specs.Used.{Used, IsMapped}
use Rattle.ifc_units.specs.declared.scale.Scale.{Scale}
use Rattle.ifc_units.specs.Grid.{IsGridNumber, length_of}
use Rattle.ifc_units.specs.Lengths.{units}
use Rattle.placement.specs.declared.axes.Axes.{Axes}
use Rattle.placement.specs.Directions.{HasAxes}
use Rattle.p21_values.specs.Attributes.{referred_at, value_at, reference_at}
use Rattle.ifc_elements.specs.Finding.{Finds}
use Rattle.ifc_elements.specs.Items.{spelled_items, is_item, is_mapped_item}

-- Of representations.

-- the representation of that number lists that one among its items
abbrev pub ListsItem : List Instance → ℕ → ℕ → Type 0
ListsItem world representation item =
    Finds world representation (λ r. Contains (filter_map reference_of (spelled_items r)) item)

-- a representation whose items are read: a body, or one that is mapped
abbrev pub IsOpened : List Instance → ℕ → Type 0
IsOpened world id = Finds world id (λ r. is_body_representation r ≡ true) ⊎ IsMapped world id

-- its items have one that is neither a face set nor a mapped item
abbrev pub ListsOther : List Instance → ℕ → ℕ → Type 0
ListsOther world from id = IsOpened world from × ListsItem world from id
    × Finds world id (λ i. is_item i ≡ false)

-- it is mapped, and its items have a mapped item
abbrev pub ListsNested : List Instance → ℕ → ℕ → Type 0
ListsNested world from id = IsMapped world from × ListsItem world from id
    × Finds world id (λ i. is_mapped_item i ≡ true)

-- Of mapped items.

-- a value is a number other than 1
pub record IsNotOne (v : Value21) : Type 0 where
  pub bytes : List ℕ
  pub number : number_of v ≡ Some bytes
  pub other : WritesWhole bytes (pos 1) → ⊥

-- it is no operator, or one with a scale other than 1
abbrev pub IsNoTarget : Instance → Type 0
IsNoTarget t = (is_a Operator t ≡ false) ⊎ ((v : Value21) × (slice_get t.values 3 ≡ Some v) × IsNotOne v)

-- the mapped item of that number is mapped by that one, which is no operator, or one with a scale other than 1
abbrev pub HasNoTarget : List Instance → ℕ → ℕ → Type 0
HasNoTarget world from id = Finds world from (λ i. (is_mapped_item i ≡ true) × (reference_at i 1 ≡ Some id))
    × Finds world id IsNoTarget

-- a length has that grid number, however far that is
pub record HasGridNumber (scale : Scale) (mode : Mode) (v : Value21) (g : ℤ) : Type 0 where
  pub bytes : List ℕ
  pub number : number_of v ≡ Some bytes
  pub decimal : Decimal
  pub read : Reads bytes decimal
  pub grid : IsGridNumber mode units (length_of decimal scale) g

-- a number isn't zero
abbrev pub IsSome : ℤ → Type 0
IsSome g = g ≡ pos 0 → ⊥

-- a value is three lengths with grid numbers that aren't all 0
pub record IsAwayValue (scale : Scale) (mode : Mode) (value : Value21) : Type 0 where
  pub a : Value21
  pub b : Value21
  pub c : Value21
  pub three : items_of value ≡ Some (a ∷ b ∷ c ∷ [])
  pub x : ℤ
  pub y : ℤ
  pub z : ℤ
  pub grid : AllZip (HasGridNumber scale mode) (a ∷ b ∷ c ∷ []) (x ∷ y ∷ z ∷ [])
  pub some : Any IsSome (x ∷ y ∷ z ∷ [])

-- the location of the axis placement of that number is such a value
pub record IsAway (world : List Instance) (scale : Scale) (mode : Mode) (id : ℕ) : Type 0 where
  pub to : ℕ
  pub refers : referred_at world id 0 ≡ Some to
  pub value : Value21
  pub there : value_at world to 0 ≡ Some value
  pub away : IsAwayValue scale mode value

-- the axes that point as those of the grid do
abbrev pub plain_axes : Axes
plain_axes = record {
  x = record { direction = 0; negative = false };
  y = record { direction = 1; negative = false };
  z = record { direction = 2; negative = false };
}

-- the axes of the axis placement of that number aren't those
abbrev pub IsTurned : List Instance → ℕ → Type 0
IsTurned world id = HasAxes world id plain_axes → ⊥

-- The mapping origin of the item of that number isn't the identity. Where its location has no grid numbers its axes alone decide.
pub record IsOtherOrigin (world : List Instance) (scale : Scale) (mode : Mode) (id : ℕ) : Type 0 where
  pub map : ℕ
  pub uses : referred_at world id 0 ≡ Some map
  pub origin : ℕ
  pub refers : referred_at world map 0 ≡ Some origin
  pub other : IsTurned world origin ⊎ IsAway world scale mode origin

-- it is a mapped item like that
abbrev pub IsShifted : List Instance → Scale → Mode → ℕ → Type 0
IsShifted world scale mode id =
    Finds world id (λ i. is_mapped_item i ≡ true) × IsOtherOrigin world scale mode id

-- What one instance shows to be unsupported: an item that it lists, its mapping target, or itself.
abbrev pub Shows : List Instance → Scale → Mode → ℕ → ℕ → Type 0
Shows world scale mode from id =
    (ListsOther world from id ⊎ ListsNested world from id)
    ⊎ (HasNoTarget world from id ⊎ ((from ≡ id) × IsShifted world scale mode from))

-- an instance that is used shows it to be unsupported
abbrev pub IsUnsupported : List Instance → Scale → Mode → ℕ → Type 0
IsUnsupported world scale mode id = (from : ℕ) × Used world from × Shows world scale mode from id
