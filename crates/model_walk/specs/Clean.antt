-- What an instance that is used shows where it has no fault by itself, by its kind (IFC4 ADD2 TC1, after the definitions of the entities).
use Rattle.std.specs.Prelude.{◌≡◌, ℕ, ◌≤◌, ◌||◌, Bool, true, false, pos, List, length, All, Some, None, IsTrue, ◌↔◌}
use Rattle.std.specs.List.{slice_get}
use Rattle.bim_model.specs.declared.upload.Mode.{Mode}
use Rattle.bim_model.specs.declared.geometry.Triangle.{Triangle}
use Rattle.bim_text.specs.Decimals.{WritesWhole}
use Rattle.p21_values.specs.declared.value.Value21.{Value21}
use Rattle.p21_values.specs.declared.value.Instance.{Instance}
use Rattle.p21_values.specs.Values.{number_of, reference_of}
use Rattle.p21_values.specs.InstanceLookup.{look}
use Rattle.p21_values.specs.Attributes.{reference_at}
use Rattle.ifc_instances.specs.declared.entity.Entity.TheVariants.{Representation, AxisPlacement, Operator, RepresentationMap, Point}
use Rattle.ifc_instances.specs.EntityLookup.{is_a}
use Rattle.ifc_schema.specs.BodyRepresentations.{is_body}
use Rattle.ifc_schema.specs.Flaws.{InstanceFlaw}
use Rattle.ifc_schema.specs.Used.{IsMapped}
use Rattle.ifc_units.specs.declared.scale.Scale.{Scale}
use Rattle.ifc_units.specs.declared.length_error.GridFault.{GridFault}
use Rattle.ifc_units.specs.Lengths.{InstanceRefused}
use Rattle.placement.specs.declared.axis.Axis.{Axis}
use Rattle.placement.specs.declared.axes.Axes.{Axes}
use Rattle.placement.specs.declared.frame.Frame.{Frame}
use Rattle.placement.specs.Directions.{HasAxes}
use Rattle.placement.specs.Operators.{HasOperatorAxes}
use Rattle.placement.specs.Placed.{AxisFrame}
use Rattle.faceset.specs.FaceSets.{is_set, is_face, all_corners, most_corners, HasBadIndex}
use Rattle.ifc_elements.specs.Finding.{Finds}
use Rattle.ifc_elements.specs.Items.{spelled_items, is_item, is_mapped_item}
use Rattle.ifc_elements.specs.Sound.{IsKept}

-- Of representations.

-- a value refers to an item that is read: a face set or, where the representation isn't mapped, a mapped item
pub record LeadsToItem (world : List Instance) (mapped : Bool) (v : Value21) : Type 0 where
  pub to : ℕ
  pub refers : reference_of v ≡ Some to
  pub item : Instance
  pub found : look world to ≡ Some item
  pub read : is_item item ≡ true
  pub plain : mapped ≡ true → is_mapped_item item ≡ false

-- the items of a body and those of a mapped representation are read
abbrev pub HasReadItems : List Instance → Bool → Instance → Type 0
HasReadItems world mapped r = (mapped || is_body r) ≡ true
    → All (LeadsToItem world mapped) (spelled_items r)

-- Of mapped items.

-- the scale of an operator is 1, where it is a number
abbrev pub HasPlainScale : Instance → Type 0
HasPlainScale o = (v : Value21) (bytes : List ℕ) → slice_get o.values 3 ≡ Some v → number_of v ≡ Some bytes
    → WritesWhole bytes (pos 1)

-- a mapped item is mapped by an operator with no scale but 1
abbrev pub HasOperator : List Instance → Instance → Type 0
HasOperator world item = (operator : ℕ) × (reference_at item 1 ≡ Some operator)
    × Finds world operator (λ o. (is_a Operator o ≡ true) × HasPlainScale o)

-- that axis of the grid
abbrev pub grid_axis : ℕ → Axis
grid_axis direction = record { direction = direction; negative = false }

-- the frame that leaves each point where it is
abbrev pub identity : Frame
identity = record {
  x = grid_axis 0;
  y = grid_axis 1;
  z = grid_axis 2;
  offset = record { x = pos 0; y = pos 0; z = pos 0 };
}

-- the mapping origin of a representation map is that frame
abbrev pub HasPlainOrigin : List Instance → Scale → Mode → Instance → Type 0
HasPlainOrigin world scale mode map = (origin : ℕ) × (reference_at map 0 ≡ Some origin)
    × AxisFrame world scale mode origin identity

-- Of any instance.

-- What an instance shows beside its form and the lengths of a list of points, and beside what a face set needs. Whether it is mapped is given.
pub record ShowsNone (world : List Instance) (scale : Scale) (mode : Mode) (mapped : Bool)
    (i : Instance) : Type 0 where
  pub items : is_a Representation i ≡ true → HasReadItems world mapped i
  pub square : is_a AxisPlacement i ≡ true → (axes : Axes) × HasAxes world i.id axes
  pub carries : is_a Operator i ≡ true → (axes : Axes) × HasOperatorAxes world i.id axes
  pub operator : is_mapped_item i ≡ true → HasOperator world i
  pub origin : is_a RepresentationMap i ≡ true → HasPlainOrigin world scale mode i
  pub few : is_face i ≡ true → length (all_corners i) ≤ most_corners
  pub point : is_a Point i ≡ true → (fault : GridFault) → InstanceRefused scale mode i fault → ⊥

-- The instance of that number has the form of its row, and by its kind nothing of it is a fault. Whether it is mapped is given.
pub record IsClean (world : List Instance) (scale : Scale) (mode : Mode) (mapped : Bool) (id : ℕ)
    (i : Instance) : Type 0 where
  pub formed : InstanceFlaw world mapped i None
  pub items : is_a Representation i ≡ true → HasReadItems world mapped i
  pub square : is_a AxisPlacement i ≡ true → (axes : Axes) × HasAxes world id axes
  pub carries : is_a Operator i ≡ true → (axes : Axes) × HasOperatorAxes world id axes
  pub operator : is_mapped_item i ≡ true → HasOperator world i
  pub origin : is_a RepresentationMap i ≡ true → HasPlainOrigin world scale mode i
  pub few : is_face i ≡ true → length (all_corners i) ≤ most_corners
  pub measured : (fault : GridFault) → InstanceRefused scale mode i fault → ⊥
  pub indexed : is_set i ≡ true → HasBadIndex world i → ⊥
  pub cut : is_set i ≡ true → (triangles : List Triangle) × IsKept world scale mode triangles i

-- the instance of that number, which is used, is clean
pub record IsCleanAt (world : List Instance) (scale : Scale) (mode : Mode) (id : ℕ) : Type 0 where
  pub instance : Instance
  pub found : look world id ≡ Some instance
  pub mapped : Bool
  pub is_mapped : IsTrue mapped ↔ IsMapped world id
  pub clean : IsClean world scale mode mapped id instance
