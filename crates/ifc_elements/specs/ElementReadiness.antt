-- What is made of an element, and what one lacks of which nothing is made. A file without a fault has none that isn't ready.
use Rattle.std.specs.Prelude.{◌≡◌, ℕ, ◌<◌, ◌⊎◌, true, List, Contains, All, Option, Some, sum_by, length}
use Rattle.std.specs.List.{slice_get}
use Rattle.bim_model.specs.declared.upload.Mode.{Mode}
use Rattle.bim_model.specs.declared.element.Element.{Element}
use Rattle.bim_model.specs.declared.geometry.Triangle.{Triangle}
use Rattle.bim_model.specs.Guids.{IsGuid}
use Rattle.bim_model.specs.Boxes.{corners_of}
use Rattle.bim_model.specs.Models.{IsInReach}
use Rattle.p21_values.specs.declared.value.Value21.{Value21}
use Rattle.p21_values.specs.declared.value.Instance.{Instance}
use Rattle.p21_values.specs.Values.{reference_of, is_absent}
use Rattle.ifc_units.specs.declared.scale.Scale.{Scale}
use Rattle.placement.specs.declared.frame.Frame.{Frame}
use Rattle.ifc_elements.specs.Finding.{Finds}
use Rattle.ifc_elements.specs.ElementTexts.{guid_of}
use Rattle.ifc_elements.specs.Items.{bodies, body_items, item_count, count_of}
use Rattle.ifc_elements.specs.Surfaces.{IsPlacedBy, IsSurface, IsBeyond}
use Rattle.ifc_elements.specs.Elements.{IsElement}
use Rattle.ifc_elements.specs.declared.lack.ElementLack.{ElementLack}
use Rattle.ifc_elements.specs.declared.lack.ElementLack.TheVariants.{Beyond, Unready}
use Rattle.ifc_elements.specs.declared.lack.Lacking.{Lacking}
use Rattle.ifc_elements.specs.Sound.{ReadyBody, Carries}

-- An element names no placement, or one of these.
pub record IsStanding (placements : List ℕ) (i : Instance) : Type 0 where
  pub value : Value21
  pub there : slice_get i.values 5 ≡ Some value
  pub names : (is_absent value ≡ true) ⊎ ((id : ℕ) × (reference_of value ≡ Some id) × Contains placements id)

-- what an element has of which a surface can be made
pub record IsReady (world : List Instance) (scale : Scale) (mode : Mode) (placements listed : List ℕ)
    (i : Instance) : Type 0 where
  pub guid : (g : List ℕ) × (guid_of i ≡ Some g) × IsGuid g
  pub class : (keyword : List ℕ) × (i.keyword ≡ Some keyword)
  pub standing : IsStanding placements i
  pub items : All (ReadyBody world scale mode listed) (bodies world i)
  pub some : 0 < sum_by (item_count world) (body_items world i)

-- the frame carries points as the placement of the element does
pub record IsFrameOf (world : List Instance) (scale : Scale) (mode : Mode) (i : Instance)
    (frame : Frame) : Type 0 where
  pub given : Option Frame
  pub placed : IsPlacedBy world scale mode i given
  pub carries : Carries given frame

-- the triangles of an element in the building, all in reach
pub record IsNearSurface (world : List Instance) (scale : Scale) (mode : Mode) (i : Instance)
    (triangles : List Triangle) : Type 0 where
  pub surface : IsSurface world scale mode i triangles
  pub near : All IsInReach (corners_of triangles)
  pub count : length triangles ≡ sum_by (item_count world) (body_items world i)

-- the element of that number, in reach
pub record IsNearElement (world : List Instance) (scale : Scale) (mode : Mode) (id : ℕ)
    (element : Element) : Type 0 where
  pub is_element : IsElement world scale mode id element
  pub guid : IsGuid element.guid.chars
  pub near : All IsInReach (corners_of element.triangles)
  pub count : length element.triangles ≡ count_of world id

-- why an element isn't made: it lies too far out, or what it needs isn't ready
abbrev pub Lacks : List Instance → Scale → Mode → List ℕ → List ℕ → Instance → ElementLack → Type 0
Lacks world scale mode placements listed i Beyond = IsBeyond world scale mode i
Lacks world scale mode placements listed i Unready = IsReady world scale mode placements listed i → ⊥

-- the same of the element of a number
abbrev pub LacksAt : List Instance → Scale → Mode → List ℕ → List ℕ → ℕ → ElementLack → Type 0
LacksAt world scale mode placements listed id Beyond = Finds world id (IsBeyond world scale mode)
LacksAt world scale mode placements listed id Unready =
    Finds world id (IsReady world scale mode placements listed) → ⊥

-- the first of the listed ones that lacks something
pub record IsFirstLacking (world : List Instance) (scale : Scale) (mode : Mode)
    (placements listed ids : List ℕ) (found : Lacking) : Type 0 where
  pub here : Contains ids found.id
  pub lacks : LacksAt world scale mode placements listed found.id found.lack
  pub lower : (k : ℕ) → k < found.id → Contains ids k
      → (element : Element) × IsNearElement world scale mode k element
