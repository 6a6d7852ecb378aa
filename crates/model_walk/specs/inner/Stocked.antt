-- What is known of a file while its elements are sketched.
use Rattle.std.specs.Prelude.{◌≡◌, ℕ, ◌+◌, ◌<◌, ◌≤◌, List, [], ◌∷◌, length, ◌++◌, flat_map, sum_by, All, Contains, Option, Some, None}
use Rattle.std.specs.List.{HoldsAt, AllZip}
use Rattle.bim_model.specs.declared.upload.Mode.{Mode}
use Rattle.bim_model.specs.declared.element.Element.{Element}
use Rattle.bim_model.specs.declared.geometry.Point.{Point}
use Rattle.bim_model.specs.declared.limits.TheConstants.{MOST_TRIANGLES}
use Rattle.bim_model.specs.Guids.{IsGuid}
use Rattle.p21_values.specs.declared.value.Instance.{Instance}
use Rattle.ifc_units.specs.declared.scale.Scale.{Scale}
use Rattle.faceset.specs.FaceSets.{Joined}
use Rattle.ifc_elements.specs.Framed.{Framed}
use Rattle.ifc_elements.specs.Items.{bodies_of, items_of, body_items, count_of}
use Rattle.ifc_elements.specs.ElementReadiness.{IsNearElement}
use Rattle.ifc_elements.specs.Sound.{KeptItem}
use Rattle.ifc_elements.specs.Storeys.{IsStoreyName}
use Rattle.ifc_elements.specs.Surfaces.{IsPlacedBy}
use Rattle.ifc_elements.specs.ElementTexts.{guid_of, name_of}
use Rattle.model_walk.specs.declared.element_sketches.Drawn.{Drawn}
use Rattle.model_walk.specs.declared.element_sketches.Placing.{Placing}
use Rattle.model_walk.specs.declared.element_sketches.Placing.TheVariants.{Free, By, Unknown}
use Rattle.model_walk.specs.declared.sketch_list.Sketch.{Sketch}
use Rattle.model_walk.specs.declared.element_sketches.Stock.{Stock}
use Rattle.model_walk.specs.declared.set_pool.SetRows.{SetRows}
use Rattle.model_walk.specs.declared.shape_pieces.Piece.{Piece}
use Rattle.model_walk.specs.declared.shape_pieces.Range.{Range}
use Rattle.model_walk.specs.inner.PooledSets.{AreReadSets}
use Rattle.model_walk.specs.Sketches.{pieces_triangles, range_triangles, elements_of, IsCarried, IsSoundStock, IsRangeIn, IsNearSketch}
use Rattle.walk_rows.specs.Pools.{pooled}

-- Pieces.

-- Pieces were added, which show these items one after another; so many triangles more.
pub record AddsPieces (world : List Instance) (scale : Scale) (mode : Mode)
    (points : List (Option (List Point))) (sets : List (Option SetRows)) (items : List Instance)
    (old new : List Piece) (before count : ℕ) : Type 0 where
  pub more : List Piece
  pub grown : new ≡ old ++ more
  pub joined : Joined (KeptItem world scale mode) items (pieces_triangles points sets more)
  pub carried : All IsCarried more
  pub counted : count ≡ before + length (pieces_triangles points sets more)

-- the items of a product shape
abbrev pub shape_items : List Instance → Instance → List Instance
shape_items world shape = flat_map (items_of world) (bodies_of world shape)

-- the pieces of a range show these items, with one triangle at least
pub record ShowsItems (world : List Instance) (scale : Scale) (mode : Mode) (stock : Stock)
    (items : List Instance) (range : Range) : Type 0 where
  pub there : IsRangeIn stock range
  pub joined : Joined (KeptItem world scale mode) items (range_triangles stock range)
  pub counted : range.count ≡ length (range_triangles stock range)
  pub some : 0 < range.count

-- The sets of the stock are those of the file, and each shape that is kept shows its items.
pub record IsStocked (world : List Instance) (scale : Scale) (mode : Mode) (stock : Stock) : Type 0 where
  pub sets : AreReadSets world scale mode stock.points stock.sets
  pub pieces : All IsCarried stock.pieces.items
  pub places : length stock.shapes ≡ length world
  pub shapes : (at : ℕ) (range : Range) → pooled stock.shapes at ≡ Some range
      → HoldsAt (λ shape. ShowsItems world scale mode stock (shape_items world shape) range) world at

-- the points and the sets are the same, and pieces were added
pub record Grows (old new : Stock) : Type 0 where
  pub points : new.points ≡ old.points
  pub sets : new.sets ≡ old.sets
  pub more : List Piece
  pub pieces : new.pieces.items ≡ old.pieces.items ++ more

-- Sketches.

-- how an element is placed, where that is known
abbrev pub IsPlacing : List Instance → Scale → Mode → Instance → Placing → Type 0
IsPlacing world scale mode i Free = IsPlacedBy world scale mode i None
IsPlacing world scale mode i (By frame) = IsPlacedBy world scale mode i (Some frame) × Framed frame
IsPlacing world scale mode i Unknown = Unit {0}

-- the element of an instance, but for its surface
pub record IsBare (world : List Instance) (i : Instance) (element : Element) : Type 0 where
  pub guid : guid_of i ≡ Some element.guid.chars
  pub is_guid : IsGuid element.guid.chars
  pub class : i.keyword ≡ Some element.class
  pub name : element.name ≡ name_of i
  pub storey : IsStoreyName world i.id element.storey

-- the element of an instance was added, but for its surface
pub record AddsBare (world : List Instance) (i : Instance) (old new : List Element) : Type 0 where
  pub element : Element
  pub grown : new ≡ old ++ element ∷ []
  pub bare : IsBare world i element

-- the element of an instance, but for its surface, and its sketch
pub record IsSketch (world : List Instance) (scale : Scale) (mode : Mode) (stock : Stock) (i : Instance)
    (element : Element) (sketch : Sketch) : Type 0 where
  pub bare : IsBare world i element
  pub placed : IsPlacedBy world scale mode i sketch.frame
  pub shows : ShowsItems world scale mode stock (body_items world i) sketch.range
  pub near : IsNearSketch stock sketch

-- such an element and its sketch were added, each after those before; it has so many triangles
pub record Draws (world : List Instance) (scale : Scale) (mode : Mode) (stock : Stock) (i : Instance)
    (old new : Drawn) (count : ℕ) : Type 0 where
  pub element : Element
  pub sketch : Sketch
  pub elements : new.elements.items ≡ old.elements.items ++ element ∷ []
  pub sketches : new.sketches ≡ old.sketches ++ sketch ∷ []
  pub is : IsSketch world scale mode stock i element sketch
  pub counted : count ≡ sketch.range.count

-- The elements of these numbers and their sketches: with the surfaces that these show they are the file's, each with a triangle, and not too many together.
pub record AreDrawn (world : List Instance) (scale : Scale) (mode : Mode) (stock : Stock) (ids : List ℕ)
    (drawn : Drawn) : Type 0 where
  pub sound : IsSoundStock stock
  pub each : AllZip (IsNearElement world scale mode) ids
      (elements_of stock drawn.elements.items drawn.sketches)
  pub near : All (IsNearSketch stock) drawn.sketches
  pub same : length drawn.elements.items ≡ length drawn.sketches
  pub some : (id : ℕ) → Contains ids id → 0 < count_of world id
  pub few : sum_by (count_of world) ids ≤ MOST_TRIANGLES
