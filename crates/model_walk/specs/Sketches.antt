-- What elements are made of, once their file is read, and the elements that are made of it.
use Rattle.std.specs.Prelude.{◌≡◌, ℕ, ◌-◌, ◌≤◌, List, [], ◌∷◌, All, IfSome, length, map, flat_map, take, drop, Option, Some, None}
use Rattle.bim_model.specs.declared.geometry.Point.{Point}
use Rattle.bim_model.specs.declared.geometry.Triangle.{Triangle}
use Rattle.bim_model.specs.declared.element.Element.{Element}
use Rattle.bim_model.specs.Boxes.{corners_of}
use Rattle.bim_model.specs.Models.{IsInReach}
use Rattle.ifc_units.specs.Lengths.{reach}
use Rattle.placement.specs.Frames.{IsFrame, AreWithin}
use Rattle.ifc_elements.specs.Framed.{Framed}
use Rattle.ifc_elements.specs.Surfaces.{placed_by}
use Rattle.model_walk.specs.declared.sketch_list.Sketch.{Sketch}
use Rattle.model_walk.specs.declared.element_sketches.Stock.{Stock}
use Rattle.model_walk.specs.declared.set_pool.SetRows.{SetRows}
use Rattle.model_walk.specs.declared.shape_pieces.Piece.{Piece}
use Rattle.model_walk.specs.declared.shape_pieces.Range.{Range}
use Rattle.walk_rows.specs.Pools.{pooled}
use Rattle.walk_rows.specs.Rows.{triangles_at}

-- the triangles of rows, where their points are there
abbrev pub rows_with : Option (List Point) → SetRows → List Triangle
rows_with None kept = []
rows_with (Some points) kept = triangles_at points kept.rows

-- the triangles of what is kept of a set
abbrev pub kept_triangles : List (Option (List Point)) → Option SetRows → List Triangle
kept_triangles points None = []
kept_triangles points (Some kept) = rows_with (pooled points kept.list) kept

-- the triangles of a piece in the coordinates of its element
abbrev pub piece_triangles : List (Option (List Point)) → List (Option SetRows) → Piece → List Triangle
piece_triangles points sets piece =
    map (placed_by piece.operator) (kept_triangles points (pooled sets piece.set))

-- those of pieces, one after another
abbrev pub pieces_triangles : List (Option (List Point)) → List (Option SetRows) → List Piece → List Triangle
pieces_triangles points sets pieces = flat_map (piece_triangles points sets) pieces

-- the pieces of a range
abbrev pub pieces_in : List Piece → Range → List Piece
pieces_in pieces range = take (range.to - range.from) (drop range.from pieces)

-- the triangles of a shape, one piece after another
abbrev pub range_triangles : Stock → Range → List Triangle
range_triangles stock range = pieces_triangles stock.points stock.sets (pieces_in stock.pieces.items range)

-- the element with the surface that its sketch shows
abbrev pub element_of : Stock → Element → Sketch → Element
element_of stock element sketch = record {
  guid = element.guid;
  class = element.class;
  name = element.name;
  storey = element.storey;
  triangles = map (placed_by sketch.frame) (range_triangles stock sketch.range);
}

-- elements with the surfaces that their sketches show, place by place
abbrev pub elements_of : Stock → List Element → List Sketch → List Element
elements_of stock [] sketches = []
elements_of stock (element ∷ elements) [] = []
elements_of stock (element ∷ elements) (sketch ∷ sketches) =
    element_of stock element sketch ∷ elements_of stock elements sketches

-- What can be carried.

-- the corners of all that is kept of sets are in reach
abbrev pub AreNearSets : List (Option (List Point)) → List (Option SetRows) → Type 0
AreNearSets points sets = (at : ℕ) (kept : SetRows) → pooled sets at ≡ Some kept
    → All IsInReach (corners_of (rows_with (pooled points kept.list) kept))

-- a piece that is mapped is carried by a frame whose offset is in reach
abbrev pub IsCarried : Piece → Type 0
IsCarried piece = IfSome piece.operator (λ frame. IsFrame frame × AreWithin reach frame.offset)

-- all that is kept can be carried
pub record IsSoundStock (stock : Stock) : Type 0 where
  pub sets : AreNearSets stock.points stock.sets
  pub pieces : All IsCarried stock.pieces.items

-- there are pieces from there to there
pub record IsRangeIn (stock : Stock) (range : Range) : Type 0 where
  pub ordered : range.from ≤ range.to
  pub within : range.to ≤ length stock.pieces.items

-- the pieces of a sketch are there, and all corners are in reach once they are placed
pub record IsNearSketch (stock : Stock) (sketch : Sketch) : Type 0 where
  pub there : IsRangeIn stock sketch.range
  pub framed : IfSome sketch.frame Framed
  pub near : All IsInReach (corners_of (map (placed_by sketch.frame) (range_triangles stock sketch.range)))
