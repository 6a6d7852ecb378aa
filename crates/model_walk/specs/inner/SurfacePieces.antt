-- Pieces that were added for sets and for mapped items.
use Rattle.std.specs.Prelude.{◌≡◌, ℕ, ◌+◌, List, ◌++◌, map, length, All, IfSome, Option, None}
use Rattle.bim_model.specs.declared.geometry.Point.{Point}
use Rattle.bim_model.specs.declared.geometry.Triangle.{Triangle}
use Rattle.bim_model.specs.Boxes.{corners_of}
use Rattle.bim_model.specs.Models.{IsInReach}
use Rattle.placement.specs.declared.frame.Frame.{Frame}
use Rattle.placement.specs.Frames.{IsFrame, AreWithin}
use Rattle.ifc_units.specs.Lengths.{reach}
use Rattle.ifc_elements.specs.Surfaces.{placed_by}
use Rattle.model_walk.specs.declared.set_pool.SetRows.{SetRows}
use Rattle.model_walk.specs.declared.shape_pieces.Piece.{Piece}
use Rattle.model_walk.specs.Sketches.{IsCarried, pieces_triangles}

-- Pieces were added, which show such triangles; so many triangles more.
pub record AddsShown (points : List (Option (List Point))) (sets : List (Option SetRows))
    (Shows : List Triangle → Type 0) (old new : List Piece) (before count : ℕ) : Type 0 where
  pub more : List Piece
  pub grown : new ≡ old ++ more
  pub shows : Shows (pieces_triangles points sets more)
  pub carried : All IsCarried more
  pub counted : count ≡ before + length (pieces_triangles points sets more)

-- an operator, where there is one, is a frame whose offset is in reach
abbrev pub IsOperator : Option Frame → Type 0
IsOperator operator = IfSome operator (λ frame. IsFrame frame × AreWithin reach frame.offset)

-- such triangles, carried by a frame where there is one
abbrev pub Carried : Option Frame → (List Triangle → Type 0) → List Triangle → Type 0
Carried frame Shows triangles = (own : List Triangle) × Shows own × (triangles ≡ map (placed_by frame) own)

-- a piece isn't mapped
abbrev pub IsUnmapped : Piece → Type 0
IsUnmapped piece = piece.operator ≡ None

-- the corners of these triangles are in reach, once they are placed
abbrev pub ArePlacedNear : Option Frame → List Triangle → Type 0
ArePlacedNear frame triangles = All IsInReach (corners_of (map (placed_by frame) triangles))
