-- Laws of cells, members and owners.
use Rattle.std.specs.Prelude.{◌≡◌, ◌↔◌, ℕ, pos, ◌+ℤ◌, ◌-ℤ◌, ◌*ℤ◌, ◌≤ℤ◌, ◌<ℤ◌, true, IsTrue, Bool, List, length, Some, All, Any, AllPairs}
use Rattle.std.specs.declared.cmp.Ordering.TheVariants.{Less}
use Rattle.bim_model.specs.declared.geometry.Point.{Point}
use Rattle.bim_model.specs.declared.geometry.Extent.{Extent}
use Rattle.bim_model.specs.declared.element.Element.{Element}
use Rattle.bim_model.specs.declared.rules.Rule.{Rule}
use Rattle.bim_model.specs.declared.rules.Found.{Found}
use Rattle.bim_model.specs.Distances.{in_grid_numbers}
use Rattle.bim_model.specs.Rules.{rule_of, IsRules}
use Rattle.bim_model.specs.Boxes.{IsExtentOf}
use Rattle.bim_model.specs.Gaps.{is_within}
use Rattle.clearance.specs.Near.{ElementsNear}
use Rattle.bucket_grid.specs.declared.cell.Cell.{Cell}
use Rattle.bucket_grid.specs.declared.cell.TheConstants.{SIDE, GROWTH}
use Rattle.bucket_grid.specs.Cells.{holds, cell_count, cell_cmp, IsOwner}
use Rattle.bucket_grid.specs.ElementPlaces.{IsInOrder}

-- a point of the box when it is grown by a metre on each side
pub record IsAround (box : Extent) (p : Point) : Type 0 where
  pub x_low : (box.low.x -ℤ GROWTH) ≤ℤ p.x
  pub y_low : (box.low.y -ℤ GROWTH) ≤ℤ p.y
  pub z_low : (box.low.z -ℤ GROWTH) ≤ℤ p.z
  pub x_high : p.x ≤ℤ (box.high.x +ℤ GROWTH)
  pub y_high : p.y ≤ℤ (box.high.y +ℤ GROWTH)
  pub z_high : p.z ≤ℤ (box.high.z +ℤ GROWTH)

-- a point of the cell: on each axis from the cell's side on and before the next cell's
pub record IsInCell (c : Cell) (p : Point) : Type 0 where
  pub x_from : (c.x *ℤ SIDE) ≤ℤ p.x
  pub y_from : (c.y *ℤ SIDE) ≤ℤ p.y
  pub z_from : (c.z *ℤ SIDE) ≤ℤ p.z
  pub x_before : p.x <ℤ ((c.x +ℤ pos 1) *ℤ SIDE)
  pub y_before : p.y <ℤ ((c.y +ℤ pos 1) *ℤ SIDE)
  pub z_before : p.z <ℤ ((c.z +ℤ pos 1) *ℤ SIDE)

-- a cell holds a box exactly where a point of the grown box lies in the cell
abbrev pub CellsHoldPoints : Type 0
CellsHoldPoints =
    (c : Cell) (box : Extent) → IsInOrder box
    → (holds c box ≡ true) ↔ ((p : Point) × IsAround box p × IsInCell c p)

-- these are the cells that hold a box, each once, by rising x, y and z
pub record AreCellsOf (box : Extent) (cells : List Cell) : Type 0 where
  pub rising : AllPairs (λ (c d : Cell). cell_cmp c d ≡ Less) cells
  pub each : All (λ (c : Cell). holds c box ≡ true) cells
  pub all : (c : Cell) → holds c box ≡ true → Any (λ (d : Cell). d ≡ c) cells

-- the cells that hold a box can be listed, and are as many as the product of its spans of cells
abbrev pub CellsAreCounted : Type 0
CellsAreCounted =
    (box : Extent) → IsInOrder box
    → (cells : List Cell) × AreCellsOf box cells × (length cells ≡ cell_count box)

-- the two boxes share a cell, and the least such cell is the only one that owns them
pub record HaveOneOwner (a b : Extent) : Type 0 where
  pub owner : Cell
  pub is : IsOwner owner a b
  pub only : (c : Cell) → IsOwner c a b → c ≡ owner

-- two boxes whose gap is at most a metre on each axis have exactly one owner
abbrev pub CloseBoxesHaveAnOwner : Type 0
CloseBoxesHaveAnOwner =
    (a b : Extent) (d : ℕ) → IsInOrder a → IsInOrder b → pos d ≤ℤ GROWTH → IsTrue (is_within a d b)
    → HaveOneOwner a b

-- two elements that are near at the distance of the rule that decides them have exactly one owner
abbrev pub NearElementsHaveAnOwner : Type 0
NearElementsHaveAnOwner =
    (rules : List Rule) (a b : Element) (same : Bool) (found : Found) (k m : Extent) → IsRules rules
    → rule_of rules a b same ≡ Some found → ElementsNear a b (in_grid_numbers found.distance)
    → IsExtentOf a.triangles k → IsExtentOf b.triangles m → HaveOneOwner k m
