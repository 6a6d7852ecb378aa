-- Building models.
use Rattle.std.specs.Prelude.{ℕ, ℤ, pos, ◌-ℤ◌, ◌≤ℤ◌, ◌≤◌, ◌<◌, List, length, sum_by, Bool, IsTrue, All, AllPairs}
use Rattle.std.specs.List.{AllZip}
use Rattle.std.specs.Ordering.{nat_cmp, is_lt}
use Rattle.std.specs.Cmp.Lexicographic.{slice_cmp}
use Rattle.bim_model.specs.Guids.{IsGuid}
use Rattle.bim_model.specs.Boxes.{corners_of, IsExtentOf}
use Rattle.bim_model.specs.declared.geometry.Point.{Point}
use Rattle.bim_model.specs.declared.geometry.Extent.{Extent}
use Rattle.bim_model.specs.declared.geometry.TheConstants.{FARTHEST}
use Rattle.bim_model.specs.declared.limits.TheConstants.{MOST_TRIANGLES}
use Rattle.bim_model.specs.declared.element.Element.{Element}

-- the order of texts and identifiers: by their bytes, from the first on
abbrev pub is_below : List ℕ → List ℕ → Bool
is_below a b = is_lt (slice_cmp nat_cmp a b)

-- 800 metres, in grid numbers
abbrev pub farthest : ℤ
farthest = FARTHEST

-- within 800 metres of zero on each axis
pub record IsInReach (p : Point) : Type 0 where
  pub x_low : (pos 0 -ℤ farthest) ≤ℤ p.x
  pub x_high : p.x ≤ℤ farthest
  pub y_low : (pos 0 -ℤ farthest) ≤ℤ p.y
  pub y_high : p.y ≤ℤ farthest
  pub z_low : (pos 0 -ℤ farthest) ≤ℤ p.z
  pub z_high : p.z ≤ℤ farthest

-- an identifier that was read, at least one triangle, and all corners in reach
pub record IsModelled (element : Element) : Type 0 where
  pub guid : IsGuid element.guid.chars
  pub some : 0 < length element.triangles
  pub near : All IsInReach (corners_of element.triangles)

-- the number of triangles of all elements
abbrev pub triangle_count : List Element → ℕ
triangle_count elements = sum_by (λ (e : Element). length e.triangles) elements

-- a building model: elements with surfaces, strictly rising by identifier, with at most a million triangles
pub record IsModel (elements : List Element) : Type 0 where
  pub rising : AllPairs (λ (e f : Element). IsTrue (is_below e.guid.chars f.guid.chars)) elements
  pub modelled : All IsModelled elements
  pub few : triangle_count elements ≤ MOST_TRIANGLES

-- the smallest box round an element
abbrev pub IsBoxOf : Element → Extent → Type 0
IsBoxOf element extent = IsExtentOf element.triangles extent

-- the smallest boxes round these elements, in their order
abbrev pub AreBoxes : List Element → List Extent → Type 0
AreBoxes elements extents = AllZip IsBoxOf elements extents
