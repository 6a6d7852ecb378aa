-- The boxes of a version's elements, found from their triangles.
use Rattle.std.specs.Prelude.{ℤ, pos, List, [], ◌∷◌, map, fold, length}
use Rattle.std.specs.Int.{int_min, int_max}
use Rattle.bim_model.specs.declared.geometry.Point.{Point}
use Rattle.bim_model.specs.declared.geometry.Triangle.{Triangle}
use Rattle.bim_model.specs.declared.geometry.Extent.{Extent}
use Rattle.bim_model.specs.Boxes.{corners_of}
use Rattle.bim_model.specs.Keys.{Subject, subjects_of}
use Rattle.bim_model.specs.Snapshots.{Version}

-- the least of some numbers, 0 where there is none
abbrev pub least : List ℤ → ℤ
least [] = pos 0
least (x ∷ xs) = fold int_min x xs

-- the greatest
abbrev pub greatest : List ℤ → ℤ
greatest [] = pos 0
greatest (x ∷ xs) = fold int_max x xs

-- the point whose coordinates are chosen of the points', axis by axis
abbrev pub chosen : (List ℤ → ℤ) → List Point → Point
chosen choose points = record {
  x = choose (map (λ (p : Point). p.x) points);
  y = choose (map (λ (p : Point). p.y) points);
  z = choose (map (λ (p : Point). p.z) points);
}

-- the smallest box round some triangles
abbrev pub box_of : List Triangle → Extent
box_of triangles =
    record { low = chosen least (corners_of triangles); high = chosen greatest (corners_of triangles) }

-- the boxes of a version's elements, by their numbers
abbrev pub boxes_of : Version → List Extent
boxes_of version = map (λ (s : Subject). box_of s.element.triangles) (subjects_of version.models)
