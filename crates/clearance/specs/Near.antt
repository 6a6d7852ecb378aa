-- When two triangles, and two elements, are near at a distance d.
--
-- A point of a triangle is a sum of its corners times whole weights that are not negative, over the sum A of
-- the weights, which is above zero. Two triangles are near where such points of theirs are at most d apart:
-- |B · (a1·p1 + a2·p2 + a3·p3) - A · (b1·q1 + b2·q2 + b3·q3)|² ≤ d²·A²·B². Two elements are near where a
-- triangle of one and a triangle of the other are.
use Rattle.std.specs.Prelude.{ℕ, ◌+◌, ◌*◌, ◌<◌, pos, List, All, Any}
use Rattle.exact_arith.specs.Space.{minus, times, Face}
use Rattle.tri_exact.specs.Within.{mix3, IsWithin}
use Rattle.bim_model.specs.Points.{shape_of, IsInGrid}
use Rattle.bim_model.specs.declared.geometry.Triangle.{Triangle}
use Rattle.bim_model.specs.declared.element.Element.{Element}

-- a point of the closed face t is at most d from one of s
unfoldable pub FacesNear : Face → Face → ℕ → Type 0
FacesNear t s d =
    (i : ℕ) × (j : ℕ) × (k : ℕ) × (l : ℕ) × (m : ℕ) × (n : ℕ) × (0 < i + j + k) × (0 < l + m + n)
    × IsWithin d ((i + j + k) * (l + m + n))
    (minus (times (pos (l + m + n)) (mix3 t (pos i) (pos j) (pos k)))
    (times (pos (i + j + k)) (mix3 s (pos l) (pos m) (pos n))))

-- two triangles are near
abbrev pub Near : Triangle → Triangle → ℕ → Type 0
Near p q d = FacesNear (shape_of p) (shape_of q) d

-- a triangle of the list is near to p
abbrev pub NearAny : Triangle → List Triangle → ℕ → Type 0
NearAny p qs d = Any (λ (q : Triangle). Near p q d) qs

-- a triangle of one list is near a triangle of the other
abbrev pub ListsNear : List Triangle → List Triangle → ℕ → Type 0
ListsNear ps qs d = Any (λ (p : Triangle). NearAny p qs d) ps

-- two elements are near: a triangle of one and a triangle of the other are
unfoldable pub ElementsNear : Element → Element → ℕ → Type 0
ElementsNear a b d = ListsNear a.triangles b.triangles d

-- each corner of the element's surface is a point of the grid
unfoldable pub ElementInGrid : Element → Type 0
ElementInGrid a = All IsInGrid a.triangles
