-- The points of a list lie on the grid.
use Rattle.std.proofs.Common.{ℕ, zero, suc, List, [], ◌∷◌, All, arith}
use Rattle.std.specs.List.{AllZip}
use Rattle.bim_model.specs.declared.geometry.Point.{Point}
use Rattle.bim_model.specs.declared.upload.Mode.{Mode}
use Rattle.p21_values.specs.declared.value.Value21.{Value21}
use Rattle.p21_values.specs.declared.value.Instance.{Instance}
use Rattle.bim_model.specs.Points.{IsGridPoint}
use Rattle.ifc_units.specs.declared.scale.Scale.{Scale}
use Rattle.ifc_units.specs.Lengths.{IsPoint, ArePoints}
use Rattle.ifc_elements.specs.PointTables.{ListsPoints}

-- what holds of each thing of a second list
zip_all : {A B : Type 0} (R : A → B → Type 0) (P : B → Type 0) → ((a : A) (b : B) → R a b → P b) → (xs : List A) (ys : List B) → AllZip R xs ys → All P ys
zip_all R P f xs [] z k d lt = absurd (omega (arith, lt))
zip_all R P f [] (y ∷ ys) z k d lt = absurd z
zip_all R P f (x ∷ xs) (y ∷ ys) z zero d lt = f x y z.0
zip_all R P f (x ∷ xs) (y ∷ ys) z (suc k) d lt = zip_all R P f xs ys z.1 k d (omega (arith, lt))

pub grid_point : (scale : Scale) (mode : Mode) (v : Value21) (p : Point) → IsPoint scale mode v p → IsGridPoint p
grid_point scale mode v p h =
    let x = h.x.near in
    let y = h.y.near in
    let z = h.z.near in
    record { x_in = omega (arith, x); y_in = omega (arith, y); z_in = omega (arith, z) }

pub grid_points : (scale : Scale) (mode : Mode) (vs : List Value21) (ps : List Point) → ArePoints scale mode vs ps → All IsGridPoint ps
grid_points scale mode vs ps are = zip_all (IsPoint scale mode) IsGridPoint (grid_point scale mode) vs ps are

-- those of a list of points
pub listed_grid : (world : List Instance) (scale : Scale) (mode : Mode) (list : ℕ) (points : List Point) → ListsPoints world scale mode list points → All IsGridPoint points
listed_grid world scale mode list points l = grid_points scale mode _ points l.holds.are
