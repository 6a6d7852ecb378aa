-- The triangles found so far, before those that are to come.
use Rattle.std.proofs.Common.{◌≡◌, ◌∙◌, ap, sym, refl, subst, ℕ, zero, suc, ◌+◌, ◌-◌, ◌<◌, Bool, true, false, cond, List, [], ◌∷◌, ◌++◌, append_assoc, length, All, Option, Some, None, arith}
use Rattle.std.specs.Prelude.{remove, slice_index_or}
use Rattle.std.specs.Option.{option_map, option_and_then}
use Rattle.bim_model.specs.declared.geometry.Point.{Point}
use Rattle.ear_cut.specs.declared.polygon_view.View.{View}
use Rattle.ear_cut.specs.declared.corners.Corner.{Corner}
use Rattle.ear_cut.specs.declared.ears.Ear.{Ear}
use Rattle.bim_model.specs.Points.{IsGridPoint}
use Rattle.bim_model.specs.Polygons.{normal_of}
use Rattle.ear_cut.specs.PolygonViews.{view_of}
use Rattle.ear_cut.specs.Corners.{corners_from, turn_at, angle_of, AreInGrid}
use Rattle.ear_cut.proofs.Places.{length-corners}
use Rattle.ear_cut.specs.Removal.{choice, ear_of, is_turned_over, cut_by, cut_of}

-- the list done, and what comes after it
abbrev pub behind : List Ear → Option (List Ear) → Option (List Ear)
behind done rest = option_map (λ more. done ++ more) rest

behind_one : (done : List Ear) (e : Ear) (rest : Option (List Ear)) → behind done (option_map (λ more. e ∷ more) rest) ≡ behind (done ++ e ∷ []) rest
behind_one done e None = refl
behind_one done e (Some more) = ap Some (sym (append_assoc done (e ∷ []) more))

pub step_on : (view : Option View) (n m : ℕ) (left : List Corner) (i : ℕ) (done : List Ear) (whole : Option (List Ear)) → n ≡ suc m → Some i ≡ choice view left → whole ≡ behind done (cut_by view n left) → whole ≡ behind (done ++ ear_of (turn_at left i) ∷ []) (cut_by view m (remove left i))
unfolding cut_by
step_on view n m left i done whole e f h =
    h ∙ (ap (λ (j : ℕ). behind done (cut_by view j left)) e
    ∙ (ap (λ (o : Option ℕ). behind done (option_and_then (λ i. option_map (λ ears. ear_of (turn_at left i) ∷ ears) (cut_by view m (remove left i))) o)) (sym f)
    ∙ behind_one done (ear_of (turn_at left i)) (cut_by view m (remove left i))))

pub step_stuck : (view : Option View) (n m : ℕ) (left : List Corner) (done : List Ear) (whole : Option (List Ear)) → n ≡ suc m → None ≡ choice view left → whole ≡ behind done (cut_by view n left) → whole ≡ None
unfolding cut_by
step_stuck view n m left done whole e f h =
    h ∙ (ap (λ (j : ℕ). behind done (cut_by view j left)) e
    ∙ ap (λ (o : Option ℕ). behind done (option_and_then (λ i. option_map (λ ears. ear_of (turn_at left i) ∷ ears) (cut_by view m (remove left i))) o)) (sym f))

pub last_one : (view : Option View) (n : ℕ) (left : List Corner) (done : List Ear) (whole : Option (List Ear)) → n ≡ 0 → is_turned_over view (angle_of view (turn_at left 1)) ≡ false → whole ≡ behind done (cut_by view n left) → whole ≡ Some (done ++ ear_of (turn_at left 1) ∷ [])
unfolding cut_by
last_one view n left done whole e f h =
    h ∙ (ap (λ (j : ℕ). behind done (cut_by view j left)) e ∙ ap (λ (b : Bool). behind done (cond b None (Some (ear_of (turn_at left 1) ∷ [])))) f)

pub last_stuck : (view : Option View) (n : ℕ) (left : List Corner) (done : List Ear) (whole : Option (List Ear)) → n ≡ 0 → is_turned_over view (angle_of view (turn_at left 1)) ≡ true → whole ≡ behind done (cut_by view n left) → whole ≡ None
unfolding cut_by
last_stuck view n left done whole e f h =
    h ∙ (ap (λ (j : ℕ). behind done (cut_by view j left)) e ∙ ap (λ (b : Bool). behind done (cond b None (Some (ear_of (turn_at left 1) ∷ [])))) f)

pub behind_nothing : (o : Option (List Ear)) → o ≡ behind [] o
behind_nothing None = refl
behind_nothing (Some more) = refl

pub begun : (points : List Point) (view : Option View) (left : List Corner) → view ≡ view_of (normal_of points) → left ≡ corners_from 0 points → cut_of points ≡ cut_by view (length left - 3) left
unfolding cut_of
begun points view left e f =
    sym (ap (λ (v : Option View). cut_by v (length left - 3) left) e
    ∙ (ap (λ (cs : List Corner). cut_by (view_of (normal_of points)) (length cs - 3) cs) f
    ∙ ap (λ (n : ℕ). cut_by (view_of (normal_of points)) (n - 3) (corners_from 0 points)) (length-corners 0 points)))

-- corners at points of the grid
by_points : (n : ℕ) (points : List Point) → All IsGridPoint points → (k : ℕ) (d : Corner) → k < length (corners_from n points) → IsGridPoint (slice_index_or (corners_from n points) k d).point
by_points n [] a k d h = absurd (omega (arith, h))
by_points n (p ∷ ps) a zero d h = a 0 p (omega arith)
by_points n (p ∷ ps) a (suc k) d h = by_points (n + 1) ps (λ j e l. a (suc j) e (omega (arith, l))) k d (omega (arith, h))

pub corners_in_grid : (points : List Point) (left : List Corner) → left ≡ corners_from 0 points → All IsGridPoint points → AreInGrid left
unfolding AreInGrid
corners_in_grid points left e a = subst (λ (cs : List Corner). All (λ (c : Corner). IsGridPoint c.point) cs) (sym e) (by_points 0 points a)
