-- An inner loop by the sign of its area: as it is given, or turned round.
use Rattle.std.proofs.Common.{◌≡◌, ◌∙◌, ap, sym, ℕ, Bool, true, false, cond, List}
use Rattle.std.specs.Prelude.{pos, int_lt}
use Rattle.bim_model.specs.declared.geometry.Point.{Point}
use Rattle.ear_cut.specs.declared.polygon_view.View.{View}
use Rattle.ear_cut.specs.declared.corners.Corner.{Corner}
use Rattle.ear_cut.specs.Corners.{corners_from}
use Rattle.void_bridge.specs.HoleLoops.{area_of, backwards, oriented}
use Rattle.void_bridge.proofs.JoinedAreas.{points_of_outer}

by_area : (view : View) (n : ℕ) (points : List Point) (b : Bool) → b ≡ int_lt (pos 0) (area_of view points) → cond b (backwards (corners_from n points)) (corners_from n points) ≡ oriented view (corners_from n points)
unfolding oriented
by_area view n points b e =
    ap (λ (t : Bool). cond t (backwards (corners_from n points)) (corners_from n points))
    (e ∙ ap (λ (ps : List Point). int_lt (pos 0) (area_of view ps)) (sym (points_of_outer n points)))

pub as_given : (view : View) (n : ℕ) (points : List Point) (corners : List Corner) (b : Bool) → corners ≡ corners_from n points → b ≡ int_lt (pos 0) (area_of view points) → b ≡ false → corners ≡ oriented view (corners_from n points)
as_given view n points corners b e f g = e ∙ (sym (ap (λ (t : Bool). cond t (backwards (corners_from n points)) (corners_from n points)) g) ∙ by_area view n points b f)

pub turned : (view : View) (n : ℕ) (points : List Point) (corners made : List Corner) (b : Bool) → corners ≡ corners_from n points → b ≡ int_lt (pos 0) (area_of view points) → b ≡ true → made ≡ backwards corners → made ≡ oriented view (corners_from n points)
turned view n points corners made b e f g h =
    h ∙ (ap (λ (cs : List Corner). backwards cs) e ∙ (sym (ap (λ (t : Bool). cond t (backwards (corners_from n points)) (corners_from n points)) g) ∙ by_area view n points b f))
