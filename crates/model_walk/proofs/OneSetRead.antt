-- What is read of a set, where its list's points are in the pool.
use Rattle.std.proofs.Common.{◌≡◌, ℕ, ◌<◌, true, pos, List, length, get_or, Option, Some, sym, arith}
use Rattle.std.specs.List.{All}
use Rattle.std.proofs.lemmas.List.{length-map}
use Rattle.bim_model.specs.declared.upload.Mode.{Mode}
use Rattle.bim_model.specs.declared.geometry.Point.{Point}
use Rattle.bim_model.specs.Points.{IsGridPoint}
use Rattle.bim_model.specs.Models.{IsInReach}
use Rattle.p21_values.specs.declared.value.Instance.{Instance}
use Rattle.p21_values.specs.Attributes.{listed, reference_at}
use Rattle.p21_values.specs.InstancePlaces.{IsPlaceOf}
use Rattle.p21_values.proofs.PlaceLemmas.{found_at, some_instance}
use Rattle.ifc_units.specs.declared.scale.Scale.{Scale}
use Rattle.ifc_units.specs.Lengths.{IsPoint}
use Rattle.ifc_units.proofs.PointFacts.{point_near}
use Rattle.faceset.specs.FaceSets.{is_set, numbering, spelled_points, SetTriangles}
use Rattle.faceset.proofs.Held.{set_holds}
use Rattle.faceset.proofs.Zips.{zip_length, zip_all}
use Rattle.ifc_elements.proofs.OneSet.{own_points}
use Rattle.ifc_elements.proofs.PointsOnGrid.{grid_points}
use Rattle.walk_rows.specs.Pools.{pooled}
use Rattle.walk_rows.specs.Rows.{triangle_at, triangles_at}
use Rattle.walk_rows.specs.SetRows.{HasNumbering, NamesPoints, NamesFaces}
use Rattle.walk_rows.proofs.IndexesNamed.{set_good}
use Rattle.walk_rows.proofs.RowsCounted.{set_count}
use Rattle.model_walk.specs.declared.set_pool.SetRows.{SetRows}
use Rattle.model_walk.specs.inner.PooledSets.{ArePooled, IsRead}
use Rattle.model_walk.proofs.SetForms.{set_formed}

-- points of a pool lie on the grid
pub pooled_grid : (world : List Instance) (scale : Scale) (mode : Mode) (pool : List (Option (List Point))) (at : ℕ) (points : List Point) → ArePooled world scale mode pool → pooled pool at ≡ Some points → All IsGridPoint points
pooled_grid world scale mode pool at points are there = let h = are at points there some_instance in grid_points scale mode (listed (get_or world at some_instance) 0) points h.0.are

origin_near : IsInReach (record { x = pos 0; y = pos 0; z = pos 0 })
origin_near = record { x_low = search arith; x_high = search arith; y_low = search arith; y_high = search arith; z_low = search arith; z_high = search arith }

pub is_read : (world : List Instance) (scale : Scale) (mode : Mode) (pool : List (Option (List Point))) (kept : SetRows) (set : Instance) (id : ℕ) (points : List Point) → is_set set ≡ true → reference_at set 0 ≡ Some id
    → IsPlaceOf world id kept.list → ArePooled world scale mode pool → pooled pool kept.list ≡ Some points → HasNumbering set → NamesPoints (length points) (numbering set) → NamesFaces world set
    → SetTriangles world points set (triangles_at points kept.rows) → 0 < length kept.rows → IsRead world scale mode pool kept set
is_read world scale mode pool kept set id points kind refers place are there has names faces triangles some =
    let i = get_or world kept.list some_instance in
    let stands = found_at world id kept.list some_instance place in
    let list = are kept.list points there some_instance in
    let own = own_points world scale mode set id points refers (record { instance = i; found = stands; holds = list.0 }) in
    let long = zip_length (IsPoint scale mode) (spelled_points world set) points own in
    let ts = triangles_at points kept.rows in
    let many = length-map kept.rows (triangle_at points) in
    record {
      kind = kind;
      found = points;
      there = there;
      rows = record {
        surface = record { points = points; are_points = own; are_triangles = triangles };
        near = set_holds IsInReach origin_near world points set ts (zip_all (IsPoint scale mode) IsInReach (point_near scale mode) (spelled_points world set) points own) triangles;
        count = set_count world points set ts triangles;
      };
      some = some;
      indexed = set_good world points set ts (sym long) names triangles;
      formed = λ mapped. set_formed world mapped points set ts id i kind refers stands list.0.kind has names faces triangles (omega (arith, some, many));
    }
