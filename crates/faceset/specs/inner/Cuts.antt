-- What the cutting of faces answers. No public contract cites it.
use Rattle.std.specs.Prelude.{◌≡◌, ◌⊎◌, ℕ, ◌<◌, List, length, map, Option, Some, None, Any}
use Rattle.std.specs.Bool.{⊤}
use Rattle.std.specs.List.{flat_map}
use Rattle.p21_values.specs.declared.value.Value21.{Value21}
use Rattle.p21_values.specs.declared.value.Instance.{Instance}
use Rattle.p21_values.specs.Attributes.{items_in}
use Rattle.bim_model.specs.declared.geometry.Point.{Point}
use Rattle.ear_cut.specs.OutlineLimits.{most_corners as most_outline}
use Rattle.void_bridge.specs.HoleLoops.{IsLoop, AreLoops}
use Rattle.faceset.specs.declared.faces.FaceLoops.{FaceLoops}
use Rattle.faceset.specs.declared.faces.Outcome.{Outcome}
use Rattle.faceset.specs.declared.faces.Outcome.TheVariants as outcome
use Rattle.faceset.specs.FaceSets.{all_corners, IsMisnamed, IsOutlined, AreLoopsOf, IsCut, IsStuck, IsUnbridged, face_count}

-- the most corners of a polygon that is cut
abbrev pub polygon_limit : ℕ
polygon_limit = most_outline

-- how many corners loops have, as they are spelled
abbrev pub corner_total : List Value21 → ℕ
corner_total rows = length (flat_map (λ (loop : List Value21). loop) (map items_in rows))

-- a loop has too few corners, or an index of it names no point
abbrev pub IsUnread : Option (List Value21) → List Point → List Value21 → Type 0
IsUnread numbers points indexes = 2 < length indexes → Any (IsMisnamed numbers (length points)) indexes

-- an index of the face names no point
abbrev pub HasMisnamed : Option (List Value21) → List Point → Instance → Type 0
HasMisnamed numbers points face = Any (IsMisnamed numbers (length points)) (all_corners face)

-- the loops of a face were read
pub record AreReadLoops (numbers : Option (List Value21)) (points : List Point) (face : Instance)
    (made : FaceLoops) : Type 0 where
  pub are_loops : AreLoopsOf numbers points face made.outer.items (map (λ ring. ring.items) made.inner.items)
  pub outer : IsLoop made.outer.items
  pub inner : AreLoops (map (λ ring. ring.items) made.inner.items)

-- .. or, where it isn't ready, weren't
abbrev pub AreRead : Option (List Value21) → List Point → Instance → Option FaceLoops → Type 0
AreRead numbers points face (Some made) = AreReadLoops numbers points face made
AreRead numbers points face None = IsOutlined face → HasMisnamed numbers points face

-- what comes of a face
abbrev pub IsOutcome : Option (List Value21) → List Point → Instance → Outcome → Type 0
IsOutcome numbers points face (outcome.Cut triangles) = IsCut numbers points face triangles.items
IsOutcome numbers points face outcome.Stuck =
    IsStuck numbers points face × (IsUnbridged numbers points face → ⊥)
IsOutcome numbers points face outcome.Unbridged = IsUnbridged numbers points face
IsOutcome numbers points face outcome.Unready = IsOutlined face → HasMisnamed numbers points face

-- a face that is cut has as many triangles as its corners tell
abbrev pub IsCounted : Instance → Outcome → Type 0
IsCounted face (outcome.Cut triangles) = length triangles.items ≡ face_count face
IsCounted face outcome.Stuck = ⊤
IsCounted face outcome.Unbridged = ⊤
IsCounted face outcome.Unready = ⊤

-- a face is stuck, or isn't ready to be cut
abbrev pub IsLoose : Option (List Value21) → List Point → Instance → Type 0
IsLoose numbers points face = IsStuck numbers points face
    ⊎ (IsOutlined face → HasMisnamed numbers points face)
