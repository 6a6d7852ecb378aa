-- Runs of sixteen triangles of a list, each with a box.
use Rattle.std.specs.Prelude.{ℕ, ◌+◌, ◌*◌, ◌<◌, ◌≡◌, List, [], ◌∷◌, length, All, take, drop, slice_index_or}
use Rattle.bim_model.specs.declared.geometry.Triangle.{Triangle}
use Rattle.bim_model.specs.declared.geometry.Extent.{Extent}
use Rattle.exact_arith.specs.Space.{Face}
use Rattle.clearance.specs.Near.{FacesNear, NearAny}
use Rattle.bim_model.specs.Points.{shape_of}
use Rattle.clearance.specs.inner.BoxContainment.{InExtent, IsExtent}

-- the triangles of a list lie in a box
abbrev pub AllIn : Extent → List Triangle → Type 0
AllIn k ts = All (λ (t : Triangle). InExtent k (shape_of t)) ts

-- if t is near to anything in the box `around`, it lies in the box k
abbrev pub Reaches : Extent → ℕ → Extent → Triangle → Type 0
Reaches around d k t = (s : Face) → InExtent around s → FacesNear s (shape_of t) d → InExtent k (shape_of t)

-- each triangle reaches the box within a distance
abbrev pub AllReach : Extent → ℕ → Extent → List Triangle → Type 0
AllReach around d k ts = All (λ (t : Triangle). Reaches around d k t) ts

-- the first box is for the first sixteen triangles, the second for the next sixteen, and so on to the end
abbrev pub RunsIn : Extent → ℕ → List Extent → List Triangle → Type 0
RunsIn around d [] ts = ts ≡ []
RunsIn around d (k ∷ ks) ts = IsExtent k × AllReach around d k (take 16 ts) × RunsIn around d ks (drop 16 ts)

-- no triangle of ps at the place i, sixteen on and so on is near to one of qs
abbrev pub NoneInRow : List Triangle → ℕ → List Triangle → ℕ → Type 0
NoneInRow ps i qs d =
    (j : ℕ) (p : Triangle) → 16 * j + i < length ps → NearAny (slice_index_or ps (16 * j + i) p) qs d → ⊥
