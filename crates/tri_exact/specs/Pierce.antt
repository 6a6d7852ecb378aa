-- A segment that goes through a triangle from one side of its plane to the other, by heights and volumes.
use Rattle.std.specs.Prelude.{ℤ, pos, ◌≤ℤ◌, ◌<ℤ◌, ◌⊎◌}
use Rattle.exact_arith.specs.Space.{Vector, minus, dot_of, Face, normal}
use Rattle.tri_exact.specs.Foot.{orient_of}

-- the height of p over the triangle's plane, times the normal's length
abbrev pub height : Vector → Face → ℤ
height p t = dot_of (minus p t.a) (normal t)

-- the volumes of the segment pq with the three edges
abbrev pub weight_a : Vector → Vector → Face → ℤ
weight_a p q t = orient_of p t.b t.c q

-- the weight of the second corner where a line goes through the plane of a face
abbrev pub weight_b : Vector → Vector → Face → ℤ
weight_b p q t = orient_of p t.c t.a q

-- the weight of the third corner there
abbrev pub weight_c : Vector → Vector → Face → ℤ
weight_c p q t = orient_of p t.a t.b q

-- from the height h to the height k, with three volumes that aren't negative
pub record Rises (h k u v w : ℤ) : Type 0 where
  pub low : h ≤ℤ pos 0
  pub high : pos 0 ≤ℤ k
  pub steep : h <ℤ k
  pub a_in : pos 0 ≤ℤ u
  pub b_in : pos 0 ≤ℤ v
  pub c_in : pos 0 ≤ℤ w

-- the segment goes up through the triangle
abbrev pub Up : Vector → Vector → Face → Type 0
Up p q t = Rises (height p t) (height q t) (weight_a p q t) (weight_b p q t) (weight_c p q t)

-- it meets the triangle, and isn't parallel to its plane
abbrev pub PiercesFace : Vector → Vector → Face → Type 0
PiercesFace p q t = Up p q t ⊎ Up q p t
