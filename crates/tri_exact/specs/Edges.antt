-- A point and the inside of an edge, and the insides of two edges, by products of their directions.
use Rattle.std.specs.Prelude.{ℤ, pos, ◌+ℤ◌, ◌-ℤ◌, ◌*ℤ◌, ◌≤ℤ◌, ◌<ℤ◌}
use Rattle.exact_arith.specs.Space.{Vector, minus}
use Rattle.tri_exact.specs.Foot.{square_of, along_of, across_of, height_of}

-- a point over the inside of an edge whose square is l, at a square distance of at most m: w is the square of
-- the way from the edge's start to the point, s the product of this way and the edge
pub record Beside (l w s m : ℤ) : Type 0 where
  pub starts : pos 0 <ℤ s
  pub ends : s <ℤ l
  pub low : (l *ℤ w -ℤ s *ℤ s) ≤ℤ (m *ℤ l)

-- two lines along e and u that aren't parallel, r the way between their starts: their least distance lies
-- between the ends, and its square is at most m
pub record Crosses (e u r : Vector) (m : ℤ) : Type 0 where
  pub slanted : pos 0 <ℤ square_of e u
  pub along_in : pos 0 ≤ℤ along_of e u r
  pub along_end : along_of e u r ≤ℤ square_of e u
  pub across_in : across_of e u r ≤ℤ pos 0
  pub across_end : pos 0 ≤ℤ (square_of e u +ℤ across_of e u r)
  pub low : (height_of e u r *ℤ height_of e u r) ≤ℤ (m *ℤ square_of e u)

-- the same for the edges ab and pq
abbrev pub LinesClose : Vector → Vector → Vector → Vector → ℤ → Type 0
LinesClose a b p q m = Crosses (minus b a) (minus q p) (minus p a) m
