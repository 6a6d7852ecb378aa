-- Corners as a face.
use Rattle.exact_arith.specs.Space.{Face}
use Rattle.tri_exact.specs.GridVectors.{at, IsPoint}
use Rattle.clearance.specs.declared.corner_vectors.Corners.{Corners}

-- the face of three corners
abbrev pub face_of : Corners → Face
face_of t = record { a = at t.a; b = at t.b; c = at t.c }

-- each corner lies on the grid
pub record InGrid (t : Corners) : Type 0 where
  pub a_in : IsPoint t.a
  pub b_in : IsPoint t.b
  pub c_in : IsPoint t.c
