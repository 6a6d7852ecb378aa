-- The area of a closed polygon of space.
use Rattle.std.specs.Prelude.{List, [], ◌∷◌, ◌++◌}
use Rattle.exact_arith.specs.Space.{Vector, nowhere, plus, cross_of}
use Rattle.bim_model.specs.declared.geometry.Point.{Point}
use Rattle.bim_model.specs.Points.{vector_of}

-- the sum of p × q over each point p of the list and the point q after it
abbrev pub along : List Point → Vector
along [] = nowhere
along (p ∷ []) = nowhere
along (p ∷ q ∷ ps) = plus (cross_of (vector_of p) (vector_of q)) (along (q ∷ ps))

-- twice the area of the closed polygon, along its normal (Newell's sum): from the first point round to itself
abbrev pub normal_of : List Point → Vector
normal_of [] = nowhere
normal_of (p ∷ ps) = along (p ∷ ps ++ p ∷ [])
