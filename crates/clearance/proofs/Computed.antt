-- The truth value of small rows, by computing it.
use Rattle.std.proofs.Common.{◌≡◌, ℤ, pos, negsuc, true, false, refl}
use Rattle.exact_arith.specs.Space.{Vector, Face}
use Rattle.clearance.specs.Decided.{is_face_near}

abbrev at : ℤ → ℤ → ℤ → Vector
at x y z = record { x = x; y = y; z = z }

abbrev level : ℤ → Face
level z = record { a = at (pos 0) (pos 0) z; b = at (pos 10) (pos 0) z; c = at (pos 0) (pos 10) z }

-- one triangle 5 above the other
at_five : is_face_near (level (pos 0)) (level (pos 5)) (pos 25) ≡ true
at_five = refl

below_five : is_face_near (level (pos 0)) (level (pos 5)) (pos 24) ≡ false
below_five = refl

-- an edge through the other triangle
abbrev upright : Face
upright = record { a = at (pos 2) (pos 2) (negsuc 4); b = at (pos 2) (pos 2) (pos 5); c = at (pos 3) (pos 3) (pos 50) }

crossed : is_face_near (level (pos 0)) upright (pos 0) ≡ true
crossed = refl

-- a point and a segment, 3 to the side and 4 above
abbrev point : Face
point = record { a = at (pos 5) (pos 3) (pos 4); b = at (pos 5) (pos 3) (pos 4); c = at (pos 5) (pos 3) (pos 4) }

abbrev segment : Face
segment = record { a = at (pos 0) (pos 0) (pos 0); b = at (pos 10) (pos 0) (pos 0); c = at (pos 4) (pos 0) (pos 0) }

beside : is_face_near point segment (pos 25) ≡ true
beside = refl

too_far : is_face_near point segment (pos 24) ≡ false
too_far = refl

-- two edges that cross 7 apart
abbrev across : Face
across = record { a = at (pos 5) (negsuc 9) (pos 7); b = at (pos 5) (pos 10) (pos 7); c = at (pos 5) (pos 0) (pos 7) }

over_inside : is_face_near segment across (pos 49) ≡ true
over_inside = refl

not_over_inside : is_face_near segment across (pos 48) ≡ false
not_over_inside = refl
