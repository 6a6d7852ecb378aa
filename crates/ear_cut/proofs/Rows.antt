-- Small rows of the definitions, computed. All but the first three were worked out by another program.
use Rattle.std.proofs.Common.{◌≡◌, refl, ℤ, ℕ, pos, negsuc, [], ◌∷◌, Some, None}
use Rattle.bim_model.specs.declared.geometry.Point.{Point}
use Rattle.ear_cut.specs.declared.ears.Ear.{Ear}
use Rattle.ear_cut.specs.Removal.{cut_of, cut_by, choice}
use Rattle.ear_cut.specs.Corners.{angle_of, turn_at}
use Rattle.ear_cut.specs.PolygonViews.{area, holds}

abbrev at : ℤ → ℤ → ℤ → Point
at x y z = record { x = x; y = y; z = z }

abbrev ear : ℕ → ℕ → ℕ → Ear
ear a b c = record { a = a; b = b; c = c }

l_shape : cut_of (at (pos 0) (pos 0) (pos 0) ∷ at (pos 4000) (pos 0) (pos 0) ∷ at (pos 4000) (pos 2000) (pos 0) ∷ at (pos 2000) (pos 2000) (pos 0) ∷ at (pos 2000) (pos 4000) (pos 0) ∷ at (pos 0) (pos 4000) (pos 0) ∷ []) ≡ Some (ear 0 1 2 ∷ ear 0 2 3 ∷ ear 5 0 3 ∷ ear 3 4 5 ∷ [])
unfolding cut_of cut_by choice angle_of turn_at area holds
l_shape = refl

straight_corner : cut_of (at (pos 0) (pos 0) (pos 0) ∷ at (pos 1000) (pos 0) (pos 0) ∷ at (pos 2000) (pos 0) (pos 0) ∷ at (pos 2000) (pos 2000) (pos 0) ∷ at (pos 0) (pos 2000) (pos 0) ∷ []) ≡ Some (ear 0 1 2 ∷ ear 4 0 2 ∷ ear 2 3 4 ∷ [])
unfolding cut_of cut_by choice angle_of turn_at area holds
straight_corner = refl

bow_tie : cut_of (at (pos 0) (pos 0) (pos 0) ∷ at (pos 2000) (pos 2000) (pos 0) ∷ at (pos 2000) (pos 0) (pos 0) ∷ at (pos 0) (pos 2000) (pos 0) ∷ []) ≡ None
unfolding cut_of cut_by choice angle_of turn_at area holds
bow_tie = refl

view_of_x : cut_of (at (negsuc 19) (negsuc 14) (pos 36) ∷ at (negsuc 33) (pos 10) (pos 64) ∷ at (pos 3) (pos 27) (negsuc 9) ∷ at (pos 10) (pos 28) (negsuc 23) ∷ at (pos 6) (pos 27) (negsuc 15) ∷ at (pos 10) (pos 9) (negsuc 23) ∷ []) ≡ Some (ear 5 0 1 ∷ ear 5 1 2 ∷ ear 2 3 4 ∷ ear 2 4 5 ∷ [])
unfolding cut_of cut_by choice angle_of turn_at area holds
view_of_x = refl

view_of_y : cut_of (at (pos 166) (pos 1001) (pos 999) ∷ at (negsuc 605) (pos 958) (pos 956) ∷ at (negsuc 143) (pos 500) (pos 498) ∷ at (negsuc 451) (negsuc 163) (negsuc 165) ∷ at (pos 183) (pos 548) (pos 546) ∷ at (pos 252) (negsuc 323) (negsuc 325) ∷ []) ≡ Some (ear 0 1 2 ∷ ear 0 2 3 ∷ ear 0 3 4 ∷ ear 0 4 5 ∷ [])
unfolding cut_of cut_by choice angle_of turn_at area holds
view_of_y = refl

repeated_points : cut_of (at (negsuc 5) (negsuc 2) (pos 7) ∷ at (negsuc 7) (pos 2) (pos 11) ∷ at (negsuc 5) (negsuc 2) (pos 7) ∷ at (pos 0) (negsuc 2) (negsuc 4) ∷ at (pos 4) (pos 8) (negsuc 12) ∷ at (negsuc 3) (pos 10) (pos 3) ∷ []) ≡ Some (ear 0 1 2 ∷ ear 5 0 2 ∷ ear 5 2 3 ∷ ear 3 4 5 ∷ [])
unfolding cut_of cut_by choice angle_of turn_at area holds
repeated_points = refl

stuck : cut_of (at (negsuc 0) (pos 2) (negsuc 0) ∷ at (pos 4) (pos 4) (negsuc 1) ∷ at (negsuc 2) (pos 6) (negsuc 2) ∷ at (pos 3) (pos 2) (negsuc 0) ∷ at (negsuc 0) (pos 8) (negsuc 3) ∷ []) ≡ None
unfolding cut_of cut_by choice angle_of turn_at area holds
stuck = refl

no_normal : cut_of (at (negsuc 1) (pos 2) (negsuc 0) ∷ at (pos 2) (negsuc 0) (pos 3) ∷ at (negsuc 0) (pos 2) (pos 0) ∷ at (pos 1) (negsuc 0) (pos 2) ∷ []) ≡ None
unfolding cut_of cut_by choice angle_of turn_at area holds
no_normal = refl
