-- The neighbours in a closed list of corners.
use Rattle.std.proofs.Common.{ℕ, ◌<◌, List, length, arith}
use Rattle.std.proofs.lemmas.Bool.Decides.{nat_tests}
use Rattle.std.specs.Prelude.{slice_index_or}
use Rattle.ear_cut.specs.declared.corners.Corner.{Corner}
use Rattle.bim_model.specs.Points.{IsGridPoint}
use Rattle.ear_cut.specs.Corners.{previous, next, nobody, turn_at, InGrid, AreInGrid}

pub previous_within : (n i : ℕ) → i < n → previous n i < n
previous_within n i h = grind (arith, nat_tests)

pub next_within : (n i : ℕ) → i < n → next n i < n
next_within n i h = grind (arith, nat_tests)

pub turn_in_grid : (left : List Corner) (i : ℕ) → AreInGrid left → i < length left → InGrid (turn_at left i)
unfolding AreInGrid turn_at
turn_in_grid left i a h = record {
  before_in = a (previous (length left) i) nobody (previous_within (length left) i h);
  corner_in = a i nobody h;
  after_in = a (next (length left) i) nobody (next_within (length left) i h);
}

pub corner_in_grid : (left : List Corner) (i : ℕ) (d : Corner) → AreInGrid left → i < length left → IsGridPoint (slice_index_or left i d).point
unfolding AreInGrid
corner_in_grid left i d a h = a i d h
