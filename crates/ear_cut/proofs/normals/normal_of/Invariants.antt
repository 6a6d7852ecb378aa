use Rattle.std.proofs.Common.{◌≡◌, ◌*◌, ◌∷◌, take}
use Rattle.bim_model.specs.Polygons.{along}
use Rattle.bim_model.specs.Points.{IsGridPoint}
use Rattle.ear_cut.specs.Registers.{as_vector, IsWithin}
use Rattle.ear_cut.proofs.Newell.{last_of}
use Rattle.ear_cut.proofs.normals.normal_of.Given as goal

abbrev pub invariant-loop-corner : goal.invariant-loop-corner
invariant-loop-corner l = record {
  sum : as_vector l.sum ≡ along (l.first ∷ take l.corner-index l.corners);
  last : l.previous ≡ last_of l.first (take l.corner-index l.corners);
  previous_in : IsGridPoint l.previous;
  small : IsWithin l.sum (128000000000000 * l.corner-index);
}
