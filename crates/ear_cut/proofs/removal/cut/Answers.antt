use Rattle.std.proofs.Common.{◌≡◌, Some}
use Rattle.ear_cut.specs.Removal.{cut_of}
use Rattle.ear_cut.proofs.AreaSum.{areas_add_up, count_of_ears}
use Rattle.ear_cut.proofs.removal.cut.Goals as goal

found : (c : goal.In-Ok-Some) → cut_of c.args.corners.now ≡ Some c.in-Ok-Some.ears.items
found c = rw c.in-Ok-Some.field-0-is at c.in-Ok-Some.ensures

pub returns-in-Ok-Some-clause-count : goal.returns-in-Ok-Some-clause-count
returns-in-Ok-Some-clause-count c = count_of_ears c.args.corners.now c.in-Ok-Some.ears.items c.requires.three (found c)

pub returns-in-Ok-Some-clause-areas : goal.returns-in-Ok-Some-clause-areas
returns-in-Ok-Some-clause-areas c = areas_add_up c.args.corners.now c.in-Ok-Some.ears.items c.requires.three (found c)
