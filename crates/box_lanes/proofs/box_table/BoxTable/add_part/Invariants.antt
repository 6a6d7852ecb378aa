use Rattle.std.proofs.Common.{◌≡◌, ◌++◌, ◌≤◌, map}
use lib.Lanes.{mask_l}
use Rattle.box_lanes.specs.CoarseBoxes.{meets}
use Rattle.box_lanes.proofs.Places.{rest_of}
use Rattle.box_lanes.specs.BoxPlaces.{part}
use Rattle.box_lanes.proofs.box_table.BoxTable.add_part.Given as goal

abbrev pub invariant-loop-lanes : goal.invariant-loop-lanes
invariant-loop-lanes l = record {
  low : l.from ≤ l.place;
  high : l.place ≤ l.end;
  bits : l.lanes ≡ mask_l (map (meets l.reach) (rest_of l.self l.end l.place));
  found : l.places.items ≡ l.fn.places.items ++ part (meets l.reach) l.self l.from l.place;
}

abbrev pub decreases-loop-lanes : goal.decreases-loop-lanes
decreases-loop-lanes l = l.lanes
