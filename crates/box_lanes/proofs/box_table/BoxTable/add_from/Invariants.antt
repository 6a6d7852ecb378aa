use Rattle.std.proofs.Common.{◌≡◌, ◌+◌, ◌-◌, ◌*◌, ◌<◌, ◌≤◌, ◌++◌, length}
use Rattle.std.specs.Prelude.{min}
use Rattle.box_lanes.specs.CoarseBoxes.{meets}
use Rattle.box_lanes.specs.BoxPlaces.{part}
use Rattle.box_lanes.proofs.box_table.BoxTable.add_from.Given as goal

abbrev pub invariant-loop-block : goal.invariant-loop-block
invariant-loop-block l = record {
  low : l.from < l.block * 8;
  high : l.block * 8 ≤ length l.self + 8;
  found : l.places.items ≡ l.fn.places.items ++ part (meets l.reach) l.self l.from (min (l.block * 8) (length l.self));
}

abbrev pub decreases-loop-block : goal.decreases-loop-block
decreases-loop-block l = length l.self + 8 - l.block * 8
