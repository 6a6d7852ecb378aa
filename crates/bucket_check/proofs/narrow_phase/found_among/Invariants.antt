use Rattle.std.proofs.Common.{◌≡◌, ◌+◌, ◌-◌, ◌*◌, ◌≤◌, length, map}
use Rattle.std.specs.List.{flat_map}
use Rattle.box_lanes.specs.BoxPlaces.{box_at}
use Rattle.bucket_grid.specs.BucketTable.{upto}
use Rattle.bucket_check.specs.Clashes.{row_by}
use Rattle.bucket_check.specs.ClashSets.{rule_at}
use Rattle.bucket_check.proofs.narrow_phase.found_among.Given as goal

abbrev pub invariant-loop-first : goal.invariant-loop-first
invariant-loop-first g l = record {
  table : l.room.table ≡ map (box_at l.grid.boxes) l.members;
  pairs : l.pairs.items ≡ flat_map (row_by (length l.members) (rule_at l.grid.version l.grid.boxes l.cell l.members)) (upto l.first);
  steps : 2 * l.steps + (length l.members - l.first) * (length l.members - l.first - 1) ≤ 2 * l.fn.steps + length l.members * (length l.members - 1);
}
