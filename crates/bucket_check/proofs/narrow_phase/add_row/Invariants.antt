use Rattle.std.proofs.Common.{◌≡◌, ◌+◌, ◌≤◌, ◌++◌, take}
use Rattle.std.specs.List.{flat_map}
use Rattle.bucket_check.specs.Clashes.{pair_if}
use Rattle.bucket_check.specs.ClashSets.{rule_at}
use Rattle.bucket_check.proofs.narrow_phase.add_row.Given as goal

abbrev pub invariant-loop-place : goal.invariant-loop-place
invariant-loop-place g l = record {
  pairs : l.pairs.items ≡ l.fn.pairs.items
      ++ flat_map (λ j. pair_if l.first j (rule_at l.grid.version l.grid.boxes l.cell l.members l.first j)) (take l.place-index l.places);
  steps : l.steps ≤ l.fn.steps + l.place-index;
}
