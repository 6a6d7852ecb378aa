use Rattle.std.proofs.Common.{◌≡◌, ◌-◌, ◌≤◌, length, drop}
use Rattle.bim_text.specs.TextSpellings.{cleaned}
use Rattle.bim_text.proofs.cursor.first_kept.Given as goal

abbrev pub invariant-loop-at : goal.invariant-loop-at
invariant-loop-at l = record {
  within : l.at ≤ length l.spelled;
  same : cleaned (drop l.at l.spelled) ≡ cleaned l.spelled;
}

abbrev pub decreases-loop-at : goal.decreases-loop-at
decreases-loop-at l = length l.initial.spelled - l.at
