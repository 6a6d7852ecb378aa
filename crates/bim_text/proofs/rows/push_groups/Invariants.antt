use Rattle.std.proofs.Common.{◌≡◌, ◌+◌, ◌*◌, ◌/◌, ◌≤◌, ◌++◌}
use Rattle.std.specs.Prelude.{string_bytes}
use Rattle.bim_text.specs.TextSpellings.{groups}
use Rattle.bim_text.proofs.rows.push_groups.Given as goal

abbrev pub invariant-loop-left : goal.invariant-loop-left
invariant-loop-left l = record {
  within : l.at + l.left * l.width ≤ l.digits + 4;
  bytes : string_bytes l.out ++ groups l.left l.width l.rest l.at ≡ string_bytes l.fn.out ++ groups (l.digits / l.width) l.width l.rest 4;
}

abbrev pub decreases-loop-left : goal.decreases-loop-left
decreases-loop-left l = l.left
