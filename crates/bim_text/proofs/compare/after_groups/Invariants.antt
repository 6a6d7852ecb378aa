use Rattle.std.proofs.Common.{◌≡◌, ◌+◌, ◌*◌, ◌/◌, ◌≤◌, ◌++◌, ℕ, List}
use Rattle.bim_text.specs.TextSpellings.{cleaned, groups}
use Rattle.bim_text.specs.Says.{accepts}
use Rattle.bim_text.proofs.compare.after_groups.Given as goal

abbrev pub invariant-loop-left : goal.invariant-loop-left
invariant-loop-left l = record {
  room : l.at + l.left * l.width ≤ l.digits + 4;
  same : (more : List ℕ) → accepts l.fn.wanted (groups (l.digits / l.width) l.width (cleaned l.spelled) 4 ++ more) ≡ accepts l.rest (groups l.left l.width (cleaned l.spelled) l.at ++ more);
}

abbrev pub decreases-loop-left : goal.decreases-loop-left
decreases-loop-left l = l.left
