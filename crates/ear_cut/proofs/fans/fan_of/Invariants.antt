use Rattle.std.proofs.Common.{◌≡◌, ◌-◌, length, drop, Some}
use Rattle.ear_cut.specs.Removal.{cut_by}
use Rattle.ear_cut.proofs.Steps.{behind}
use Rattle.ear_cut.proofs.fans.fan_of.Given as goal

abbrev pub invariant-loop-i : goal.invariant-loop-i
invariant-loop-i l = cut_by (Some l.fn.view) (length l.left - 3) l.left ≡ behind l.ears.items (cut_by (Some l.fn.view) ((length l.left - 3) - l.i) (drop l.i l.left))
