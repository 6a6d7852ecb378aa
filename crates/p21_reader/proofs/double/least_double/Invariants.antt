use Rattle.std.proofs.Common.{◌≡◌, ◌-◌, ◌≤◌, drop, length, map}
use Rattle.p21_values.specs.declared.instance_head.Head.{Head}
use Rattle.p21_reader.proofs.Doubles.{first_double}
use Rattle.p21_reader.proofs.double.least_double.Given as goal

abbrev pub invariant-loop-at : goal.invariant-loop-at
invariant-loop-at l = record {
  begun : 1 ≤ l.at;
  same : first_double (map (λ (h : Head). h.id) l.heads) ≡ first_double (drop (l.at - 1) (map (λ (h : Head). h.id) l.heads));
}

abbrev pub decreases-loop-at : goal.decreases-loop-at
decreases-loop-at l = length l.heads - l.at
