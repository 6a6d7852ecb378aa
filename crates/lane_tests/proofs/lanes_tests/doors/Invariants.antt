use Rattle.std.proofs.Common.{true, All}
use Rattle.bim_net.specs.ConnectionViews.{IsNew}
use Rattle.bim_net.specs.Stores.{door_of}
use Rattle.lane_tests.proofs.lanes_tests.doors.Given as goal

abbrev pub invariant-loop-number : goal.invariant-loop-number
invariant-loop-number l = All (λ d. IsNew true 0 (door_of d.store d.faults)) l.doors.items
