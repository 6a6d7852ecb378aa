use Rattle.std.proofs.Common.{true, All}
use Rattle.bim_net.specs.ConnectionViews.{IsNew}
use Rattle.bim_net.specs.Stores.{door_of}
use Rattle.server_tests.proofs.serve_tests.doors.Given as goal

abbrev pub invariant-loop-texts : goal.invariant-loop-texts
invariant-loop-texts l = All (λ d. IsNew true 0 (door_of d.store d.faults)) l.doors.items
