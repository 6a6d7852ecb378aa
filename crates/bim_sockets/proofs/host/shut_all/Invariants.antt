use Rattle.std.proofs.Common.{◌≡◌}
use Rattle.bim_sockets.proofs.host.shut_all.Given as goal

abbrev pub invariant-loop-door : goal.invariant-loop-door
invariant-loop-door l = l.doors ≡ l.fn.doors
