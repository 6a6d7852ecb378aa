use Rattle.std.proofs.Common.{◌≡◌, true, vec_len, map}
use Rattle.bim_net.specs.Hosts.{AreNew}
use Rattle.bim_sockets.specs.Sockets.{door_seen}
use Rattle.bim_sockets.proofs.host.doors_of.Given as goal

abbrev pub invariant-loop-number : goal.invariant-loop-number
invariant-loop-number l = record {
  count : vec_len l.doors ≡ l.number;
  new : AreNew true 0 (map door_seen l.doors.items);
}
