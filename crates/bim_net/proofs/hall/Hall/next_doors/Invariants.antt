use Rattle.std.proofs.Common.{◌≡◌, true, vec_len, map}
use Rattle.bim_net.specs.Hosts.{AreNew}
use Rattle.bim_net.proofs.hall.Hall.next_doors.Given as goal

abbrev pub invariant-loop-number : goal.invariant-loop-number
invariant-loop-number g l = record {
  count : vec_len l.doors ≡ l.number;
  new : AreNew true 0 (map g.D.Door.seen l.doors.items);
  same : l.self ≡ l.fn.self;
}
