use Rattle.std.proofs.Common.{true, map, sym, subst, arith, rules}
use Rattle.bim_net.specs.Hosts.{AreNew}
use Rattle.bim_net.proofs.NewDoors.{new_more}
use Rattle.bim_net.proofs.hall.Hall.next_doors.Goals as goal

pub loop-number-preserved : goal.loop-number-preserved
loop-number-preserved g c = record {
  count = search rules;
  new = subst (λ items. AreNew true 0 (map g.D.Door.seen items)) (sym c.in_ok-push.ensures.items)
      (new_more true g.D.Door.seen c.loop-number.doors.items c.in_ok-next_door.field-0 c.loop-number.number (omega (arith, c.loop-number.doors.ok, c.loop-number.invariant.count))
      c.loop-number.invariant.new c.in_ok-next_door.ensures.new);
  same = search rules;
}
