use Rattle.std.proofs.Common.{true, map, refl, sym, subst, arith, rules}
use Rattle.bim_net.specs.ConnectionViews.{IsNew}
use Rattle.bim_net.specs.Hosts.{AreNew}
use Rattle.bim_net.proofs.NewDoors.{new_more}
use Rattle.bim_sockets.specs.Sockets.{TcpDoorState, door_seen}
use Rattle.bim_sockets.proofs.host.doors_of.Goals as goal

pub loop-number-preserved : goal.loop-number-preserved
loop-number-preserved c =
    let is : IsNew true c.loop-number.number (door_seen c.new.result) = subst (λ (d : TcpDoorState). IsNew true c.loop-number.number (door_seen d)) (sym {A = TcpDoorState} c.new.ensures)
    (record { number_is = refl; none_ended = refl; none_given = refl; open_ = refl; no_fault = refl }) in
    record {
      count = search rules;
      new = subst (λ items. AreNew true 0 (map door_seen items)) (sym c.in-Ok-push.ensures.items)
          (new_more true door_seen c.loop-number.doors.items c.new.result c.loop-number.number (omega (arith, c.loop-number.doors.ok, c.loop-number.invariant.count)) c.loop-number.invariant.new is);
    }
