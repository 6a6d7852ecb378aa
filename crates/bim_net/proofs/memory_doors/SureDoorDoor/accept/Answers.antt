use Rattle.std.proofs.Common.{Ok, subst}
use Rattle.bim_io.specs.declared.traits.Failed.{Failed}
use Rattle.bim_net.specs.Doors.{Accepts}
use Rattle.bim_net.specs.Stores.{StoreState, door_of, sure_seen}
use Rattle.bim_net.proofs.Keeping.{accepts_next}
use Rattle.bim_net.proofs.memory_doors.SureDoorDoor.accept.Goals as goal

pub returns-clause-door : goal.returns-clause-door
returns-clause-door c =
    subst (λ (d : StoreState). Accepts {E = Failed} (door_of d 0) (Ok c.next.result) (door_of c.next.new.self 0)) c.self.view_is
    (accepts_next Failed (λ l. sure_seen l.source l.sink) c.self.inside.store c.next.new.self 0 c.next.result c.next.ensures.next)
