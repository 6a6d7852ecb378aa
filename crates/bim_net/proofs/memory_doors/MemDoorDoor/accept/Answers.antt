use Rattle.std.proofs.Common.{Ok, subst}
use Rattle.bim_io.specs.declared.traits.Failed.{Failed}
use Rattle.bim_net.specs.Doors.{Accepts}
use Rattle.bim_net.specs.Stores.{MemDoorState, door_of, mem_seen}
use Rattle.bim_net.proofs.Keeping.{accepts_next}
use Rattle.bim_net.proofs.memory_doors.MemDoorDoor.accept.Goals as goal

pub returns-clause-door : goal.returns-clause-door
returns-clause-door c =
    subst (λ (d : MemDoorState). Accepts {E = Failed} (door_of d.store d.faults) (Ok c.next.result) (door_of c.next.new.self c.self.inside.faults)) c.self.view_is
    (accepts_next Failed (λ l. mem_seen l.source l.sink) c.self.inside.store c.next.new.self c.self.inside.faults c.next.result c.next.ensures.next)
