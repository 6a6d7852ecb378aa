use Rattle.bim_net.specs.ConnectionViews.{ended_link}
use Rattle.bim_net.specs.Stores.{mem_seen}
use Rattle.bim_net.proofs.Keeping.{back_faults}
use Rattle.bim_net.proofs.memory_doors.MemDoorDoor.give_back.Goals as goal

pub returns-clause-door : goal.returns-clause-door
returns-clause-door c =
    rw (← c.self.view_is) (back_faults (ended_link (mem_seen c.args.link.source c.args.link.sink) c.args.end) c.self.inside.store c.keep.new.self c.self.inside.faults c.keep.ensures.back)
