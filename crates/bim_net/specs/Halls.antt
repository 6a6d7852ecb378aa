-- What contracts see of hosts in memory.
use Rattle.std.specs.Prelude.{ℕ, true, List, [], Option, Some, None, map}
use Rattle.bim_net.specs.declared.hosts.Opening.{Opening}
use Rattle.bim_net.specs.ConnectionViews.{DoorSeen}
use Rattle.bim_net.specs.Hosts.{HostSeen}
use Rattle.bim_net.specs.Stores.{MemDoorState, StoreState}

-- how often doors were opened, and how they were last; how often they were handed back, and which last
pub record HallState (D : Type 0) : Type 0 where
  pub openings : ℕ
  pub opened : Option Opening
  pub closings : ℕ
  pub doors : List D

-- one that has opened none
abbrev pub new_hall : {D : Type 0} → HallState D
new_hall = record { openings = 0; opened = None; closings = 0; doors = [] }

-- what a host shows that has one moment and has failed so often
abbrev pub host_of : {D : Type 0} → (D → DoorSeen) → HallState D → ℕ → ℕ → HostSeen
host_of seen h moment faults = record {
  tells = true;
  openings = h.openings;
  opened = h.opened;
  closings = h.closings;
  closed = map seen h.doors;
  moment = Some moment;
  faults = faults;
}

-- of a host that never fails
pub record SureHostState : Type 0 where
  pub hall : HallState StoreState
  pub moment : ℕ

-- of a host whose openings fail where its list says so
pub record MemHostState : Type 0 where
  pub hall : HallState MemDoorState
  pub moment : ℕ
  pub fails : List ℕ
  pub calls : ℕ
  pub faults : ℕ
