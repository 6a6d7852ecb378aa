-- What contracts see of connections, doors and hosts over sockets.
use Rattle.std.specs.Prelude.{ℕ, List, [], Bool, true, false, Option, None, Some, map}
use Rattle.bim_io.specs.StreamViews.{SourceSeen, SinkSeen}
use Rattle.bim_io.specs.MemoryStreams.{ReaderState, WriterState}
use Rattle.bim_net.specs.declared.hosts.Opening.{Opening}
use Rattle.bim_net.specs.ConnectionViews.{EndedLink, DoorSeen}
use Rattle.bim_net.specs.Hosts.{HostSeen}

-- a socket from which nothing was read
abbrev pub new_source : ReaderState
new_source = record { given = []; ended = false; faults = 0 }

-- a socket to which nothing was written
abbrev pub new_sink : WriterState
new_sink = record { taken = []; faults = 0 }

-- what the one shows: the bytes that it gave, and not those that are left
abbrev pub source_seen : ReaderState → SourceSeen
source_seen s = record { left = None; given = Some s.given; most = None; ended = s.ended; faults = s.faults }

-- what the other shows: the bytes that it took
abbrev pub sink_seen : WriterState → SinkSeen
sink_seen s = record { held = Some s.taken; faults = s.faults }

-- of a door: which one it is, the connections that were given back, oldest first, how many it has given, whether it has
-- answered that it is closed, and how often it has failed
pub record TcpDoorState : Type 0 where
  pub number : ℕ
  pub ended : List EndedLink
  pub gave : ℕ
  pub closed : Bool
  pub faults : ℕ

-- a door of this number, which has given none
abbrev pub new_door : ℕ → TcpDoorState
new_door number = record { number = number; ended = []; gave = 0; closed = false; faults = 0 }

-- what it shows
abbrev pub door_seen : TcpDoorState → DoorSeen
door_seen d = record {
  number = d.number;
  ended = Some d.ended;
  gave = d.gave;
  closed = d.closed;
  faults = d.faults;
}

-- of a host: how often it opened doors, and how it did last; how often doors were handed back to it, and what they
-- showed last; and how often it has failed
pub record NetHostState : Type 0 where
  pub openings : ℕ
  pub opened : Option Opening
  pub closings : ℕ
  pub doors : List TcpDoorState
  pub faults : ℕ

-- what it shows: its doors tell what was given back, and its clocks have no one moment
abbrev pub host_seen : NetHostState → HostSeen
host_seen h = record {
  tells = true;
  openings = h.openings;
  opened = h.opened;
  closings = h.closings;
  closed = map door_seen h.doors;
  moment = None;
  faults = h.faults;
}
