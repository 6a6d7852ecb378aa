-- What contracts see of doors in memory.
use Rattle.std.specs.Prelude.{◌≡◌, ℕ, ◌+◌, List, [], ◌∷◌, Bool, true, false, Option, Some, None}
use Rattle.bim_io.specs.MemoryStreams.{SourceState, SinkState, SureSourceState, SureSinkState, left_at}
use Rattle.bim_net.specs.ConnectionViews.{LinkSeen, EndedLink, DoorSeen, link_seen}

-- the connections that a door has still to give, in their order, and what it tells of the others
pub record StoreState : Type 0 where
  pub number : ℕ
  pub waiting : List LinkSeen
  pub ended : Option (List EndedLink)
  pub gave : ℕ
  pub closed : Bool

-- the next connection is given, or there is none, which closes the door
abbrev pub GivesNext : StoreState → Option LinkSeen → StoreState → Type 0
GivesNext old None new = (old.waiting ≡ []) × (new ≡ record old { closed = true })
GivesNext old (Some link) new =
    (old.waiting ≡ link ∷ new.waiting)
    × (new ≡ record old { waiting = new.waiting; gave = old.gave + 1 })

-- a door with these connections, which has given none
abbrev pub new_store : List LinkSeen → StoreState
new_store waiting = record { number = 0; waiting = waiting; ended = Some []; gave = 0; closed = false }

-- the same door of this number
abbrev pub numbered : ℕ → StoreState → StoreState
numbered number s = record s { number = number }

-- a connection in memory that has these contents to give, at most so many bytes at once, and holds nothing
abbrev pub link_of : List ℕ → ℕ → LinkSeen
link_of contents most =
    link_seen
    (record { left = Some contents; given = Some []; most = Some most; ended = false; faults = 0 })
    (record { held = Some []; faults = 0 })

-- what is seen of a connection in memory
abbrev pub mem_seen : SourceState → SinkState → LinkSeen
mem_seen source sink =
    link_seen
    (record {
      left = Some (left_at source.ended source.left);
      given = Some source.given;
      most = Some source.most;
      ended = source.ended;
      faults = source.faults;
    })
    (record { held = Some sink.held; faults = sink.faults })

-- .. that never fails
abbrev pub sure_seen : SureSourceState → SureSinkState → LinkSeen
sure_seen source sink =
    link_seen
    (record {
      left = Some (left_at source.ended source.left);
      given = Some source.given;
      most = Some source.most;
      ended = source.ended;
      faults = 0;
    })
    (record { held = sink.held; faults = 0 })

-- what a door shows that has failed so often
abbrev pub door_of : StoreState → ℕ → DoorSeen
door_of s faults = record {
  number = s.number;
  ended = s.ended;
  gave = s.gave;
  closed = s.closed;
  faults = faults;
}

-- of a door whose accepts fail where its list says so
pub record MemDoorState : Type 0 where
  pub store : StoreState
  pub fails : List ℕ
  pub calls : ℕ
  pub faults : ℕ
