-- What contracts see of connections and of the doors that give them.
use Rattle.std.specs.Prelude.{◌≡◌, ℕ, List, [], Bool, true, false, Option, Some, None, IfSome}
use Rattle.bim_io.specs.StreamViews.{SourceSeen, SinkSeen}
use Rattle.bim_net.specs.declared.ends.LinkEnd.{LinkEnd}

-- a connection: what is seen of its source and of its sink
pub record LinkSeen : Type 0 where
  pub source : SourceSeen
  pub sink : SinkSeen

-- a connection with these ends
abbrev pub link_seen : SourceSeen → SinkSeen → LinkSeen
link_seen source sink = record { source = source; sink = sink }

-- a connection that was given back: what was seen of it then, and how its session ended
pub record EndedLink : Type 0 where
  pub link : LinkSeen
  pub end : LinkEnd

-- this connection, whose session ended so
abbrev pub ended_link : LinkSeen → LinkEnd → EndedLink
ended_link link end = record { link = link; end = end }

-- of a door: which one of its host it is, the connections that were given back, oldest first, where it tells them, how
-- many it has given, whether it has answered that it is closed, and how often it has failed
pub record DoorSeen : Type 0 where
  pub number : ℕ
  pub ended : Option (List EndedLink)
  pub gave : ℕ
  pub closed : Bool
  pub faults : ℕ

-- nothing is in the list, where it is told
abbrev pub IsEmpty : {X : Type 0} → Option (List X) → Type 0
IsEmpty told = IfSome told (λ xs. xs ≡ [])

-- a connection on which no call was made yet
pub record IsFresh (link : LinkSeen) : Type 0 where
  pub given : IsEmpty link.source.given
  pub held : IsEmpty link.sink.held
  pub going : link.source.ended ≡ false
  pub no_read_fault : link.source.faults ≡ 0
  pub no_write_fault : link.sink.faults ≡ 0

-- the list, where it is told
abbrev pub told : {X : Type 0} → Bool → List X → Option (List X)
told true xs = Some xs
told false xs = None

-- a door on which no call was made yet, of this number, which tells the connections that were given back, or doesn't
pub record IsNew (tells : Bool) (number : ℕ) (door : DoorSeen) : Type 0 where
  pub number_is : door.number ≡ number
  pub none_ended : door.ended ≡ told tells []
  pub none_given : door.gave ≡ 0
  pub open_ : door.closed ≡ false
  pub no_fault : door.faults ≡ 0
