-- Many lanes over one book, and the one history in which all their connections stand.
use Rattle.std.specs.Prelude.{◌≡◌, ◌≢◌, ◌≤◌, ◌<◌, ◌⊎◌, ℕ, ◌+◌, List, [], ◌∷◌, map, length, Bool, true, false, Option, None, Some, IsSome, IfSome, All}
use Rattle.std.specs.List.{list_any}
use Rattle.bim_io.specs.StreamViews.{ClockSeen}
use Rattle.bim_net.specs.ConnectionViews.{EndedLink, DoorSeen, IsNew, told}
use Rattle.bim_net.specs.Doors.{GrowsBy}
use Rattle.bim_net.specs.Hosts.{some_failed}
use Rattle.book_turn.specs.NumberLists.{has}
use Rattle.book_turn.specs.Entries.{AllBefore, OwnUpTo}
use Rattle.book_turn.specs.Passes.{TurnState, BelongsTo, IsSingle}
use Rattle.book_history.specs.declared.limits.Settings.{Settings}
use Rattle.book_history.specs.declared.changes.Entry.{Entry}
use Rattle.book_passes.specs.Lessons.{BookPass, caller_of, own_of, turn_of}
use Rattle.bim_session.specs.Replay.{stated_settings}
use Rattle.check_workers.specs.declared.workers.Lack.{Lack}
use Rattle.serve_lanes.specs.declared.lane.LaneEnd.{LaneEnd}
use Rattle.serve_lanes.specs.declared.lane.LaneEnd.TheVariants.{Closed, Full, Failed}
use Rattle.serve_lanes.specs.Lanes.{ServedLink, LaneServed, ChainIn, IsBalanced, end_turn, some_memory, some_turns}
use Rattle.check_workers.specs.Joins.{nothing_lacked, seen_at, pass_of}

-- what holds of all lanes of a server: whether its doors tell what was given back, the one moment of its clocks, where
-- there is one, and the settings of its book
pub record Service : Type 0 where
  pub tells : Bool
  pub one : Option ℕ
  pub settings : Settings

-- a service of no projects, whose doors and clocks tell nothing
abbrev pub no_service : Service
no_service = record { tells = false; one = None; settings = stated_settings 0 }

-- where there is one moment, a clock says that one
abbrev pub TellsOne : Option ℕ → Option ℕ → Type 0
TellsOne one told = IfSome one (λ moment. told ≡ Some moment)

-- a lane that has not begun: a pass that has seen nothing, a door of its number on which no call was made yet, a clock of
-- the service, and nothing noted
pub record IsReady (s : Service) (turn : TurnState Settings) (pass : BookPass) (door : DoorSeen)
    (clock : ClockSeen) (lack : Lack) : Type 0 where
  pub own : IsSingle turn pass
  pub settings : turn.settings ≡ s.settings
  pub number : pass.number ≡ door.number
  pub unseen : pass.seen ≡ []
  pub untaken : pass.last ≡ 0
  pub new : IsNew s.tells door.number door
  pub one : TellsOne s.one clock.one
  pub unnoted : lack ≡ nothing_lacked

-- A door's connections were served by the pass of the door's number, from the first on: it had seen nothing before, and
-- then this, up to its turn `last`. `lack` says whether one of the sessions ended out of memory, or without a turn.
pub record LaneDone (s : Service) (seen : List Entry) (last : ℕ) (door : DoorSeen)
    (lack : Lack) : Type 0 where
  pub first : DoorSeen
  pub new : IsNew s.tells door.number first
  pub one : Option ℕ
  pub one_is : TellsOne s.one one
  pub lane : LaneServed (ServedLink one s.settings door.number)
      [] 0 seen last first door nothing_lacked lack

-- ---- why lanes end

-- whether a lane ended by a fault of its door
abbrev pub is_failed : LaneEnd → Bool
is_failed Failed = true
is_failed _ = false

-- why a lane that was to serve so many connections, 0 for any number, serves no more: its door failed exactly where it
-- ended so
abbrev pub EndsLane : ℕ → LaneEnd → DoorSeen → Type 0
EndsLane links Closed d = (d.closed ≡ true) × (d.faults ≡ 0)
EndsLane links Full d = (0 < links) × (d.gave ≡ links) × (d.faults ≡ 0)
EndsLane links Failed d = 0 < d.faults

-- a lane that has ended: its pass served all connections of its door
pub record LaneOver (s : Service) (links : ℕ) (turn : TurnState Settings) (pass : BookPass)
    (door : DoorSeen) (end : LaneEnd) (lack : Lack) : Type 0 where
  pub own : IsSingle turn pass
  pub number : pass.number ≡ door.number
  pub done : LaneDone s pass.seen pass.last door lack
  pub ends : EndsLane links end door

-- why a door serves no more, where `failed` says whether one of them failed: it is closed, or it failed, or it gave as many
-- connections as it was to
abbrev pub IsOver : ℕ → Bool → DoorSeen → Type 0
IsOver links failed d = (d.closed ≡ true)
    ⊎ (((0 < d.faults) × (failed ≡ true)) ⊎ ((0 < links) × (d.gave ≡ links)))

-- ---- doors in one history

-- each entry that carries the pass of this number is of a turn up to `top`
abbrev pub OwnWithin : ℕ → ℕ → List Entry → Type 0
OwnWithin number top es = OwnUpTo turn_of pass_of (number ∷ []) top es

-- A door whose pass was joined into another one, v, which has another number: the pass has seen the front up to a turn of
-- what v has seen, and made no entry of a later one.
pub record DoorDone (s : Service) (v : BookPass) (door : DoorSeen) : Type 0 where
  pub seen : List Entry
  pub last : ℕ
  pub lack : Lack
  pub done : LaneDone s seen last door lack
  pub front : seen ≡ seen_at last v.seen
  pub within : last ≤ v.last
  pub named : has door.number v.numbers ≡ true
  pub other : door.number ≢ v.number
  pub own : OwnWithin door.number last v.seen

-- the turn that stands at the last of these connections, or the turn before them
abbrev pub last_turn : ℕ → List EndedLink → ℕ
last_turn last [] = last
last_turn last (x ∷ xs) = last_turn (end_turn x) xs

-- A door in one history: its connections were served by the pass of its number, each between the entries up to the turn
-- that stands at the one before and those up to its own, which never fall. The pass made no entry of a turn after the last
-- of them. The door gave as many as stand there, and where doors tell what was given back, this one does and these are all.
pub record DoorServed (s : Service) (history : List Entry) (door : DoorSeen) : Type 0 where
  pub links : List EndedLink
  pub grown : GrowsBy (told s.tells []) door.ended links
  pub gave : door.gave ≡ length links
  pub balanced : IsBalanced door
  pub tells : s.tells ≡ true → IsSome door.ended
  pub one : Option ℕ
  pub one_is : TellsOne s.one one
  pub chain : ChainIn (ServedLink one s.settings door.number) history 0 links
  pub own : OwnWithin door.number (last_turn 0 links) history

-- whether one of them did, where they are told
abbrev pub told_memory : Option (List EndedLink) → Bool
told_memory None = false
told_memory (Some ended) = some_memory ended

-- whether a session of this door ended out of memory, where the door tells
abbrev pub lacked_memory : DoorSeen → Bool
lacked_memory d = told_memory d.ended

-- whether one of the doors tells of such a session
abbrev pub some_lacked : List DoorSeen → Bool
some_lacked doors = list_any lacked_memory doors

-- whether one of these sessions ended for want of a turn, where they are told
abbrev pub told_turns : Option (List EndedLink) → Bool
told_turns None = false
told_turns (Some ended) = some_turns ended

-- whether one of the doors tells of such a session
abbrev pub some_spent : List DoorSeen → Bool
some_spent doors = list_any (λ (d : DoorSeen). told_turns d.ended) doors

-- ---- lanes whose passes are joined

-- each entry carries one of these passes
abbrev pub AreAmong : List ℕ → List Entry → Type 0
AreAmong numbers es = All (λ e. has e.stamp.pass numbers ≡ true) es

-- The passes of lanes were joined into one, which made no entry itself: these are their doors, in their order, and whether
-- one of them failed, and what their sessions lacked.
pub record LanesJoined (s : Service) (links : ℕ) (turn : TurnState Settings) (into : BookPass)
    (doors : List DoorSeen) (failed : Bool) (lack : Lack) : Type 0 where
  pub belongs : BelongsTo turn into
  pub numbers : into.numbers ≡ into.number ∷ map (λ d. d.number) doors
  pub done : All (DoorDone s into) doors
  pub over : All (IsOver links failed) doors
  pub failed_is : failed ≡ some_failed doors
  pub memory : some_lacked doors ≡ true → lack.memory ≡ true
  pub turns : some_spent doors ≡ true → IsSome lack.spent
  pub entries : AreAmong (map (λ d. d.number) doors) (own_of (caller_of into) into.seen)
  pub up_to : AllBefore turn_of (into.last + 1) into.seen
