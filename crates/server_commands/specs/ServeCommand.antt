-- What `serve` does and answers: all connections of all doors are served in one history.
use Rattle.std.specs.Prelude.{◌≡◌, ◌⊎◌, ◌<◌, ℕ, Bool, true, false, Option, Some, None, All, map}
use Rattle.bim_io.specs.Causes.{counted, Rose}
use Rattle.bim_net.specs.ConnectionViews.{DoorSeen}
use Rattle.bim_net.specs.Hosts.{HostSeen, some_failed}
use Rattle.book_turn.specs.NumberLists.{numbers_from}
use Rattle.book_history.specs.History.{left_all}
use Rattle.book_history.specs.Requests.{BookState}
use Rattle.bim_session.specs.Replay.{stated_settings}
use Rattle.check_workers.specs.Joins.{AreOfLanes}
use Rattle.serve_lanes.specs.Histories.{Service, DoorServed, some_lacked, some_spent}
use Rattle.server_commands.specs.declared.serve_words.ServeCounts.{ServeCounts}
use Rattle.server_commands.specs.declared.serve_words.ServeWords.{ServeWords}
use Rattle.server_commands.specs.declared.serve.Ended.{Ended}

-- a command ended with this status, without a book
abbrev pub without_book : ℕ → Ended
without_book status = record { status = status; book = None; spent = None }

-- the status of a server: out of memory comes before a pass that had made all its turns, and that before a failed door
abbrev pub status_by : Bool → Option ℕ → Bool → ℕ
status_by true spent failed = 6
status_by false (Some pass) failed = 7
status_by false None true = 4
status_by false None false = 0

-- the pass that had made all its turns, where the status tells of it
abbrev pub spent_by : Bool → Option ℕ → Option ℕ
spent_by true spent = None
spent_by false spent = spent

-- a server ended so
abbrev pub EndsAs : BookState → Bool → Bool → Option ℕ → Ended → Type 0
EndsAs book failed memory spent ended =
    ended ≡ record { status = status_by memory spent failed; book = Some book; spent = spent_by memory spent }

-- what holds of all lanes: the host says whether its doors tell what was given back, and which one moment its clocks give
abbrev pub service_of : ServeCounts → HostSeen → Service
service_of counts host = record {
  tells = host.tells;
  one = host.moment;
  settings = stated_settings counts.projects;
}

-- Why a door serves no more: it is closed; or it failed, of which the status tells; or it gave as many connections as it was
-- to; or memory ran out.
abbrev pub IsOverAt : ℕ → ℕ → DoorSeen → Type 0
IsOverAt links status d =
    (d.closed ≡ true)
    ⊎ (((0 < d.faults) × ((status ≡ 4) ⊎ ((status ≡ 6) ⊎ (status ≡ 7))))
    ⊎ (((0 < links) × (d.gave ≡ links)) ⊎ (status ≡ 6)))

-- Doors were served, and handed back once, in their order. There is one history, the journal of the book that is given
-- back: in it the connections of each door were served, one after another, by the pass of the door's number, and each of
-- its entries other than those of checked buckets carries the pass of one of the lanes. Where a session ended for want of
-- memory, the status is 6; for want of a turn, 6 or 7. All buckets of live versions are checked, or the status is 6 or 7.
pub record ServesAll (counts : ServeCounts) (host host' : HostSeen) (book : BookState)
    (status : ℕ) : Type 0 where
  pub others : host' ≡ record host {
    closings = counted host.closings;
    closed = host'.closed;
    faults = host'.faults;
  }
  pub numbers : map (λ (d : DoorSeen). d.number) host'.closed ≡ numbers_from 0 counts.lanes
  pub settings : book.settings ≡ stated_settings counts.projects
  pub doors : All (DoorServed (service_of counts host) book.journal) host'.closed
  pub entries : AreOfLanes counts.lanes book.journal
  pub over : All (IsOverAt counts.links status) host'.closed
  pub memory : some_lacked host'.closed ≡ true → status ≡ 6
  pub turns : some_spent host'.closed ≡ true → (status ≡ 6) ⊎ (status ≡ 7)
  pub failed : some_failed host'.closed ≡ true → (status ≡ 4) ⊎ ((status ≡ 6) ⊎ (status ≡ 7))
  pub sound : status ≡ 4 → some_failed host'.closed ≡ true
  pub known : (status ≡ 0) ⊎ ((status ≡ 4) ⊎ ((status ≡ 6) ⊎ (status ≡ 7)))
  pub buckets : (left_all book.settings.projects book.journal ≡ 0) ⊎ ((status ≡ 6) ⊎ (status ≡ 7))

-- memory ran out before a door was opened
abbrev pub LacksLanes : HostSeen → HostSeen → Ended → Type 0
LacksLanes host host' ended = (ended ≡ without_book 6) × (host' ≡ host)

-- doors that were opened were served, and the book is given back
abbrev pub ServesDoors : ServeCounts → HostSeen → HostSeen → Ended → Type 0
ServesDoors counts host host' ended =
    (book : BookState) × (ended.book ≡ Some book) × ServesAll counts host host' book ended.status
    × (ended.status ≡ 4 → Rose host.faults host'.faults)

-- as many doors as the words say are opened at the address that they say, and nothing else happens
abbrev pub OpensBy : ServeWords → HostSeen → HostSeen → Type 0
OpensBy said host host' =
    host' ≡ record host {
      openings = counted host.openings;
      opened = Some (record { addr = said.addr; doors = said.counts.lanes });
    }

-- Doors are opened once and served; or none could be opened, and the host failed; or memory ran out before.
abbrev pub Serves : ServeWords → HostSeen → HostSeen → Ended → Type 0
Serves said host host' ended =
    ((open_ : HostSeen) × OpensBy said host open_ × ServesDoors said.counts open_ host' ended)
    ⊎ (((ended ≡ without_book 4) × (host'.openings ≡ host.openings) × Rose host.faults host'.faults)
    ⊎ LacksLanes host host' ended)

-- what `serve` does by what its words say: outside its grammar nothing, which is status 2
abbrev pub Does : Option ServeWords → HostSeen → HostSeen → Ended → Type 0
Does None host host' ended = (ended ≡ without_book 2) × (host' ≡ host)
Does (Some said) host host' ended = Serves said host host' ended

-- the same, or memory ran out for the words
abbrev pub ServesBy : Option ServeWords → HostSeen → HostSeen → Ended → Type 0
ServesBy said host host' ended = Does said host host' ended ⊎ LacksLanes host host' ended
