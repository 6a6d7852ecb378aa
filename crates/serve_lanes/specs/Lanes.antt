-- The sessions of one lane, one after another, and what they are in one history.
use Rattle.std.specs.Prelude.{◌≡◌, ◌≤◌, ℕ, ◌+◌, List, [], ◌∷◌, length, Bool, true, false, ◌||◌, Option, Some, IfSome, IsSome}
use Rattle.std.specs.List.{list_any}
use Rattle.bim_io.specs.StreamViews.{ClockSeen, outside}
use Rattle.bim_net.specs.declared.ends.EndKind.{EndKind}
use Rattle.bim_net.specs.ConnectionViews.{LinkSeen, EndedLink, DoorSeen, IsFresh}
use Rattle.bim_net.specs.Doors.{GrowsBy}
use Rattle.book_turn.specs.Entries.{AllBefore}
use Rattle.book_history.specs.declared.limits.Settings.{Settings}
use Rattle.book_history.specs.declared.changes.Entry.{Entry}
use Rattle.book_passes.specs.Lessons.{CallerSeen, turn_of}
use Rattle.bim_session.specs.declared.end.SessionEnd.{SessionEnd}
use Rattle.link_session.specs.Callers.{GoesByPass}
use Rattle.link_session.specs.CallerSessions.{Serves}
use Rattle.check_workers.specs.declared.workers.Lack.{Lack}
use Rattle.check_workers.specs.Joins.{seen_at}
use Rattle.bim_net.specs.declared.ends.EndKind.TheVariants as kind
use Rattle.bim_session.specs.declared.end.SessionEnd.TheVariants as end

-- the kind of a session's end
abbrev pub kind_of : SessionEnd → EndKind
kind_of (end.Closed n) = kind.Closed
kind_of (end.Asked n) = kind.Asked
kind_of (end.Cut n) = kind.Cut
kind_of (end.ReadFault n) = kind.ReadFault
kind_of (end.WriteFault n) = kind.WriteFault
kind_of (end.Frame n fault) = kind.Frame
kind_of (end.Spent n) = kind.Spent
kind_of (end.SpentTurns n) = kind.SpentTurns
kind_of (end.Memory n) = kind.Memory

-- whether a session of this kind of end ended out of memory
abbrev pub is_memory : EndKind → Bool
is_memory kind.Memory = true
is_memory _ = false

-- whether one of the sessions over these connections did
abbrev pub some_memory : List EndedLink → Bool
some_memory links = list_any (λ (x : EndedLink). is_memory x.end.kind) links

-- whether a session of this kind of end ended for want of a turn
abbrev pub is_spent : EndKind → Bool
is_spent kind.SpentTurns = true
is_spent _ = false

-- whether one of the sessions over these connections did
abbrev pub some_turns : List EndedLink → Bool
some_turns links = list_any (λ (x : EndedLink). is_spent x.end.kind) links

-- what was noted before stays, and the end of a session of this kind is noted
pub record NotesEnd (ended : EndKind) (old new : Lack) : Type 0 where
  pub memory : new.memory ≡ (old.memory || is_memory ended)
  pub turns : is_spent ended ≡ true → IsSome new.spent
  pub kept : IsSome old.spent → IsSome new.spent

-- the turn that stands at a connection that was given back
abbrev pub end_turn : EndedLink → ℕ
end_turn x = x.end.last

-- A connection that was given back: a session by the pass of this number was served over it, from the first call on the
-- connection on. Before it the pass had seen `before`, up to its turn `last`, and after it `history`, up to the turn that
-- stands at the connection. Its clock has this one moment, where one is told.
pub record ServedLink (one : Option ℕ) (settings : Settings) (number : ℕ) (before : List Entry) (last : ℕ)
    (x : EndedLink) (history : List Entry) : Type 0 where
  pub end : SessionEnd
  pub kind_is : x.end.kind ≡ kind_of end
  pub first : LinkSeen
  pub fresh : IsFresh first
  pub clock : ClockSeen
  pub clock_after : ClockSeen
  pub one_is : clock.one ≡ one
  pub v : CallerSeen
  pub w : CallerSeen
  pub number_is : v.number ≡ number
  pub before_is : v.seen ≡ before
  pub last_is : v.last ≡ last
  pub history_is : w.seen ≡ history
  pub turn_is : w.last ≡ x.end.last
  pub serves : Serves settings (Some 0) GoesByPass v w (outside first.source first.sink clock)
      (outside x.link.source x.link.sink clock_after) end

-- Connections, one after another: `serves` holds of each, of what was seen before it up to which turn, and of what was seen
-- after it up to the turn that stands at it.
abbrev pub Chain : (List Entry → ℕ → EndedLink → List Entry → Type 0) → List Entry → ℕ → List EndedLink
    → List Entry → ℕ → Type 0
Chain serves before last [] history top = (history ≡ before) × (top ≡ last)
Chain serves before last (x ∷ xs) history top =
    (mid : List Entry) × serves before last x mid × Chain serves mid (end_turn x) xs history top

-- as many connections were given back as were given, where it is told
abbrev pub IsBalanced : DoorSeen → Type 0
IsBalanced d = IfSome d.ended (λ es. length es ≡ d.gave)

-- A lane: its door gave these connections and its list grew by them, and they are a chain in what its pass came to see. A
-- door that gave as many as it took back still does, and still tells them if it did. It is noted whether one of the
-- sessions ended out of memory, or without a turn, and what was noted before stays.
pub record LaneServed (serves : List Entry → ℕ → EndedLink → List Entry → Type 0) (before : List Entry)
    (last : ℕ) (history : List Entry) (top : ℕ) (old new : DoorSeen) (noted noted' : Lack) : Type 0 where
  pub links : List EndedLink
  pub grown : GrowsBy old.ended new.ended links
  pub chain : Chain serves before last links history top
  pub up_to : AllBefore turn_of (last + 1) before → AllBefore turn_of (top + 1) history
  pub number : new.number ≡ old.number
  pub gave : new.gave ≡ old.gave + length links
  pub balanced : IsBalanced old → IsBalanced new
  pub tells : IsBalanced old → IsSome old.ended → IsSome new.ended
  pub memory : noted'.memory ≡ (noted.memory || some_memory links)
  pub turns : some_turns links ≡ true → IsSome noted'.spent
  pub kept : IsSome noted.spent → IsSome noted'.spent

-- the same in one history: what was seen between two connections is its entries up to the turn that stands at the first,
-- and these turns never fall
abbrev pub ChainIn : (List Entry → ℕ → EndedLink → List Entry → Type 0) → List Entry → ℕ
    → List EndedLink → Type 0
ChainIn serves history last [] = Unit {0}
ChainIn serves history last (x ∷ xs) =
    (last ≤ end_turn x) × serves (seen_at last history) last x (seen_at (end_turn x) history)
    × ChainIn serves history (end_turn x) xs
