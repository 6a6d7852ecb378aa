-- What a pass knows when others were joined into it, or when it has worked; and what workers are before and after.
use Rattle.std.specs.Prelude.{◌≡◌, ◌≢◌, ◌≤◌, ◌<◌, ◌⊎◌, ℕ, ◌+◌, List, [], ◌∷◌, true, false, Option, None, Some, All}
use Rattle.std.specs.Option.{option_or}
use Rattle.book_turn.specs.declared.call_fault.CallFault.{CallFault}
use Rattle.book_turn.specs.declared.call_fault.CallFault.TheVariants.{Memory, PassSpent}
use Rattle.book_turn.specs.NumberLists.{has}
use Rattle.book_turn.specs.Entries.{AllBefore, calls_by, up_to}
use Rattle.book_turn.specs.Passes.{TurnState, IsSingle}
use Rattle.book_history.specs.declared.limits.Settings.{Settings}
use Rattle.book_history.specs.declared.changes.Entry.{Entry}
use Rattle.book_passes.specs.Lessons.{BookPass, caller_of, own_of, turn_of}
use Rattle.check_workers.specs.WorkerTurns.{IsDone, AreDone}
use Rattle.check_workers.specs.declared.workers.Lack.{Lack}

-- nothing was lacked yet
abbrev pub nothing_lacked : Lack
nothing_lacked = record { memory = false; spent = None }

-- what the fault of a call is noted as
abbrev pub lacked_by : CallFault → Lack
lacked_by Memory = record { memory = true; spent = None }
lacked_by (PassSpent pass) = record { memory = false; spent = Some pass }

-- the first pass of these that had made all its turns
abbrev pub first_spent : List Lack → Option ℕ
first_spent [] = None
first_spent (l ∷ ls) = option_or l.spent (first_spent ls)

-- ---- entries

-- the entries of a history with turns up to this one
abbrev pub seen_at : ℕ → List Entry → List Entry
seen_at turn history = up_to turn_of turn history

-- the number of the pass that made an entry
abbrev pub pass_of : Entry → ℕ
pass_of e = e.stamp.pass

-- the entries that carry the pass of this number
abbrev pub of_pass : ℕ → List Entry → List Entry
of_pass number es = calls_by pass_of (number ∷ []) es

-- each entry says that a bucket is checked, or carries the pass of one of so many lanes
abbrev pub AreOfLanes : ℕ → List Entry → Type 0
AreOfLanes lanes es = All (λ e. IsDone e ⊎ (e.stamp.pass < lanes)) es

-- ---- workers

-- a worker that has not begun: a pass that has seen nothing
pub record IsNewWorker (turn : TurnState Settings) (pass : BookPass) : Type 0 where
  pub own : IsSingle turn pass
  pub unseen : pass.seen ≡ []
  pub untaken : pass.last ≡ 0

-- a worker that has ended: each entry that its pass made says that a bucket is checked
pub record WorkerOver (turn : TurnState Settings) (pass : BookPass) : Type 0 where
  pub own : IsSingle turn pass
  pub done : AreDone (own_of (caller_of pass) pass.seen)

-- each number from the first up to the end, which is left out, is among these
abbrev pub HasEach : ℕ → ℕ → List ℕ → Type 0
HasEach first end numbers = (k : ℕ) → first ≤ k → k < end → has k numbers ≡ true

-- ---- passes that are joined

-- A pass took others in, or took turns: what it had seen is the front, up to its last turn then, of what it has seen. Of
-- the passes that were joined into it none is gone, and none but that of its own number has more entries.
pub record Extends (v w : BookPass) : Type 0 where
  pub number : w.number ≡ v.number
  pub named : (k : ℕ) → has k v.numbers ≡ true → has k w.numbers ≡ true
  pub front : v.seen ≡ seen_at v.last w.seen
  pub rises : v.last ≤ w.last
  pub stay : (k : ℕ) → has k v.numbers ≡ true → k ≢ v.number → of_pass k w.seen ≡ of_pass k v.seen
  pub up_to : AllBefore turn_of (w.last + 1) w.seen

-- the same of one that took workers in, or worked: where its entries, and those of the passes that were joined into it, said
-- that buckets are checked or were of lanes, they are so now
pub record ExtendsByWork (v w : BookPass) : Type 0 where
  pub extends : Extends v w
  pub entries : (lanes : ℕ) → AreOfLanes lanes (own_of (caller_of v) v.seen)
      → AreOfLanes lanes (own_of (caller_of w) w.seen)
