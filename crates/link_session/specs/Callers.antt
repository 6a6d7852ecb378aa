-- What a caller of the book comes to know by its calls and its work.
use Rattle.std.specs.Prelude.{◌≡◌, ◌⊎◌, ◌≤◌, ℕ, ◌++◌, List, [], ◌∷◌, Option, Some, Result, Ok, Err}
use Rattle.std.specs.declared.alloc.AllocError.{AllocError}
use Rattle.book_turn.specs.declared.call_fault.CallFault.{CallFault}
use Rattle.book_turn.specs.declared.call_fault.CallFault.TheVariants.{Memory, PassSpent}
use Rattle.book_turn.specs.declared.limits.TheConstants.{MOST_TURNS}
use Rattle.book_history.specs.declared.limits.Settings.{Settings}
use Rattle.book_history.specs.declared.changes.Entry.{Entry}
use Rattle.book_history.specs.declared.requests.BookCall.{BookCall}
use Rattle.book_history.specs.History.{of_turn}
use Rattle.book_history.specs.Runs.{Step}
use Rattle.book_passes.specs.Lessons.{CallerSeen, TakesTurn, Learns, own_of, stamp_in}
use Rattle.book_passes.specs.LessonLaws.{TakesCall}
use Rattle.bim_session.specs.Works.{Standing, Works, WorksShort, last_turn}
use Rattle.bim_session.specs.Talking.{BookReceipt}

-- ---- calls

-- no turn is taken, or one at which nothing is added
abbrev pub Skips : CallerSeen → CallerSeen → Type 0
Skips v w = (w ≡ v) ⊎ ((turn : ℕ) × (others : List Entry) × TakesTurn turn others [] v w)

-- A call takes a turn and is answered at the entries below it; or memory runs out, and nothing is added; or the pass has
-- made all its turns, and nothing happens.
abbrev pub Calls : Settings → BookCall → CallerSeen → Result BookReceipt CallFault → CallerSeen → Type 0
Calls settings call v (Ok receipt) w = TakesCall settings call receipt.turn receipt.reply v w
Calls settings call v (Err Memory) w = Skips v w
Calls settings call v (Err (PassSpent pass)) w = (v.made ≡ MOST_TURNS) × (w ≡ v)

-- the steps of a call: one where it is answered
abbrev pub steps_of : BookCall → CallerSeen → Result BookReceipt CallFault → List Step
steps_of call v (Ok receipt) = record { stamp = stamp_in receipt.turn v; call = call } ∷ []
steps_of call v (Err fault) = []

-- it came to see some entries after those that it had seen
abbrev pub LearnsBy : CallerSeen → CallerSeen → Type 0
LearnsBy v w = (news : List Entry) × Learns v w news

-- How a caller goes on that works at most so many buckets after answers: by steps one after another; what it has seen is
-- a front of what it sees later; and where it works buckets, its last turn is that of its last step.
pub record CallerLaws (buckets : Option ℕ)
    (goes : CallerSeen → List Step → CallerSeen → Type 0) : Type 0 where
  pub goes_on : (u v w : CallerSeen) (first second : List Step) → goes u first v → goes v second w
      → goes u (first ++ second) w
  pub learns : (v w : CallerSeen) (steps : List Step) → goes v steps w → LearnsBy v w
  pub in_step : (v w : CallerSeen) (steps : List Step) → goes v steps w
      → (buckets ≡ Some 0) ⊎ (w.last ≡ last_turn v.last steps)

-- ---- work after an answer

-- where a session begins by the caller v, which ends as w: its history is what w has seen, and its steps take turns behind
-- the last of v and up to the last of w
abbrev pub start_of : Settings → Option ℕ → CallerSeen → CallerSeen → Standing
start_of settings buckets v w = record {
  settings = settings;
  history = w.seen;
  buckets = buckets;
  last = v.last;
  printed = record { turn = v.last; sets = [] };
  top = w.last;
  served = 0;
}

-- the work after an answer was done by some steps, or memory ran out in it
abbrev pub WorksBehind : Settings → Option ℕ → (CallerSeen → List Step → CallerSeen → Type 0) → CallerSeen
    → Result (Unit {0}) AllocError → CallerSeen → Type 0
WorksBehind settings buckets goes v (Ok u) w =
    (steps : List Step) × goes v steps w × Works (start_of settings buckets v w) steps
WorksBehind settings buckets goes v (Err e) w =
    (steps : List Step) × goes v steps w × WorksShort (start_of settings buckets v w) steps

-- ---- a caller by a pass of a book that threads share

-- the entries that a history has of the turns of these steps, in their order
abbrev pub entries_of : List Entry → List Step → List Entry
entries_of history [] = []
entries_of history (s ∷ ss) = of_turn s.stamp.turn history ++ entries_of history ss

-- the steps are calls by the pass of this number
abbrev pub AreBy : ℕ → List Step → Type 0
AreBy number [] = Unit {0}
AreBy number (s ∷ ss) = (s.stamp.pass ≡ number) × AreBy number ss

-- the steps took turns up to this one
abbrev pub AreWithin : ℕ → List Step → Type 0
AreWithin top [] = Unit {0}
AreWithin top (s ∷ ss) = (s.stamp.turn ≤ top) × AreWithin top ss

-- It went from v to w by these steps: of the entries after those that v had seen, the ones that carry the pass are just
-- those that the steps added, in their order.
pub record GoesByPass (v : CallerSeen) (steps : List Step) (w : CallerSeen) : Type 0 where
  pub alone : v.numbers ≡ v.number ∷ []
  pub news : List Entry
  pub learns : Learns v w news
  pub by_pass : AreBy v.number steps
  pub within : AreWithin w.last steps
  pub own : own_of v news ≡ entries_of w.seen steps
