-- The steps of a session at one history: those of its requests, and the work on buckets after them.
use Rattle.std.specs.Prelude.{◌≡◌, ◌⊎◌, ℕ, zero, suc, ◌+◌, ◌*◌, ◌<◌, ◌≤◌, ◌++◌, List, [], ◌∷◌, Option, Some, None}
use Rattle.bucket_check.specs.ClashSets.{SetValue, own_places}
use Rattle.book_history.specs.declared.limits.Settings.{Settings}
use Rattle.book_history.specs.declared.changes.Entry.{Entry}
use Rattle.book_history.specs.declared.requests.BookRequest.TheVariants.{TakeWork, Finish}
use Rattle.book_history.specs.declared.replies.ReplyBody.TheVariants.{Work}
use Rattle.book_history.specs.Orders.{OrderValue, order_of}
use Rattle.book_history.specs.History.{at_turn, of_turn, left_all}
use Rattle.book_history.specs.Requests.{without_turn, reply_of, added_by}
use Rattle.book_history.specs.Runs.{Step}

-- what a session has printed of the book: the last turn, and the versions, each with its project, whose clashes it was
-- answered
pub record Printed : Type 0 where
  pub turn : ℕ
  pub sets : List (ℕ × ℕ)

-- where a session stands between two answers: the book's settings and history, how many buckets are worked after each
-- answered request, or all, the last turn that was taken, what was printed, the greatest turn that may be taken, and how
-- many requests were answered
pub record Standing : Type 0 where
  pub settings : Settings
  pub history : List Entry
  pub buckets : Option ℕ
  pub last : ℕ
  pub printed : Printed
  pub top : ℕ
  pub served : ℕ

-- the last turn of the steps, or the one before them
abbrev pub last_turn : ℕ → List Step → ℕ
last_turn last [] = last
last_turn last (s ∷ ss) = last_turn s.stamp.turn ss

-- a step took its turn: the history has there exactly what the step's call adds at the entries below
pub record IsTaken (s : Standing) (step : Step) : Type 0 where
  pub within : step.stamp.turn ≤ s.top
  pub entry : of_turn step.stamp.turn s.history
      ≡ added_by s.settings (at_turn step.stamp.turn s.history) step.stamp step.call

-- how many buckets of live versions are to be checked after the turns up to this one
abbrev pub left_behind : Standing → ℕ → ℕ
left_behind s turn = left_all s.settings.projects (at_turn (turn + 1) s.history)

-- the set is what was found for the bucket of an order: exactly the clashes that it owns
pub record IsFoundFor (order : OrderValue) (set : SetValue) : Type 0 where
  pub order_is : order_of set.work ≡ order
  pub pairs_are : set.pairs ≡ own_places set.work.grid set.work.cell

-- while buckets are to be checked after a turn, the next turn gives one out
pub record Gives (s : Standing) (last : ℕ) (step : Step) : Type 0 where
  pub order : OrderValue
  pub some : 0 < left_behind s last
  pub turn : step.stamp.turn ≡ last + 1
  pub call : step.call ≡ without_turn (TakeWork 0)
  pub taken : IsTaken s step
  pub given : (reply_of s.settings (at_turn step.stamp.turn s.history) step.stamp step.call).body
      ≡ Work order

-- a bucket is worked: it is given out, and its set is brought at the turn after that
pub record WorksOne (s : Standing) (last : ℕ) (steps : List Step) : Type 0 where
  pub first : Step
  pub second : Step
  pub set : SetValue
  pub two : steps ≡ first ∷ second ∷ []
  pub gives : Gives s last first
  pub found : IsFoundFor gives.order set
  pub turn : second.stamp.turn ≡ last + 2
  pub call : second.call ≡ without_turn (Finish set)
  pub taken : IsTaken s second

-- so many buckets are worked after a turn, one after the other
abbrev pub WorksOn : Standing → ℕ → ℕ → List Step → Type 0
WorksOn s last zero steps = steps ≡ []
WorksOn s last (suc count) steps =
    (earlier : List Step) × (one : List Step) × (steps ≡ earlier ++ one) × WorksOn s last count earlier
    × WorksOne s (last + 2 * count) one

-- so many buckets are enough where so many are left: none is left, or they are as many as are worked
abbrev pub IsEnough : Option ℕ → ℕ → ℕ → Type 0
IsEnough None count left = left ≡ 0
IsEnough (Some most) count left = (count ≤ most) × (count < most → left ≡ 0)

-- more than so many are worked
abbrev pub IsMore : Option ℕ → ℕ → Type 0
IsMore None count = Unit {0}
IsMore (Some most) count = count < most

-- the work after an answer: buckets are worked until none is to be checked, at most as many as there may be
pub record Works (s : Standing) (steps : List Step) : Type 0 where
  pub count : ℕ
  pub worked : WorksOn s s.last count steps
  pub enough : IsEnough s.buckets count (left_behind s (s.last + 2 * count))

-- the same, which stopped before it was done; one more bucket may have been given out
pub record WorksShort (s : Standing) (steps : List Step) : Type 0 where
  pub count : ℕ
  pub earlier : List Step
  pub more : List Step
  pub steps_are : steps ≡ earlier ++ more
  pub worked : WorksOn s s.last count earlier
  pub room : IsMore s.buckets count
  pub some : 0 < left_behind s (s.last + 2 * count)
  pub given : (more ≡ []) ⊎ ((step : Step) × (more ≡ step ∷ []) × Gives s (s.last + 2 * count) step)
