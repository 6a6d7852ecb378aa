-- Runs: calls of one book by any number of actors, one after another.
use Rattle.std.specs.Prelude.{◌≡◌, ℕ, ◌+◌, ◌==◌, ◌++◌, List, [], ◌∷◌, length, count_by, All}
use Rattle.book_turn.specs.declared.object.Stamp.{Stamp}
use Rattle.book_history.specs.declared.limits.Settings.{Settings}
use Rattle.book_history.specs.declared.changes.Entry.{Entry}
use Rattle.book_history.specs.declared.requests.BookCall.{BookCall}
use Rattle.book_history.specs.Requests.{added_by}

-- a step: a call of the book with the turn that it took and the actor that made it (the stamp's pass)
pub record Step : Type 0 where
  pub stamp : Stamp
  pub call : BookCall

-- the step follows those done: it takes the next turn, and is numbered among the steps of its actor
pub record Follows (done : List Step) (step : Step) : Type 0 where
  pub turn : step.stamp.turn ≡ length done + 1
  pub call : step.stamp.call ≡ count_by (λ (d : Step). d.stamp.pass == step.stamp.pass) done + 1

-- after the steps done, which made a history, the run goes on by these steps and ends with that history
abbrev pub Runs : Settings → List Step → List Entry → List Step → List Entry → Type 0
Runs settings done history [] final = final ≡ history
Runs settings done history (s ∷ ss) final =
    Follows done s
    × Runs settings (done ++ s ∷ []) (history ++ added_by settings history s.stamp s.call) ss final

-- a run of these steps from nothing makes this history: the fold of the entries that its accepted changes add
abbrev pub IsRun : Settings → List Step → List Entry → Type 0
IsRun settings steps final = Runs settings [] [] steps final

-- the one-thread server: each step is made by the actor 0
abbrev pub IsOneThread : List Step → Type 0
IsOneThread steps = All (λ (s : Step). s.stamp.pass ≡ 0) steps
