-- What was done with a request.
use Rattle.std.specs.Prelude.{◌≡◌, ◌++◌, List, []}
use Rattle.book_turn.specs.declared.object.Stamp.{Stamp}
use Rattle.book_turn.specs.Entries.{listed}
use Rattle.book_history.specs.declared.changes.Entry.{Entry}
use Rattle.book_history.specs.declared.replies.ReplyBody.{ReplyBody}
use Rattle.book_history.specs.Requests.{Outcome, body_of, entry_by}

-- what was answered, and what was added to the history, is what becomes of the request
pub record IsDone (history after : List Entry) (stamp : Stamp) (outcome : Outcome) (body : ReplyBody)
    : Type 0 where
  pub reply : body ≡ body_of history outcome
  pub added : after ≡ history ++ listed (entry_by stamp outcome)

-- what was answered is what becomes of the request, and that changes nothing
pub record IsTold (history : List Entry) (outcome : Outcome) (body : ReplyBody) : Type 0 where
  pub reply : body ≡ body_of history outcome
  pub nothing : (stamp : Stamp) → listed (entry_by stamp outcome) ≡ []
