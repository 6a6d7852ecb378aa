-- Changes that another book of the same history accepted, and when they are accepted again.
use Rattle.std.specs.Prelude.{◌≡◌, ℕ, ◌+◌, ◌<◌, ◌≤◌, List, [], ◌∷◌, ◌++◌, ◌⊎◌, Bool, true, false, Option, Some, None, option_map, MatchOption}
use Rattle.bim_model.specs.Identifiers.{identifier}
use Rattle.bucket_grid.specs.declared.cell.Cell.{Cell}
use Rattle.bcf_topics.specs.declared.comment.CommentBody.{CommentBody}
use Rattle.bcf_topics.specs.declared.comment.CommentIn.{CommentIn}
use Rattle.clash_publish.specs.declared.horizon.TheConstants.{LIVE_VERSIONS}
use Rattle.book_history.specs.declared.limits.Settings.{Settings}
use Rattle.book_history.specs.declared.requests.Wanted.TheVariants.{Number}
use Rattle.book_history.specs.declared.requests.BookRequest.{BookRequest}
use Rattle.book_history.specs.declared.requests.BookRequest.TheVariants as request
use Rattle.book_history.specs.declared.changes.Change.{Change}
use Rattle.book_history.specs.declared.changes.Change.TheVariants as change
use Rattle.book_history.specs.declared.changes.Entry.{Entry}
use Rattle.book_history.specs.Orders.{OrderValue}
use Rattle.book_history.specs.Buckets.{buckets_of, is_among}
use Rattle.book_history.specs.Versions.{is_done}
use Rattle.book_history.specs.History.{newest_of, version_of, content_of}
use Rattle.book_history.specs.Requests.{Accepted, order_at, outcome_of}
use Rattle.book_history.specs.MadeEntries.{IsMadeAt, AreMade}

-- a comment as it is sent whose body is kept so in the project
abbrev pub comment_sent : ℕ → CommentBody → CommentIn
comment_sent project body =
    record { comment = body.comment; viewpoint = option_map (identifier project) body.viewpoint }

-- the request that asks for a change of a project, which names by identifiers what the change names by numbers.
-- That a bucket is done no request says by numbers.
abbrev pub request_for : ℕ → Change → Option BookRequest
request_for project (change.Upload name model) = Some (request.Upload (identifier project 0) name model)
request_for project (change.Remove name) = Some (request.Remove (identifier project 0) name)
request_for project (change.SetRules rules weight) =
    Some (request.SetRules (identifier project 0) rules weight)
request_for project (change.BucketDone version cell) = None
request_for project (change.PostTopic body author weight) =
    Some (request.PostTopic (identifier project 0) body author weight)
request_for project (change.PutTopic topic body author weight) =
    Some (request.PutTopic (identifier project 0) (identifier project topic) body author weight)
request_for project (change.DeleteTopic topic) =
    Some (request.DeleteTopic (identifier project 0) (identifier project topic))
request_for project (change.PostComment topic body author weight) =
    Some (request.PostComment (identifier project 0) (identifier project topic) (comment_sent project body)
    author weight)
request_for project (change.PutComment topic comment body author weight) =
    Some (request.PutComment (identifier project 0) (identifier project topic) (identifier project comment)
    (comment_sent project body) author weight)
request_for project (change.DeleteComment topic comment) =
    Some (request.DeleteComment (identifier project 0) (identifier project topic)
    (identifier project comment))
request_for project (change.PostView topic body weight) =
    Some (request.PostView (identifier project 0) (identifier project topic) body weight)
request_for project (change.DeleteView topic view) =
    Some (request.DeleteView (identifier project 0) (identifier project topic) (identifier project view))
request_for project (change.ClashTopic version place author weight) =
    Some (request.ClashTopic (identifier project 0) (Number version) place author weight)

-- a version of a project that is one of its last sixteen has a bucket of this cell
pub record IsLiveBucket (settings : Settings) (history : List Entry) (project version : ℕ) (cell : Cell)
    : Type 0 where
  pub low : 1 ≤ project
  pub high : project ≤ settings.projects
  pub made : version ≤ newest_of project history
  pub live : newest_of project history < version + LIVE_VERSIONS
  pub bucket : is_among (buckets_of (content_of project version history)) cell ≡ true

-- the order to check it, or none where there is no such bucket
abbrev pub IsWorkOf : Settings → List Entry → ℕ → ℕ → Cell → Option OrderValue → Type 0
IsWorkOf settings history project version cell work =
    MatchOption work (IsLiveBucket settings history project version cell → ⊥)
    (λ order. IsLiveBucket settings history project version cell
    × (order ≡ order_at project version (content_of project version history) cell))

-- a bucket of a live version is still to be checked
abbrev pub IsOpenBucket : Settings → List Entry → ℕ → ℕ → Cell → Type 0
IsOpenBucket settings history project version cell =
    IsLiveBucket settings history project version cell
    × (is_done (version_of project version history) cell ≡ false)

-- the same of the bucket that a change says is done
abbrev pub EndsBucket : Settings → List Entry → ℕ → Change → Type 0
EndsBucket settings history project (change.BucketDone version cell) =
    IsOpenBucket settings history project version cell
EndsBucket settings history project _ = ⊥

-- a change of a project is accepted at a history: the request that asks for it is, or its bucket is to be checked
abbrev pub IsAccepted : Settings → List Entry → ℕ → Change → Type 0
IsAccepted settings history project change =
    MatchOption (request_for project change) (EndsBucket settings history project change)
    (λ request. outcome_of settings history request ≡ Accepted project change)

-- what becomes of a history where an entry is brought: it has the entry too where its change is accepted there,
-- and else nothing changes
abbrev pub IsBrought : Settings → List Entry → Entry → List Entry → Type 0
IsBrought settings history entry after =
    (IsAccepted settings history entry.project entry.change × (after ≡ history ++ entry ∷ []))
    ⊎ ((IsAccepted settings history entry.project entry.change → ⊥) × (after ≡ history))

-- .. and whether it was added is told
abbrev pub Brings : Settings → List Entry → Entry → Bool → List Entry → Type 0
Brings settings history entry true after =
    IsAccepted settings history entry.project entry.change × (after ≡ history ++ entry ∷ [])
Brings settings history entry false after =
    (IsAccepted settings history entry.project entry.change → ⊥) × (after ≡ history)

-- an entry that was made at a history is accepted there
abbrev pub MadeIsAccepted : Type 0
MadeIsAccepted =
    (settings : Settings) (history : List Entry) (entry : Entry) → IsMadeAt settings history entry
    → IsAccepted settings history entry.project entry.change

-- after a history: each of these entries is accepted at that history and the entries before it
abbrev pub AreAcceptedAfter : Settings → List Entry → List Entry → Type 0
AreAcceptedAfter settings history [] = Unit {0}
AreAcceptedAfter settings history (e ∷ es) =
    IsAccepted settings history e.project e.change × AreAcceptedAfter settings (history ++ e ∷ []) es

-- the entries of a history that were made so are accepted one after another from the first on
abbrev pub MadeAreAccepted : Type 0
MadeAreAccepted =
    (settings : Settings) (entries : List Entry) → AreMade settings entries
    → AreAcceptedAfter settings [] entries
