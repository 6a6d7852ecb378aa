-- What becomes of a request at a history: the one definition from which its reply and its entry follow.
use Rattle.std.specs.Prelude.{ℕ, ◌+◌, ◌%◌, nat_le, if◌then◌else◌, List, [], ◌∷◌, ◌++◌, length, map, slice_index_or, Option, Some, None, option_map}
use Rattle.std.specs.List.{flat_map}
use Rattle.bim_model.specs.declared.author.Author.{Author}
use Rattle.bim_model.specs.Models.{triangle_count}
use Rattle.bim_model.specs.Snapshots.{Version}
use Rattle.book_turn.specs.declared.object.Stamp.{Stamp}
use Rattle.book_turn.specs.Entries.{listed}
use Rattle.bucket_grid.specs.declared.cell.Cell.{Cell}
use Rattle.bcf_topics.specs.declared.topic.Topic.{Topic}
use Rattle.bcf_topics.specs.declared.comment.CommentIn.{CommentIn}
use Rattle.bcf_topics.specs.declared.comment.CommentBody.{CommentBody}
use Rattle.bcf_topics.specs.declared.comment.Comment.{Comment}
use Rattle.bcf_topics.specs.Topics.{new_topic, topic_put}
use Rattle.bcf_topics.specs.Comments.{new_comment, comment_put, comments_on}
use Rattle.bcf_viewpoints.specs.declared.view.ViewBody.{ViewBody}
use Rattle.bcf_viewpoints.specs.Viewpoints.{viewpoint, views_on}
use Rattle.bucket_check.specs.ClashSets.{SetValue}
use Rattle.book_history.specs.declared.limits.Settings.{Settings}
use Rattle.book_history.specs.declared.requests.Wanted.{Wanted}
use Rattle.book_history.specs.declared.requests.BookRequest.{BookRequest}
use Rattle.book_history.specs.declared.requests.BookRequest.TheVariants as request
use Rattle.book_history.specs.declared.requests.BookCall.{BookCall}
use Rattle.book_history.specs.declared.changes.Change.{Change}
use Rattle.book_history.specs.declared.changes.Change.TheVariants as change
use Rattle.book_history.specs.declared.changes.Entry.{Entry}
use Rattle.book_history.specs.declared.book_fault.BookFault.{BookFault}
use Rattle.book_history.specs.declared.book_fault.BookFault.TheVariants.{NoProject, NoWork, NoTopic, NoComment, NoViewpoint, TurnAhead}
use Rattle.book_history.specs.declared.replies.ReplyBody.{ReplyBody}
use Rattle.book_history.specs.declared.replies.ReplyBody.TheVariants as reply
use Rattle.book_history.specs.declared.replies.BookReply.{BookReply}
use Rattle.book_history.specs.Orders.{OrderValue}
use Rattle.book_history.specs.Versions.{VersionState, version_at, live_in, first_live}
use Rattle.book_topics.specs.Boards.{BoardState, next_serial, topic_at, comment_at, view_at}
use Rattle.book_topics.specs.TopicIdentifiers.{topic_named, comment_named, view_named, comment_kept}
use Rattle.book_topics.specs.OfClashes.{clash_topic}
use Rattle.book_history.specs.Projects.{ProjectState, newest, newest_content, clash_at, with_change}
use Rattle.book_history.specs.History.{state_of, board_of, project_numbers, horizon_of}
use Rattle.book_history.specs.Weights.{told, elements_in, triangles_among}
use Rattle.book_history.specs.Refusals.{first_of, project_of, wanted_in, not_yet, dropped, pending, no_clash, done_before, no_model, full, not_noted}

-- what becomes of a request
pub data Outcome : Type 0 where
  -- it is refused
  Refusal : BookFault → Outcome
  -- it is answered, and changes nothing
  Answer : ReplyBody → Outcome
  -- it changes the project of this number
  Accepted : ℕ → Change → Outcome

-- a refusal, where there is one
abbrev pub refused_or : Option BookFault → Outcome → Outcome
refused_or None outcome = outcome
refused_or (Some f) outcome = Refusal f

-- the first refusal that holds, else what the request asks for
abbrev pub unless : List (Option BookFault) → Outcome → Outcome
unless refusals outcome = refused_or (first_of refusals) outcome

-- what is answered by what is found; where there is none, this fault
abbrev pub found : {A : Type 0} → BookFault → Option A → (A → Outcome) → Outcome
found fault None outcome = Refusal fault
found fault (Some x) outcome = outcome x

-- what a project answers, where there is one
abbrev pub in_project : Option ℕ → (ℕ → Outcome) → Outcome
in_project number outcome = found NoProject number outcome

-- what a topic answers, by its number, where the project has it
abbrev pub in_topic : List Entry → ℕ → ℕ → (ℕ → Outcome) → Outcome
in_topic history number id outcome =
    found NoTopic (topic_named number (board_of number history) id) outcome

-- what a comment on a topic answers
abbrev pub in_comment : List Entry → ℕ → ℕ → ℕ → (ℕ → Outcome) → Outcome
in_comment history number topic id outcome =
    found NoComment (comment_named number (board_of number history) topic id) outcome

-- what a viewpoint of a topic answers
abbrev pub in_view : List Entry → ℕ → ℕ → ℕ → (ℕ → Outcome) → Outcome
in_view history number topic id outcome =
    found NoViewpoint (view_named number (board_of number history) topic id) outcome

-- what is answered by a comment's body as it is kept, where the viewpoint that was sent is one of the topic
abbrev pub with_body : List Entry → ℕ → ℕ → CommentIn → (CommentBody → Outcome) → Outcome
with_body history number topic sent outcome =
    found NoViewpoint (comment_kept number (board_of number history) topic sent) outcome

-- a change that is accepted unless something is full
abbrev pub changed : Settings → List Entry → Change → ℕ → Outcome
changed settings history change number = unless (full settings history number change) (Accepted number change)

-- a change of topics, comments or viewpoints that is accepted unless something is full
abbrev pub noted : Settings → List Entry → ℕ → Change → Outcome
noted settings history number change =
    unless (not_noted settings history number change) (Accepted number change)

-- a removal
abbrev pub removed : Settings → List Entry → List ℕ → ℕ → Outcome
removed settings history name number =
    unless (no_model (state_of number history) name ∷ full settings history number (change.Remove name))
    (Accepted number (change.Remove name))

-- a version is read
abbrev pub version_read : List Entry → Wanted → ℕ → Outcome
version_read history wanted number =
    let project = state_of number history in
    let v = wanted_in project wanted in
    unless (not_yet project v ∷ dropped project v ∷ [])
    (Answer (reply.Version v (newest project) (version_at project.versions v).content))

-- the clashes of a version are read
abbrev pub clashes_read : List Entry → Wanted → ℕ → ℕ → ℕ → Outcome
clashes_read history wanted first count number =
    let project = state_of number history in
    let v = wanted_in project wanted in
    let version = version_at project.versions v in
    unless (not_yet project v ∷ dropped project v ∷ pending v version ∷ [])
    (Answer (reply.Clashes v version.content first count))

-- a topic is made of a clash of a version
abbrev pub clash_noted : Settings → List Entry → Wanted → ℕ → Author → ℕ → ℕ → Outcome
clash_noted settings history wanted place author weight number =
    let project = state_of number history in
    let v = wanted_in project wanted in
    let version = version_at project.versions v in
    unless (not_yet project v ∷ dropped project v ∷ pending v version ∷ no_clash version place ∷ [])
    (noted settings history number (change.ClashTopic v place author weight))

-- a topic, or that it is gone
abbrev pub topic_told : Option Topic → ReplyBody
topic_told None = reply.Gone
topic_told (Some topic) = reply.TopicIs topic

-- .. a comment
abbrev pub comment_told : Option Comment → ReplyBody
comment_told None = reply.Gone
comment_told (Some comment) = reply.CommentIs comment

-- .. a viewpoint of this number
abbrev pub view_told : ℕ → Option ViewBody → ReplyBody
view_told serial None = reply.Gone
view_told serial (Some body) = reply.View (viewpoint serial body)

-- the order for a cell of a version
abbrev pub order_at : ℕ → ℕ → Version → Cell → OrderValue
order_at project number content cell =
    record { project = project; version = number; cell = cell; content = content }

-- the buckets to be checked of a version of a number
abbrev pub orders_in : ℕ → ℕ → VersionState → List OrderValue
orders_in project number version = map (order_at project number version.content) version.undone

-- .. of versions of which the first has the number, the last first
abbrev pub orders_from : ℕ → ℕ → List VersionState → List OrderValue
orders_from project number [] = []
orders_from project number (v ∷ vs) = orders_from project (number + 1) vs ++ orders_in project number v

-- the buckets to be checked of a project's live versions, by falling version and rising cell
abbrev pub orders_of : ℕ → ProjectState → List OrderValue
orders_of number project = orders_from number (first_live project.versions) (live_in project.versions)

-- .. of all projects, by rising project
abbrev pub all_orders : ℕ → List Entry → List OrderValue
all_orders projects history = flat_map (λ n. orders_of n (state_of n history)) (project_numbers projects)

-- a seat is given the one of its number, counted round and round
abbrev pub order_for : List OrderValue → ℕ → Outcome
order_for [] seat = Refusal NoWork
order_for (o ∷ os) seat = Answer (reply.Work (slice_index_or (o ∷ os) (seat % length (o ∷ os)) o))

-- a bucket's clashes are brought
abbrev pub finished : List Entry → SetValue → Outcome
finished history set =
    let project = state_of set.work.project history in
    unless
    (dropped project set.work.version
    ∷ done_before (version_at project.versions set.work.version) set.work.cell ∷ [])
    (Accepted set.work.project (change.BucketDone set.work.version set.work.cell))

-- what becomes of a request at a history
abbrev pub outcome_of : Settings → List Entry → BookRequest → Outcome
outcome_of settings history request.ListProjects = Answer (reply.Projects (project_numbers settings.projects))
outcome_of settings history (request.ReadProject id) =
    in_project (project_of settings.projects id) (λ n. Answer (reply.Project n))
outcome_of settings history (request.Upload id name model) =
    in_project (project_of settings.projects id) (changed settings history (change.Upload name model))
outcome_of settings history (request.Remove id name) =
    in_project (project_of settings.projects id) (removed settings history name)
outcome_of settings history (request.SetRules id rules weight) =
    in_project (project_of settings.projects id) (changed settings history (change.SetRules rules weight))
outcome_of settings history (request.ReadVersion id wanted) =
    in_project (project_of settings.projects id) (version_read history wanted)
outcome_of settings history (request.ReadClashes id wanted first count) =
    in_project (project_of settings.projects id) (clashes_read history wanted first count)
outcome_of settings history (request.ClashTopic id wanted place author weight) =
    in_project (project_of settings.projects id) (clash_noted settings history wanted place author weight)
outcome_of settings history (request.ListTopics id) =
    in_project (project_of settings.projects id)
    (λ n. Answer (reply.TopicList (board_of n history).discussion.topics))
outcome_of settings history (request.ReadTopic id topic) =
    in_project (project_of settings.projects id) (λ n. in_topic history n topic
    (λ t. Answer (topic_told (topic_at (board_of n history) t))))
outcome_of settings history (request.PostTopic id body author weight) =
    in_project (project_of settings.projects id)
    (λ n. noted settings history n (change.PostTopic body author weight))
outcome_of settings history (request.PutTopic id topic body author weight) =
    in_project (project_of settings.projects id) (λ n. in_topic history n topic
    (λ t. noted settings history n (change.PutTopic t body author weight)))
outcome_of settings history (request.DeleteTopic id topic) =
    in_project (project_of settings.projects id) (λ n. in_topic history n topic
    (λ t. noted settings history n (change.DeleteTopic t)))
outcome_of settings history (request.ListComments id topic) =
    in_project (project_of settings.projects id) (λ n. in_topic history n topic
    (λ t. Answer (reply.CommentList (comments_on t (board_of n history).discussion.comments))))
outcome_of settings history (request.ReadComment id topic comment) =
    in_project (project_of settings.projects id) (λ n. in_topic history n topic
    (λ t. in_comment history n t comment
    (λ c. Answer (comment_told (comment_at (board_of n history) t c)))))
outcome_of settings history (request.PostComment id topic body author weight) =
    in_project (project_of settings.projects id) (λ n. in_topic history n topic
    (λ t. with_body history n t body
    (λ b. noted settings history n (change.PostComment t b author weight))))
outcome_of settings history (request.PutComment id topic comment body author weight) =
    in_project (project_of settings.projects id) (λ n. in_topic history n topic
    (λ t. in_comment history n t comment
    (λ c. with_body history n t body
    (λ b. noted settings history n (change.PutComment t c b author weight)))))
outcome_of settings history (request.DeleteComment id topic comment) =
    in_project (project_of settings.projects id) (λ n. in_topic history n topic
    (λ t. in_comment history n t comment
    (λ c. noted settings history n (change.DeleteComment t c))))
outcome_of settings history (request.ListViews id topic) =
    in_project (project_of settings.projects id) (λ n. in_topic history n topic
    (λ t. Answer (reply.ViewList (views_on t (board_of n history).views))))
outcome_of settings history (request.ReadView id topic view) =
    in_project (project_of settings.projects id) (λ n. in_topic history n topic
    (λ t. in_view history n t view (λ v. Answer (view_told v (view_at (board_of n history) t v)))))
outcome_of settings history (request.PostView id topic body weight) =
    in_project (project_of settings.projects id) (λ n. in_topic history n topic
    (λ t. noted settings history n (change.PostView t body weight)))
outcome_of settings history (request.DeleteView id topic view) =
    in_project (project_of settings.projects id) (λ n. in_topic history n topic
    (λ t. in_view history n t view (λ v. noted settings history n (change.DeleteView t v))))
outcome_of settings history (request.TakeWork seat) = order_for (all_orders settings.projects history) seat
outcome_of settings history (request.Finish set) = finished history set

-- the reply to a change that made a version, by how many elements and triangles are told
abbrev pub version_made : ℕ → ℕ → ProjectState → ReplyBody
version_made elements triangles after =
    reply.Changed (newest after) elements triangles (length (version_at after.versions (newest after)).undone)

-- the topic of a clash at a place of a version
abbrev pub clash_told : BoardState → Version → ℕ → Author → Option Topic
clash_told board version place author =
    option_map (λ pair. clash_topic board pair.0 pair.1 author) (clash_at version place)

-- the reply to a change that was accepted, by the project before and after it
abbrev pub reply_to : ProjectState → Change → ProjectState → ReplyBody
reply_to before (change.Upload name model) after = version_made (length model) (triangle_count model) after
reply_to before (change.Remove name) after =
    let models = (newest_content after).models in
    version_made (told (elements_in models)) (told (triangles_among models)) after
reply_to before (change.SetRules rules weight) after =
    let models = (newest_content after).models in
    version_made (told (elements_in models)) (told (triangles_among models)) after
reply_to before (change.BucketDone number cell) after =
    reply.Finished (length (version_at after.versions number).undone)
reply_to before (change.PostTopic body author weight) after =
    reply.TopicIs (new_topic (next_serial before.board) body author)
reply_to before (change.PutTopic topic body author weight) after =
    topic_told (option_map (topic_put body author) (topic_at before.board topic))
reply_to before (change.DeleteTopic topic) after = reply.Gone
reply_to before (change.PostComment topic body author weight) after =
    reply.CommentIs (new_comment topic (next_serial before.board) body author)
reply_to before (change.PutComment topic comment body author weight) after =
    comment_told (option_map (comment_put body author) (comment_at before.board topic comment))
reply_to before (change.DeleteComment topic comment) after = reply.Gone
reply_to before (change.PostView topic body weight) after =
    reply.View (viewpoint (next_serial before.board) body)
reply_to before (change.DeleteView topic view) after = reply.Gone
reply_to before (change.ClashTopic version place author weight) after =
    topic_told (clash_told before.board (version_at before.versions version).content place author)

-- the reply's body
abbrev pub body_of : List Entry → Outcome → ReplyBody
body_of history (Refusal fault) = reply.Refused fault
body_of history (Answer body) = body
body_of history (Accepted number change) =
    reply_to (state_of number history) change (with_change (state_of number history) change)

-- the entry that a change makes
abbrev pub entry_of : Stamp → ℕ → Change → Entry
entry_of stamp project change = record { stamp = stamp; project = project; change = change }

-- the one entry that an accepted change adds, if there is one
abbrev pub entry_by : Stamp → Outcome → Option Entry
entry_by stamp (Refusal fault) = None
entry_by stamp (Answer body) = None
entry_by stamp (Accepted number change) = Some (entry_of stamp number change)

-- ---- calls: requests, each with the turn that it gives, if it gives one

-- a call that gives no turn
abbrev pub without_turn : BookRequest → BookCall
without_turn request = record { seen = None; request = request }

-- the turn that a call gives isn't below its own
abbrev pub ahead : ℕ → Option ℕ → Option BookFault
ahead turn None = None
ahead turn (Some given) = if nat_le turn given then Some (TurnAhead given turn) else None

-- what becomes of a call in a turn: it is refused for the turn that it gives, else it is what becomes of its request
abbrev pub outcome_in : Settings → List Entry → ℕ → BookCall → Outcome
outcome_in settings history turn call =
    refused_or (ahead turn call.seen) (outcome_of settings history call.request)

-- the entry that a call adds at a history
abbrev pub entry_added : Settings → List Entry → Stamp → BookCall → Option Entry
entry_added settings history stamp call = entry_by stamp (outcome_in settings history stamp.turn call)

-- the same as a list
abbrev pub added_by : Settings → List Entry → Stamp → BookCall → List Entry
added_by settings history stamp call = listed (entry_added settings history stamp call)

-- the reply to a call of a stamp at a history
abbrev pub reply_of : Settings → List Entry → Stamp → BookCall → BookReply
reply_of settings history stamp call = record {
  body = body_of history (outcome_in settings history stamp.turn call);
  horizon = horizon_of settings.projects (history ++ added_by settings history stamp call);
}

-- what contracts see of a book
pub record BookState : Type 0 where
  pub settings : Settings
  pub journal : List Entry
