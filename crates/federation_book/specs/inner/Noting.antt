-- Changes of topics, comments and viewpoints, and what must be there for them.
use Rattle.std.specs.Prelude.{◌≡◌, Option, None, IfSome, IsSome}
use Rattle.bim_model.specs.declared.guid.Guid.{Guid}
use Rattle.bim_model.specs.Guids.{IsGuid}
use Rattle.book_topics.specs.Boards.{BoardState, topic_at, comment_at, view_at}
use Rattle.book_history.specs.declared.changes.Change.{Change}
use Rattle.book_history.specs.declared.changes.Change.TheVariants as change
use Rattle.book_history.specs.declared.replies.ReplyBody.{ReplyBody}
use Rattle.book_history.specs.Versions.{version_at}
use Rattle.book_history.specs.Projects.{ProjectState, clash_at, with_change}
use Rattle.book_history.specs.Requests.{reply_to}

-- the elements of the clash of which a change makes a topic, if it makes one so
abbrev pub clash_of : ProjectState → Change → Option (Guid × Guid)
clash_of project (change.ClashTopic version place author weight) =
    clash_at (version_at project.versions version).content place
clash_of project _ = None

-- the identifiers of two elements
pub record AreGuids (pair : Guid × Guid) : Type 0 where
  pub first : IsGuid pair.0.chars
  pub second : IsGuid pair.1.chars

-- there is a clash
abbrev pub IsClashing : Option (Guid × Guid) → Type 0
IsClashing pair = IsSome pair × IfSome pair AreGuids

-- a change of topics, comments or viewpoints
abbrev pub IsNote : Change → Type 0
IsNote (change.Upload name model) = ⊥
IsNote (change.Remove name) = ⊥
IsNote (change.SetRules rules weight) = ⊥
IsNote (change.BucketDone version cell) = ⊥
IsNote _ = Unit {0}

-- one of comments or viewpoints
abbrev pub IsFurther : Change → Type 0
IsFurther (change.PostComment topic body author weight) = Unit {0}
IsFurther (change.PutComment topic comment body author weight) = Unit {0}
IsFurther (change.DeleteComment topic comment) = Unit {0}
IsFurther (change.PostView topic body weight) = Unit {0}
IsFurther (change.DeleteView topic view) = Unit {0}
IsFurther _ = ⊥

-- what the change is about is there: its topic, comment or viewpoint, or the clash
abbrev pub Fits : BoardState → Option (Guid × Guid) → Change → Type 0
Fits board pair (change.PostTopic body author weight) = Unit {0}
Fits board pair (change.PutTopic topic body author weight) = IsSome (topic_at board topic)
Fits board pair (change.DeleteTopic topic) = IsSome (topic_at board topic)
Fits board pair (change.PostComment topic body author weight) = IsSome (topic_at board topic)
Fits board pair (change.PutComment topic comment body author weight) =
    IsSome (topic_at board topic) × IsSome (comment_at board topic comment)
Fits board pair (change.DeleteComment topic comment) =
    IsSome (topic_at board topic) × IsSome (comment_at board topic comment)
Fits board pair (change.PostView topic body weight) = IsSome (topic_at board topic)
Fits board pair (change.DeleteView topic view) = IsSome (view_at board topic view)
Fits board pair (change.ClashTopic version place author weight) = IsClashing pair
Fits board pair _ = ⊥

-- what is told, and what became of the board, are those of the change of every project of which it was the board
pub record IsApplied (pair : Option (Guid × Guid)) (change : Change) (before after : BoardState)
    (body : ReplyBody) : Type 0 where
  pub told :
      (project : ProjectState) → project.board ≡ before → pair ≡ clash_of project change
      → body ≡ reply_to project change (with_change project change)
  pub board :
      (project : ProjectState) → project.board ≡ before → pair ≡ clash_of project change
      → after ≡ (with_change project change).board
