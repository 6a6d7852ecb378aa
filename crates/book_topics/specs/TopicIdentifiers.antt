-- Topics, comments and viewpoints by their identifiers.
use Rattle.std.specs.Prelude.{ℕ, ◌-◌, ◌^◌, ◌==◌, ◌&&◌, nat_lt, List, Option, Some, None, option_map, option_and_then, if◌then◌else◌}
use Rattle.bim_model.specs.Identifiers.{identifier}
use Rattle.bcf_topics.specs.declared.comment.CommentIn.{CommentIn}
use Rattle.bcf_topics.specs.declared.comment.CommentBody.{CommentBody}
use Rattle.book_topics.specs.Boards.{BoardState, topic_at, comment_at, view_at}

-- the serial number below 2 ^ 48 that has the identifier in a project, if there is one
unfoldable pub serial_of : ℕ → ℕ → Option ℕ
serial_of project id =
    let serial = id - identifier project 0 in
    if (id == identifier project serial) && nat_lt serial (2 ^ 48) then Some serial else None

-- the number, where there is what has it
abbrev pub number_of : {A : Type 0} → ℕ → Option A → Option ℕ
number_of serial None = None
number_of serial (Some x) = Some serial

-- the number of the topic that has the identifier in the project of this number
unfoldable pub topic_named : ℕ → BoardState → ℕ → Option ℕ
topic_named project board id =
    option_and_then (λ serial. number_of serial (topic_at board serial)) (serial_of project id)

-- .. of the comment on a topic
unfoldable pub comment_named : ℕ → BoardState → ℕ → ℕ → Option ℕ
comment_named project board topic id =
    option_and_then (λ serial. number_of serial (comment_at board topic serial)) (serial_of project id)

-- .. of the viewpoint of a topic
unfoldable pub view_named : ℕ → BoardState → ℕ → ℕ → Option ℕ
view_named project board topic id =
    option_and_then (λ serial. number_of serial (view_at board topic serial)) (serial_of project id)

-- a comment's body
abbrev pub comment_body : List ℕ → Option ℕ → CommentBody
comment_body comment viewpoint = record { comment = comment; viewpoint = viewpoint }

-- a comment as it is kept, with the number of the viewpoint whose identifier was sent, if one was
abbrev pub kept_about : ℕ → BoardState → ℕ → List ℕ → Option ℕ → Option CommentBody
kept_about project board topic comment None = Some (comment_body comment None)
kept_about project board topic comment (Some id) =
    option_map (λ serial. comment_body comment (Some serial)) (view_named project board topic id)

-- a comment on a topic as it is kept, of what was sent; none where that names no viewpoint of the topic
unfoldable pub comment_kept : ℕ → BoardState → ℕ → CommentIn → Option CommentBody
comment_kept project board topic sent = kept_about project board topic sent.comment sent.viewpoint
