-- The body of a comment (BCF API 3.0, Comment Services).
use Rattle.std.specs.Prelude.{ℕ, List, Option, Some, None, Result, Ok, Err, codes}
use Rattle.serde_json.specs.Data.{Data}
use Rattle.bcf_topics.specs.declared.limits.TheConstants.{MOST_COMMENT}
use Rattle.bcf_topics.specs.declared.comment.CommentIn.{CommentIn}
use Rattle.bcf_bodies.specs.declared.body_fault.BodyFault.{BodyFault}
use Rattle.bcf_bodies.specs.declared.body_fault.BodyFault.TheVariants.{BadMember}
use Rattle.bcf_bodies.specs.Members.{filled_in, viewpoint_in}

-- the comment of its members, each none where it is bad
unfoldable pub joined_comment : Option (List ℕ) → Option (Option ℕ) → Result CommentIn BodyFault
joined_comment None viewpoint = Err (BadMember (codes "comment"))
joined_comment (Some comment) None = Err (BadMember (codes "viewpoint_guid"))
joined_comment (Some comment) (Some viewpoint) = Ok (record { comment = comment; viewpoint = viewpoint })

-- the comment that a body asks for, or its first fault
unfoldable pub comment_body : Data → Result CommentIn BodyFault
comment_body tree = joined_comment (filled_in MOST_COMMENT (codes "comment") tree) (viewpoint_in tree)
