-- Comments that go out (BCF API 3.0, Comment Services), as JSON data.
use Rattle.std.specs.Prelude.{◌≡◌, ℕ, List, Option, option_map, codes}
use Rattle.serde_json.specs.Data.{Data, object, Members, no_members}
use Rattle.bcf_json.specs.JsonTexts.{identifier_text, IsDateText}
use Rattle.bcf_topics.specs.declared.comment.Comment.{Comment}
use Rattle.bcf_bodies.specs.TextMembers.{put_text, put_text_if}
use Rattle.bcf_bodies.specs.TopicTrees.{IsDateIf, moment_if, put_modified}

-- what a comment always has
unfoldable pub comment_base : ℕ → Comment → List ℕ → Members
comment_base project comment created =
    put_text (codes "author") comment.created.user
    (put_text (codes "comment") comment.body.comment
    (put_text (codes "date") created
    (put_text (codes "guid") (identifier_text project comment.serial)
    (put_text (codes "topic_guid") (identifier_text project comment.topic) no_members))))

-- the viewpoint that it is about
abbrev pub viewpoint_text : ℕ → Option ℕ → Option (List ℕ)
viewpoint_text project viewpoint = option_map (λ serial. identifier_text project serial) viewpoint

-- a comment, with the dates as texts
unfoldable pub comment_tree : ℕ → Comment → List ℕ → Option (List ℕ) → Data
comment_tree project comment created modified =
    object (put_text_if (codes "viewpoint_guid") (viewpoint_text project comment.body.viewpoint)
    (put_modified comment.modified modified (comment_base project comment created)))

-- a comment of a project
unfoldable pub IsCommentTree : ℕ → Comment → Data → Type 0
IsCommentTree project comment tree =
    (created : List ℕ) × (modified : Option (List ℕ))
    × IsDateText comment.created.moment created
    × IsDateIf (moment_if comment.modified) modified
    × (tree ≡ comment_tree project comment created modified)
