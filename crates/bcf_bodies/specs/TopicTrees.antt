-- Topics that go out (BCF API 3.0, Topic Services), as JSON data, which have each member once, in the order
-- of the names' bytes.
use Rattle.std.specs.Prelude.{◌≡◌, ℕ, ℤ, List, [], ◌∷◌, Option, Some, None, codes, decimal, ⊤}
use Rattle.serde_json.specs.Data.{Data, number, string, array, object, Members, no_members, put}
use Rattle.serde_json.specs.Find.{of_integer}
use Rattle.bim_model.specs.declared.author.Author.{Author}
use Rattle.bcf_json.specs.JsonTexts.{identifier_text, IsDateText}
use Rattle.bcf_topics.specs.declared.topic_body.TopicBody.{TopicBody}
use Rattle.bcf_topics.specs.declared.topic.Topic.{Topic}
use Rattle.bcf_bodies.specs.TextMembers.{put_text, put_text_if, listed}

-- the date of a moment, where there is one
abbrev pub IsDateIf : Option ℕ → Option (List ℕ) → Type 0
IsDateIf None None = ⊤
IsDateIf None (Some date) = ⊥
IsDateIf (Some moment) None = ⊥
IsDateIf (Some moment) (Some date) = IsDateText moment date

-- when a body was replaced last
abbrev pub moment_if : Option Author → Option ℕ
moment_if None = None
moment_if (Some author) = Some author.moment

-- who replaced a body last, and when
abbrev pub put_modified : Option Author → Option (List ℕ) → Members → Members
put_modified (Some author) (Some date) members =
    put_text (codes "modified_date") date (put_text (codes "modified_author") author.user members)
put_modified author date members = members

-- the index, where there is one
abbrev pub put_index : Option ℤ → Members → Members
put_index None members = members
put_index (Some index) members = put (codes "index") (number (of_integer index)) members

-- the labels, where there are any
abbrev pub put_labels : List (List ℕ) → Members → Members
put_labels [] members = members
put_labels (label ∷ labels) members =
    put (codes "labels") (array (listed (λ text. string text) (label ∷ labels))) members

-- what a topic always has
unfoldable pub topic_base : ℕ → Topic → List ℕ → Members
topic_base project topic created =
    put_text (codes "creation_author") topic.created.user
    (put_text (codes "creation_date") created
    (put_text (codes "guid") (identifier_text project topic.serial)
    (put_text (codes "server_assigned_id") (decimal topic.serial)
    (put_text (codes "title") topic.body.title no_members))))

-- the texts that it may have
unfoldable pub put_words : TopicBody → Members → Members
put_words body members =
    put_text_if (codes "topic_type") body.topic_type
    (put_text_if (codes "topic_status") body.topic_status
    (put_text_if (codes "priority") body.priority
    (put_text_if (codes "assigned_to") body.assigned_to
    (put_text_if (codes "stage") body.stage
    (put_text_if (codes "description") body.description members)))))

-- what else it may have
unfoldable pub put_rest : TopicBody → Option (List ℕ) → Members → Members
put_rest body due members =
    put_text_if (codes "due_date") due (put_labels body.labels (put_index body.index members))

-- the members of a topic, with the dates as texts
unfoldable pub topic_members : ℕ → Topic → List ℕ → Option (List ℕ) → Option (List ℕ) → Members
topic_members project topic created modified due =
    put_rest topic.body due (put_words topic.body
    (put_modified topic.modified modified (topic_base project topic created)))

-- a topic of a project
unfoldable pub IsTopicTree : ℕ → Topic → Data → Type 0
IsTopicTree project topic tree =
    (created : List ℕ) × (modified : Option (List ℕ)) × (due : Option (List ℕ))
    × IsDateText topic.created.moment created
    × IsDateIf (moment_if topic.modified) modified
    × IsDateIf topic.body.due due
    × (tree ≡ object (topic_members project topic created modified due))
