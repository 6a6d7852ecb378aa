-- The members of a topic that a filter or an order may name (BCF API 3.0, Topic Services), and their values.
use Rattle.std.specs.Prelude.{ℕ, ℤ, List, codes, bytes_eq, if◌then◌else◌, Option, Some, None, option_map}
use Rattle.bim_model.specs.declared.author.Author.{Author}
use Rattle.bcf_topics.specs.declared.topic.Topic.{Topic}
use Rattle.odata_filter.specs.declared.topic_members.TextMember.{TextMember}
use Rattle.odata_filter.specs.declared.topic_members.TextMember.TheVariants.{Title, TopicType, TopicStatus, Priority, AssignedTo, Stage, Description, CreationAuthor, ModifiedAuthor}
use Rattle.odata_filter.specs.declared.topic_members.DateMember.{DateMember}
use Rattle.odata_filter.specs.declared.topic_members.DateMember.TheVariants.{CreationDate, ModifiedDate, DueDate}
use Rattle.odata_filter.specs.declared.topic_members.Member.{Member}
use Rattle.odata_filter.specs.declared.topic_members.Member.TheVariants.{OfText, Index, OfDate}

-- the member of that name whose value is a text
unfoldable pub text_member : List ℕ → Option TextMember
text_member name =
    if bytes_eq name (codes "title") then Some Title
    else (if bytes_eq name (codes "topic_type") then Some TopicType
    else (if bytes_eq name (codes "topic_status") then Some TopicStatus
    else (if bytes_eq name (codes "priority") then Some Priority
    else (if bytes_eq name (codes "assigned_to") then Some AssignedTo
    else (if bytes_eq name (codes "stage") then Some Stage
    else (if bytes_eq name (codes "description") then Some Description
    else (if bytes_eq name (codes "creation_author") then Some CreationAuthor
    else (if bytes_eq name (codes "modified_author") then Some ModifiedAuthor else None))))))))

-- the member of that name whose value is a date
unfoldable pub date_member : List ℕ → Option DateMember
date_member name =
    if bytes_eq name (codes "creation_date") then Some CreationDate
    else (if bytes_eq name (codes "modified_date") then Some ModifiedDate
    else (if bytes_eq name (codes "due_date") then Some DueDate else None))

-- that text member, or where there is none the member `index` or a date
abbrev pub member_or : List ℕ → Option TextMember → Option Member
member_or name (Some member) = Some (OfText member)
member_or name None =
    if bytes_eq name (codes "index") then Some Index else option_map (λ m. OfDate m) (date_member name)

-- the member of that name that a comparison or an order may name
abbrev pub member_named : List ℕ → Option Member
member_named name = member_or name (text_member name)

-- the text of a member, where it is there
abbrev pub text_of : TextMember → Topic → Option (List ℕ)
text_of Title topic = Some topic.body.title
text_of TopicType topic = topic.body.topic_type
text_of TopicStatus topic = topic.body.topic_status
text_of Priority topic = topic.body.priority
text_of AssignedTo topic = topic.body.assigned_to
text_of Stage topic = topic.body.stage
text_of Description topic = topic.body.description
text_of CreationAuthor topic = Some topic.created.user
text_of ModifiedAuthor topic = option_map (λ (author : Author). author.user) topic.modified

-- the date of a member in seconds since 1970, where it is there
abbrev pub date_of : DateMember → Topic → Option ℕ
date_of CreationDate topic = Some topic.created.moment
date_of ModifiedDate topic = option_map (λ (author : Author). author.moment) topic.modified
date_of DueDate topic = topic.body.due

-- the number of a topic in a list that a user has arranged, where it is there
abbrev pub index_of : Topic → Option ℤ
index_of topic = topic.body.index
