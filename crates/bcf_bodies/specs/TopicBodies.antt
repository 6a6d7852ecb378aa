-- The body of a topic (BCF API 3.0, Topic Services).
use Rattle.std.specs.Prelude.{ℕ, ℤ, List, [], cond, nat_le, Result, Ok, Err, codes}
use Rattle.std.specs.Prelude.{Option, Some, None, option_and_then, option_map}
use Rattle.std.specs.Option.{unwrap_or}
use Rattle.serde_json.specs.Data.{Data, Items}
use Rattle.serde_json.specs.Find.{get, as_array}
use Rattle.serde_json.specs.Events.{items_len}
use Rattle.bcf_topics.specs.declared.limits.TheConstants.{MOST_TITLE, MOST_WORDS, MOST_LABELS, MOST_LABEL}
use Rattle.bcf_topics.specs.declared.topic_body.TopicBody.{TopicBody}
use Rattle.bcf_bodies.specs.declared.body_fault.BodyFault.{BodyFault}
use Rattle.bcf_bodies.specs.declared.body_fault.BodyFault.TheVariants.{Title, BadMember}
use Rattle.bcf_bodies.specs.Members.{optional, short_text, text_in, filled_in, index_in, due_in, all_of}

-- at most 20 labels, each of at most 256 bytes
unfoldable pub labels_of : Items → Option (List (List ℕ))
labels_of items = cond (nat_le (items_len items) MOST_LABELS) (all_of (short_text MOST_LABEL) items) None

-- the same, of data that are an array
abbrev pub labels_value : Data → Option (List (List ℕ))
labels_value value = option_and_then labels_of (as_array value)

-- the member `labels`, no labels where it is absent
unfoldable pub labels_in : Data → Option (List (List ℕ))
labels_in tree =
    option_map (λ labels. unwrap_or labels []) (optional labels_value (get (codes "labels") tree))

-- what is read of a member, or the fault that it is bad
abbrev pub member_or : {A : Type 0} → List ℕ → Option A → Result A BodyFault
member_or name None = Err (BadMember name)
member_or name (Some value) = Ok value

-- a title, or the fault that it is bad
abbrev pub title_or : Option (List ℕ) → Result (List ℕ) BodyFault
title_or None = Err Title
title_or (Some title) = Ok title

-- a member that is a text, or its fault
unfoldable pub word_in : List ℕ → Data → Result (Option (List ℕ)) BodyFault
word_in name tree = member_or name (text_in MOST_WORDS name tree)

-- a topic of which the title alone is told
abbrev pub titled : List ℕ → TopicBody
titled title =
    record {
      title = title;
      topic_type = None;
      topic_status = None;
      priority = None;
      index = None;
      labels = [];
      assigned_to = None;
      stage = None;
      description = None;
      due = None;
    }

-- a topic with the members up to `labels` by their names' bytes, or the first fault of these
unfoldable pub with_first :
    TopicBody → Result (Option (List ℕ)) BodyFault → Result (Option (List ℕ)) BodyFault
    → Result (Option ℕ) BodyFault → Result (Option ℤ) BodyFault → Result (List (List ℕ)) BodyFault
    → Result TopicBody BodyFault
with_first body (Err fault) _ _ _ _ = Err fault
with_first body (Ok a) (Err fault) _ _ _ = Err fault
with_first body (Ok a) (Ok d) (Err fault) _ _ = Err fault
with_first body (Ok a) (Ok d) (Ok u) (Err fault) _ = Err fault
with_first body (Ok a) (Ok d) (Ok u) (Ok i) (Err fault) = Err fault
with_first body (Ok a) (Ok d) (Ok u) (Ok i) (Ok l) =
    Ok (record {
      title = body.title;
      topic_type = body.topic_type;
      topic_status = body.topic_status;
      priority = body.priority;
      index = i;
      labels = l;
      assigned_to = a;
      stage = body.stage;
      description = d;
      due = u;
    })

-- the same with the members that a body has
unfoldable pub first_in : Data → TopicBody → Result TopicBody BodyFault
first_in tree body =
    with_first body
    (word_in (codes "assigned_to") tree)
    (word_in (codes "description") tree)
    (member_or (codes "due_date") (due_in tree))
    (member_or (codes "index") (index_in tree))
    (member_or (codes "labels") (labels_in tree))

-- a topic with the members from `priority` on, or the first fault of these
unfoldable pub with_last :
    TopicBody → Result (Option (List ℕ)) BodyFault → Result (Option (List ℕ)) BodyFault
    → Result (Option (List ℕ)) BodyFault → Result (Option (List ℕ)) BodyFault → Result TopicBody BodyFault
with_last body (Err fault) _ _ _ = Err fault
with_last body (Ok p) (Err fault) _ _ = Err fault
with_last body (Ok p) (Ok s) (Err fault) _ = Err fault
with_last body (Ok p) (Ok s) (Ok o) (Err fault) = Err fault
with_last body (Ok p) (Ok s) (Ok o) (Ok k) =
    Ok (record {
      title = body.title;
      topic_type = k;
      topic_status = o;
      priority = p;
      index = body.index;
      labels = body.labels;
      assigned_to = body.assigned_to;
      stage = s;
      description = body.description;
      due = body.due;
    })

-- the same with the members that a body has
unfoldable pub last_in : Data → TopicBody → Result TopicBody BodyFault
last_in tree body =
    with_last body
    (word_in (codes "priority") tree)
    (word_in (codes "stage") tree)
    (word_in (codes "topic_status") tree)
    (word_in (codes "topic_type") tree)

-- what follows where there is no fault
abbrev pub and_then : {A B : Type 0} → (A → Result B BodyFault) → Result A BodyFault → Result B BodyFault
and_then next (Err fault) = Err fault
and_then next (Ok a) = next a

-- the title that a body has, or its fault
abbrev pub title_in : Data → Result (List ℕ) BodyFault
title_in tree = title_or (filled_in MOST_TITLE (codes "title") tree)

-- the topic that a body asks for, or its first fault: the title decides first, then the others by their names' bytes
unfoldable pub topic_body : Data → Result TopicBody BodyFault
topic_body tree =
    and_then (last_in tree) (and_then (first_in tree) (and_then (λ t. Ok (titled t)) (title_in tree)))
