-- The topic that is made of a clash, and its viewpoint.
use Rattle.std.specs.Prelude.{ℕ, ◌++◌, List, [], ◌∷◌, false, Some, None, codes}
use Rattle.bim_model.specs.declared.guid.Guid.{Guid}
use Rattle.bim_model.specs.declared.author.Author.{Author}
use Rattle.bcf_topics.specs.declared.topic_body.TopicBody.{TopicBody}
use Rattle.bcf_topics.specs.declared.topic.Topic.{Topic}
use Rattle.bcf_topics.specs.Topics.{new_topic}
use Rattle.bcf_viewpoints.specs.declared.component.Component.{Component}
use Rattle.bcf_viewpoints.specs.declared.view.ViewBody.{ViewBody}
use Rattle.book_topics.specs.Boards.{BoardState, next_serial, topic_added, view_added}

-- the title names both elements
abbrev pub clash_title : Guid → Guid → List ℕ
clash_title a b = codes "Clash of " ++ (a.chars ++ (codes " and " ++ b.chars))

-- an open topic of type Clash, of which nothing else is said
unfoldable pub clash_body : Guid → Guid → TopicBody
clash_body a b = record {
  title = clash_title a b;
  topic_type = Some (codes "Clash");
  topic_status = Some (codes "Open");
  priority = None;
  index = None;
  labels = [];
  assigned_to = None;
  stage = None;
  description = None;
  due = None;
}

-- an element of a model as a component
abbrev pub component_of : Guid → Component
component_of guid = record { ifc_guid = Some guid; originating_system = None; authoring_tool_id = None }

-- the two elements are selected, and nothing else is said
unfoldable pub clash_view : Guid → Guid → ViewBody
clash_view a b = record {
  index = None;
  selection = component_of a ∷ component_of b ∷ [];
  coloring = [];
  default_visibility = false;
  exceptions = [];
}

-- the topic that is made of a clash of two elements
abbrev pub clash_topic : BoardState → Guid → Guid → Author → Topic
clash_topic board a b author = new_topic (next_serial board) (clash_body a b) author

-- the topic is made, and then its viewpoint
abbrev pub clash_added : BoardState → Guid → Guid → Author → BoardState
clash_added board a b author =
    view_added (topic_added board (clash_body a b) author) (next_serial board) (clash_view a b)
