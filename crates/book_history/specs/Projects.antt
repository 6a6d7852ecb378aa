-- What accepted changes make of a project.
use Rattle.std.specs.Prelude.{ℕ, ◌++◌, List, ◌∷◌, [], slice_set, slice_get, Option, Some, None, option_map}
use Rattle.bim_model.specs.declared.element.Element.{Element}
use Rattle.bim_model.specs.declared.guid.Guid.{Guid}
use Rattle.bim_model.specs.declared.named_model.NamedModel.{NamedModel}
use Rattle.bim_model.specs.declared.author.Author.{Author}
use Rattle.bim_model.specs.Snapshots.{Version, with_model, without_model}
use Rattle.bucket_grid.specs.declared.cell.Cell.{Cell}
use Rattle.bucket_check.specs.declared.pair.SetPair.{SetPair}
use Rattle.bucket_check.specs.Clashes.{clashes}
use Rattle.clash_publish.specs.Listed.{element_of}
use Rattle.book_topics.specs.Boards.{BoardState, blank, topic_added, topic_replaced, topic_removed, comment_added, comment_replaced, comment_removed, view_added, view_removed}
use Rattle.book_topics.specs.OfClashes.{clash_added}
use Rattle.book_history.specs.declared.changes.Change.{Change}
use Rattle.book_history.specs.declared.changes.Change.TheVariants as change
use Rattle.book_history.specs.Versions.{VersionState, nothing, made_after, with_done, version_at, newest_in}

-- a project: its topics, comments and viewpoints, and its versions from 0 on
pub record ProjectState : Type 0 where
  pub board : BoardState
  pub versions : List VersionState

-- a project before its first change
abbrev pub untouched : ProjectState
untouched = record { board = blank; versions = nothing ∷ [] }

-- the number of a project's newest version
abbrev pub newest : ProjectState → ℕ
newest project = newest_in project.versions

-- what its newest version holds
abbrev pub newest_content : ProjectState → Version
newest_content project = (version_at project.versions (newest project)).content

-- a model under its name
abbrev pub named_model : List ℕ → List Element → NamedModel
named_model name model = record { name = name; model = model }

-- what the next version holds, where a change makes one: a model takes its place by name, or goes, or rules
-- take theirs
abbrev pub next_content : Version → Change → Option Version
next_content content (change.Upload name model) =
    Some (record { models = with_model (named_model name model) content.models; rules = content.rules })
next_content content (change.Remove name) =
    Some (record { models = without_model name content.models; rules = content.rules })
next_content content (change.SetRules rules weight) = Some (record { models = content.models; rules = rules })
next_content content _ = None

-- a version is added after the newest
abbrev pub with_version : ProjectState → Version → ProjectState
with_version project content = record {
  board = project.board;
  versions = project.versions ++ made_after (version_at project.versions (newest project)) content ∷ [];
}

-- a project in which a bucket of a version is done
abbrev pub with_bucket : ProjectState → ℕ → Cell → ProjectState
with_bucket project number cell = record {
  board = project.board;
  versions = slice_set project.versions number (with_done cell (version_at project.versions number));
}

-- .. where the change makes one
abbrev pub with_next : ProjectState → Option Version → ProjectState
with_next project None = project
with_next project (Some content) = with_version project content

-- other topics, comments and viewpoints
abbrev pub with_board : ProjectState → BoardState → ProjectState
with_board project board = record { board = board; versions = project.versions }

-- the two elements of a clash, by their identifiers
abbrev pub guids_of : Version → SetPair → Guid × Guid
guids_of version p = ((element_of version p.a).element.guid, (element_of version p.b).element.guid)

-- .. of the clash at a place of a version, from 0
abbrev pub clash_at : Version → ℕ → Option (Guid × Guid)
clash_at version place = option_map (guids_of version) (slice_get (clashes version) place)

-- the topic of a clash and its viewpoint are made
abbrev pub with_clash : BoardState → Author → Option (Guid × Guid) → BoardState
with_clash board author None = board
with_clash board author (Some pair) = clash_added board pair.0 pair.1 author

-- the project after a change
abbrev pub with_change : ProjectState → Change → ProjectState
with_change project (change.Upload name model) =
    with_next project (next_content (newest_content project) (change.Upload name model))
with_change project (change.Remove name) =
    with_next project (next_content (newest_content project) (change.Remove name))
with_change project (change.SetRules rules weight) =
    with_next project (next_content (newest_content project) (change.SetRules rules weight))
with_change project (change.BucketDone number cell) = with_bucket project number cell
with_change project (change.PostTopic body author weight) =
    with_board project (topic_added project.board body author)
with_change project (change.PutTopic topic body author weight) =
    with_board project (topic_replaced project.board topic body author)
with_change project (change.DeleteTopic topic) = with_board project (topic_removed project.board topic)
with_change project (change.PostComment topic body author weight) =
    with_board project (comment_added project.board topic body author)
with_change project (change.PutComment topic comment body author weight) =
    with_board project (comment_replaced project.board topic comment body author)
with_change project (change.DeleteComment topic comment) =
    with_board project (comment_removed project.board topic comment)
with_change project (change.PostView topic body weight) =
    with_board project (view_added project.board topic body)
with_change project (change.DeleteView topic view) =
    with_board project (view_removed project.board topic view)
with_change project (change.ClashTopic version place author weight) =
    with_board project
    (with_clash project.board author (clash_at (version_at project.versions version).content place))
