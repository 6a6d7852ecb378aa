-- Why requests are refused at a history. The first refusal of a list that holds is the one that is answered.
use Rattle.std.specs.Prelude.{ℕ, ◌+◌, ◌/◌, ◌^◌, ◌==◌, ◌&&◌, nat_lt, nat_le, List, [], ◌∷◌, ◌++◌, length, sum_by, Option, Some, None, if◌then◌else◌}
use Rattle.std.specs.List.{list_any}
use Rattle.std.specs.Str.{bytes_eq}
use Rattle.bim_model.specs.Identifiers.{identifier}
use Rattle.bim_model.specs.Snapshots.{Version}
use Rattle.bim_model.specs.declared.named_model.NamedModel.{NamedModel}
use Rattle.bucket_grid.specs.declared.cell.Cell.{Cell}
use Rattle.bucket_check.specs.Clashes.{clashes}
use Rattle.clash_publish.specs.declared.horizon.TheConstants.{LIVE_VERSIONS}
use Rattle.book_history.specs.declared.limits.Limits.{Limits}
use Rattle.book_history.specs.declared.limits.Settings.{Settings}
use Rattle.book_history.specs.declared.requests.Wanted.{Wanted}
use Rattle.book_history.specs.declared.requests.Wanted.TheVariants.{Newest, Number}
use Rattle.book_history.specs.declared.changes.Change.{Change}
use Rattle.book_history.specs.declared.changes.Change.TheVariants as change
use Rattle.book_history.specs.declared.changes.Entry.{Entry}
use Rattle.book_history.specs.declared.book_fault.BookFault.{BookFault}
use Rattle.book_history.specs.declared.book_fault.BookFault.TheVariants as fault
use Rattle.book_history.specs.declared.book_fault.StoreWhat.TheVariants.{Triangles, Text}
use Rattle.book_history.specs.Buckets.{memberships_of}
use Rattle.book_history.specs.Versions.{VersionState, is_done, live_in}
use Rattle.book_history.specs.Projects.{ProjectState, newest, newest_content, next_content, with_change}
use Rattle.book_history.specs.History.{state_of, live_of, left_in, project_numbers, topics_in, comments_in, views_in}
use Rattle.book_history.specs.Weights.{told, text_of, triangles_of, text_in, triangles_in, elements_in}

-- the first that holds
abbrev pub first_of : List (Option BookFault) → Option BookFault
first_of [] = None
first_of (Some f ∷ rest) = Some f
first_of (None ∷ rest) = first_of rest

-- the number of the project that has the identifier, among this many
abbrev pub project_of : ℕ → ℕ → Option ℕ
project_of projects id =
    let n = id / 2 ^ 96 in
    if (id == identifier n 0) && nat_lt 0 n && nat_le n projects then Some n else None

-- the number that is asked for
abbrev pub wanted_in : ProjectState → Wanted → ℕ
wanted_in project Newest = newest project
wanted_in project (Number number) = number

-- the version of that number isn't made yet
abbrev pub not_yet : ProjectState → ℕ → Option BookFault
not_yet project number =
    if nat_lt (newest project) number then Some (fault.NoVersion (newest project)) else None

-- .. or isn't one of the last sixteen
abbrev pub dropped : ProjectState → ℕ → Option BookFault
dropped project number =
    if nat_le (number + LIVE_VERSIONS) (newest project)
    then Some (fault.VersionDropped number (newest project)) else None

-- buckets of it are still to be checked
abbrev pub pending : ℕ → VersionState → Option BookFault
pending number version =
    if nat_lt 0 (length version.undone) then Some (fault.Pending number (length version.undone)) else None

-- the bucket is done
abbrev pub done_before : VersionState → Cell → Option BookFault
done_before version cell = if is_done version cell then Some fault.AlreadyDone else None

-- the version has no clash at that place, from 0
abbrev pub no_clash : VersionState → ℕ → Option BookFault
no_clash version place =
    let total = length (clashes version.content) in
    if nat_le total place then Some (fault.NoClash place total) else None

-- the newest version has no model of the name
abbrev pub no_model : ProjectState → List ℕ → Option BookFault
no_model project name =
    if list_any (λ (m : NamedModel). bytes_eq m.name name) (newest_content project).models
    then None else Some fault.NoModel

-- the version that a change makes has too many elements
abbrev pub elements_full : Limits → Option Version → Option BookFault
elements_full limits None = None
elements_full limits (Some content) =
    if nat_lt limits.elements (elements_in content.models)
    then Some (fault.ElementsFull (told (elements_in content.models)) limits.elements) else None

-- .. or too many pairs of a cell and a member of it
abbrev pub too_spread : Limits → Option Version → Option BookFault
too_spread limits None = None
too_spread limits (Some content) =
    if nat_lt limits.memberships (memberships_of content)
    then Some (fault.TooSpread (memberships_of content) limits.memberships) else None

-- all accepted changes would have too many triangles with so many more
abbrev pub triangles_if : Limits → List Entry → ℕ → Option BookFault
triangles_if limits history more =
    let count = triangles_in history + more in
    if nat_lt limits.triangles count
    then Some (fault.StoreFull Triangles (told count) limits.triangles) else None

-- .. or too many bytes of texts
abbrev pub text_if : Limits → List Entry → ℕ → Option BookFault
text_if limits history more =
    let count = text_in history + more in
    if nat_lt limits.text count then Some (fault.StoreFull Text (told count) limits.text) else None

-- how many buckets of a project's live versions are to be checked, if of one project so many are
abbrev pub left_if : List Entry → ℕ → ℕ → ℕ → ℕ
left_if history project left n = if n == project then left else left_in (live_of n history)

-- how many buckets of live versions of all projects are to be checked after a change of one of them
abbrev pub left_after : ℕ → List Entry → ℕ → Change → ℕ
left_after projects history project change =
    let left = left_in (live_in (with_change (state_of project history) change).versions) in
    sum_by (left_if history project left) (project_numbers projects)

-- the journal would have too many entries with one more, once so many buckets are checked
abbrev pub journal_if : Settings → List Entry → ℕ → Option BookFault
journal_if settings history left =
    let count = length history + left + 1 in
    if nat_lt settings.limits.journal count
    then Some (fault.JournalFull (told count) settings.limits.journal) else None

-- all accepted changes would hold too much with this one, or the journal would
abbrev pub store_full : Settings → List Entry → ℕ → Change → List (Option BookFault)
store_full settings history project change =
    triangles_if settings.limits history (triangles_of change)
    ∷ text_if settings.limits history (text_of change)
    ∷ journal_if settings history (left_after settings.projects history project change)
    ∷ []

-- all projects would have too many topics with one more
abbrev pub topics_full : Settings → List Entry → Option BookFault
topics_full settings history =
    let count = topics_in settings.projects history + 1 in
    if nat_lt settings.limits.topics count then Some (fault.TopicsFull count settings.limits.topics) else None

-- .. comments
abbrev pub comments_full : Settings → List Entry → Option BookFault
comments_full settings history =
    let count = comments_in settings.projects history + 1 in
    if nat_lt settings.limits.comments count
    then Some (fault.CommentsFull count settings.limits.comments) else None

-- .. viewpoints
abbrev pub views_full : Settings → List Entry → Option BookFault
views_full settings history =
    let count = views_in settings.projects history + 1 in
    if nat_lt settings.limits.viewpoints count
    then Some (fault.ViewpointsFull count settings.limits.viewpoints) else None

-- .. of what a change makes
abbrev pub too_many : Settings → List Entry → Change → List (Option BookFault)
too_many settings history (change.PostTopic body author weight) = topics_full settings history ∷ []
too_many settings history (change.PostComment topic body author weight) = comments_full settings history ∷ []
too_many settings history (change.PostView topic body weight) = views_full settings history ∷ []
too_many settings history (change.ClashTopic version place author weight) =
    topics_full settings history ∷ views_full settings history ∷ []
too_many settings history _ = []

-- why a change of topics, comments or viewpoints isn't accepted, in this order
abbrev pub not_noted : Settings → List Entry → ℕ → Change → List (Option BookFault)
not_noted settings history project change =
    too_many settings history change ++ store_full settings history project change

-- why a change that makes a version isn't accepted, in this order. A removal and new rules make no version larger and
-- add no triangles, so that they meet the last two alone.
abbrev pub full : Settings → List Entry → ℕ → Change → List (Option BookFault)
full settings history project change =
    let content = next_content (newest_content (state_of project history)) change in
    elements_full settings.limits content
    ∷ too_spread settings.limits content
    ∷ store_full settings history project change
