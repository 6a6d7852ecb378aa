-- Histories, and what follows of them for each project.
use Rattle.std.specs.Prelude.{ℕ, ◌+◌, ◌-◌, ◌<◌, ◌==◌, List, [], ◌∷◌, length, map, fold, filter, sum_by, nat_lt, nat_le, All, AllPairs, if◌then◌else◌}
use Rattle.bim_model.specs.Snapshots.{Version}
use Rattle.bucket_grid.specs.declared.cell.Cell.{Cell}
use Rattle.bucket_grid.specs.BucketTable.{upto}
use Rattle.clash_publish.specs.declared.horizon.Horizon.{Horizon}
use Rattle.book_topics.specs.Boards.{BoardState}
use Rattle.book_history.specs.declared.changes.Entry.{Entry}
use Rattle.book_history.specs.Versions.{VersionState, version_at, live_in}
use Rattle.book_history.specs.Projects.{ProjectState, untouched, with_change, newest}

-- a history: the turns of its entries rise strictly
abbrev pub IsHistory : List Entry → Type 0
IsHistory entries = AllPairs (λ (e f : Entry). e.stamp.turn < f.stamp.turn) entries

-- each entry is of an earlier turn
abbrev pub IsBefore : ℕ → List Entry → Type 0
IsBefore turn entries = All (λ (e : Entry). e.stamp.turn < turn) entries

-- the entries of the turns below this one
unfoldable pub at_turn : ℕ → List Entry → List Entry
at_turn turn history = filter (λ (e : Entry). nat_lt e.stamp.turn turn) history

-- the entries of this turn
unfoldable pub of_turn : ℕ → List Entry → List Entry
of_turn turn history = filter (λ (e : Entry). e.stamp.turn == turn) history

-- a project after one more entry: those of other projects leave it as it is
abbrev pub with_entry : ℕ → ProjectState → Entry → ProjectState
with_entry project s entry = if entry.project == project then with_change s entry.change else s

-- the project of a number after a history
unfoldable pub state_of : ℕ → List Entry → ProjectState
state_of project history = fold (with_entry project) untouched history

-- its topics, comments and viewpoints
abbrev pub board_of : ℕ → List Entry → BoardState
board_of project history = (state_of project history).board

-- the number of its newest version: how many uploads, removals and rules it has accepted
abbrev pub newest_of : ℕ → List Entry → ℕ
newest_of project history = newest (state_of project history)

-- its version of a number
abbrev pub version_of : ℕ → ℕ → List Entry → VersionState
version_of project number history = version_at (state_of project history).versions number

-- what that version holds: its models by rising name, and its rules
abbrev pub content_of : ℕ → ℕ → List Entry → Version
content_of project number history = (version_of project number history).content

-- its last sixteen versions, oldest first
abbrev pub live_of : ℕ → List Entry → List VersionState
live_of project history = live_in (state_of project history).versions

-- the numbers of a book's projects
abbrev pub project_numbers : ℕ → List ℕ
project_numbers projects = map (λ n. n + 1) (upto projects)

-- how many topics all projects have
abbrev pub topics_in : ℕ → List Entry → ℕ
topics_in projects history =
    sum_by (λ n. length (board_of n history).discussion.topics) (project_numbers projects)

-- .. comments
abbrev pub comments_in : ℕ → List Entry → ℕ
comments_in projects history =
    sum_by (λ n. length (board_of n history).discussion.comments) (project_numbers projects)

-- .. viewpoints
abbrev pub views_in : ℕ → List Entry → ℕ
views_in projects history = sum_by (λ n. length (board_of n history).views) (project_numbers projects)

-- how many buckets of some versions are to be checked
abbrev pub left_in : List VersionState → ℕ
left_in versions = sum_by (λ (v : VersionState). length v.undone) versions

-- .. of the live versions of all projects
abbrev pub left_all : ℕ → List Entry → ℕ
left_all projects history = sum_by (λ n. left_in (live_of n history)) (project_numbers projects)

-- the newest version of each project of a book, 0 where there is none of the number
abbrev pub horizon_of : ℕ → List Entry → Horizon
horizon_of projects history =
    record { newest = map (λ n. if nat_le n projects then newest_of n history else 0) (project_numbers 8) }
