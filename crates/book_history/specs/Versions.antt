-- The versions of a project, and how far each is checked.
use Rattle.std.specs.Prelude.{ℕ, ◌+◌, ◌-◌, Bool, not, ◌&&◌, List, [], ◌∷◌, length, filter, drop, slice_index_or}
use Rattle.bim_model.specs.Snapshots.{Version}
use Rattle.bucket_grid.specs.declared.cell.Cell.{Cell}
use Rattle.bucket_check.specs.Clashes.{is_cell}
use Rattle.clash_publish.specs.declared.horizon.TheConstants.{LIVE_VERSIONS}
use Rattle.book_history.specs.Buckets.{buckets_of, is_among}
use Rattle.book_history.specs.Unmoved.{is_unmoved}

-- a version: its models and rules, and its buckets that are still to be checked, by rising cell
pub record VersionState : Type 0 where
  pub content : Version
  pub undone : List Cell

-- version 0: no models, no rules
abbrev pub nothing : VersionState
nothing = record { content = record { models = []; rules = [] }; undone = [] }

-- a bucket that is done: it isn't one of those to be checked
abbrev pub is_done : VersionState → Cell → Bool
is_done version cell = is_among (buckets_of version.content) cell && not (is_among version.undone cell)

-- a bucket that is done in the version before, and has there the same members under the same rules
abbrev pub is_carried : VersionState → Version → Cell → Bool
is_carried before content cell = is_done before cell && is_unmoved before.content content cell

-- the version made after another: its buckets are to be checked, but for those that are carried
abbrev pub made_after : VersionState → Version → VersionState
made_after before content = record {
  content = content;
  undone = filter (λ cell. not (is_carried before content cell)) (buckets_of content);
}

-- the version with one more bucket done
abbrev pub with_done : Cell → VersionState → VersionState
with_done cell version = record {
  content = version.content;
  undone = filter (λ (c : Cell). not (is_cell c cell)) version.undone;
}

-- the version of a number
abbrev pub version_at : List VersionState → ℕ → VersionState
version_at versions number = slice_index_or versions number nothing

-- the number of the newest: the first is 0
abbrev pub newest_in : List VersionState → ℕ
newest_in versions = length versions - 1

-- the last sixteen
abbrev pub live_in : List VersionState → List VersionState
live_in versions = drop (length versions - LIVE_VERSIONS) versions

-- the number of the first of them
abbrev pub first_live : List VersionState → ℕ
first_live versions = length versions - LIVE_VERSIONS
