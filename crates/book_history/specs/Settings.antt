-- What no call of a book changes.
use Rattle.std.specs.Prelude.{◌≤◌}
use Rattle.book_history.specs.declared.limits.Limits.{Limits}
use Rattle.bucket_grid.specs.declared.grid.TheConstants.{MOST_MEMBERSHIPS}
use Rattle.clash_check.specs.declared.version_fault.TheConstants.{MOST_VERSION_ELEMENTS}
use Rattle.book_history.specs.declared.limits.TheConstants.{MOST_STORED_TRIANGLES, MOST_TEXT, MOST_ENTRIES, MOST_TOPICS, MOST_COMMENTS, MOST_VIEWPOINTS}

-- each limit is at most the one of the program
pub record IsWithinStated (limits : Limits) : Type 0 where
  pub elements : limits.elements ≤ MOST_VERSION_ELEMENTS
  pub memberships : limits.memberships ≤ MOST_MEMBERSHIPS
  pub triangles : limits.triangles ≤ MOST_STORED_TRIANGLES
  pub text : limits.text ≤ MOST_TEXT
  pub journal : limits.journal ≤ MOST_ENTRIES
  pub topics : limits.topics ≤ MOST_TOPICS
  pub comments : limits.comments ≤ MOST_COMMENTS
  pub viewpoints : limits.viewpoints ≤ MOST_VIEWPOINTS

-- how much a book of the program may hold
abbrev pub stated_limits : Limits
stated_limits = record {
  elements = MOST_VERSION_ELEMENTS;
  memberships = MOST_MEMBERSHIPS;
  triangles = MOST_STORED_TRIANGLES;
  text = MOST_TEXT;
  journal = MOST_ENTRIES;
  topics = MOST_TOPICS;
  comments = MOST_COMMENTS;
  viewpoints = MOST_VIEWPOINTS;
}
