-- What the book keeps beside its journal, so that it need not go over it.
use Rattle.std.specs.Prelude.{◌≡◌, ◌≤◌, ℕ, ◌+◌, List, [], ◌∷◌, length, Option, Some, None}
use Rattle.book_history.specs.declared.limits.TheConstants.{MOST_PROJECTS}
use Rattle.book_history.specs.declared.limits.Settings.{Settings}
use Rattle.book_history.specs.declared.changes.Entry.{Entry}
use Rattle.book_history.specs.declared.book_fault.BookFault.{BookFault}
use Rattle.book_history.specs.Settings.{IsWithinStated}
use Rattle.book_history.specs.Versions.{live_in}
use Rattle.book_history.specs.Projects.{ProjectState}
use Rattle.book_history.specs.History.{state_of, left_all, IsHistory}
use Rattle.book_history.specs.Weights.{triangles_in, text_in}
use Rattle.book_history.specs.MadeEntries.{AreMade}
use Rattle.federation_book.specs.declared.project.Project.{Project}
use Rattle.federation_book.specs.declared.state.State.{State}

-- a project keeps its topics, comments, viewpoints and last versions, and counts what else was
pub record KeepsProject (p : Project) (s : ProjectState) : Type 0 where
  pub board : p.board ≡ s.board
  pub newest : p.newest + 1 ≡ length s.versions
  pub live : p.live.items ≡ live_in s.versions

-- the projects, numbered from n, keep what follows of the journal
abbrev pub KeepStates : ℕ → List Project → List Entry → Type 0
KeepStates n [] journal = Unit {0}
KeepStates n (p ∷ ps) journal = KeepsProject p (state_of n journal) × KeepStates (n + 1) ps journal

-- what no call changes
abbrev pub settings_of : State → Settings
settings_of s = record { projects = length s.projects.items; limits = s.limits }

-- the projects are those of the journal, and the sums are its
pub record IsKept (s : State) : Type 0 where
  pub states : KeepStates 1 s.projects.items s.entries.items
  pub few : length s.projects.items ≤ MOST_PROJECTS
  pub rising : IsHistory s.entries.items
  pub triangles : s.triangles ≡ triangles_in s.entries.items
  pub text : s.text ≡ text_in s.entries.items
  pub within : IsWithinStated s.limits
  pub room : length s.entries.items + left_all (length s.projects.items) s.entries.items ≤ s.limits.journal

-- the projects are kept, and each entry of the journal was made by a request at the entries before it
pub record IsBook (s : State) : Type 0 where
  pub kept : IsKept s
  pub made : AreMade (settings_of s) s.entries.items

-- the entry, where nothing refuses it
abbrev pub unless_refused : Option BookFault → Entry → List Entry
unless_refused None entry = entry ∷ []
unless_refused (Some f) entry = []
