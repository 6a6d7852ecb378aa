-- What a session keeps of the book's replies: the turn that it printed last, and the clashes that it was answered.
use Rattle.std.specs.Prelude.{◌≡◌, ◌≤◌, ℕ, ◌==◌, ◌&&◌, cond, Option, Some, None, IfSome}
use Rattle.bim_model.specs.Snapshots.{Version}
use Rattle.clash_publish.specs.Shelves.{set_of, is_live}
use Rattle.book_history.specs.declared.limits.TheConstants.{MOST_PROJECTS}
use Rattle.book_history.specs.Refusals.{project_of}
use Rattle.book_history.specs.declared.requests.Wanted.TheVariants.{Number}
use Rattle.book_history.specs.declared.requests.BookRequest.{BookRequest}
use Rattle.book_history.specs.declared.requests.BookRequest.TheVariants as request
use Rattle.book_history.specs.declared.requests.BookCall.{BookCall}
use Rattle.book_history.specs.declared.replies.ReplyBody.{ReplyBody}
use Rattle.book_history.specs.declared.replies.ReplyBody.TheVariants as reply
use Rattle.book_history.specs.declared.replies.BookReply.{BookReply}
use Rattle.bim_session.specs.declared.notes.Notes.{Notes}

-- the number of the project that has the identifier, among as many as a book may have
abbrev pub named_project : ℕ → Option ℕ
named_project id = project_of MOST_PROJECTS id

-- the number of the project whose clashes a request asks for
abbrev pub project_read : BookRequest → Option ℕ
project_read (request.ReadClashes id wanted first count) = named_project id
project_read other = None

-- the version whose clashes a reply tells, and what it holds
abbrev pub set_told : ReplyBody → Option (ℕ × Version)
set_told (reply.Clashes version content first count) = Some (version, content)
set_told other = None

-- the sets of a shelf, with those that a reply tells under a project
abbrev pub put_set : Option ℕ → Option (ℕ × Version) → (ℕ → ℕ → Option Version) → ℕ → ℕ → Option Version
put_set None told sets p v = sets p v
put_set (Some project) None sets p v = sets p v
put_set (Some project) (Some told) sets p v =
    cond (project == p && told.0 == v) (Some told.1) (sets p v)

-- a request asks for clashes on the shelf, by the number of their version
pub record AsksShelf (notes : Notes) (asked : BookRequest) : Type 0 where
  pub id : ℕ
  pub project : ℕ
  pub version : ℕ
  pub first : ℕ
  pub count : ℕ
  pub content : Version
  pub request_is : asked ≡ request.ReadClashes id (Number version) first count
  pub named : named_project id ≡ Some project
  pub kept : set_of notes.shelf project version ≡ Some content

-- and this is the reply: these clashes, and the newest versions as they were told last
abbrev pub IsShelfReply : Notes → BookRequest → BookReply → Type 0
IsShelfReply notes asked answer =
    (asks : AsksShelf notes asked) × (answer ≡ record {
      body = reply.Clashes asks.version asks.content asks.first asks.count;
      horizon = notes.horizon;
    })

-- the turn that a call gives, if it gives one, isn't above this one
abbrev pub IsUpTo : ℕ → Option ℕ → Type 0
IsUpTo turn seen = IfSome seen (λ given. given ≤ turn)

-- a call asks for clashes on the shelf, and gives no turn above the one that was printed last
abbrev pub AsksKept : Notes → BookCall → Type 0
AsksKept notes call = AsksShelf notes call.request × IsUpTo notes.turn call.seen

-- and this is the reply
abbrev pub IsKeptReply : Notes → BookCall → BookReply → Type 0
IsKeptReply notes call answer = IsShelfReply notes call.request answer × IsUpTo notes.turn call.seen

-- a reply was noted, which is printed with this turn: its clashes are on the shelf, which keeps the versions that are
-- live by the reply's horizon
pub record Noted (turn : ℕ) (project : Option ℕ) (told : BookReply) (old new : Notes) : Type 0 where
  pub turn_is : new.turn ≡ turn
  pub horizon_is : new.horizon ≡ told.horizon
  pub sets_are : (p v : ℕ) → set_of new.shelf p v
      ≡ cond (is_live told.horizon.newest p v)
      (put_set project (set_told told.body) (set_of old.shelf) p v) None
