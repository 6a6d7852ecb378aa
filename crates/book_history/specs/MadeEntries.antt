-- Histories whose entries were made by requests, each at the entries before it.
use Rattle.std.specs.Prelude.{◌≡◌, List, [], ◌∷◌, ◌++◌}
use Rattle.book_history.specs.declared.limits.Settings.{Settings}
use Rattle.book_history.specs.declared.requests.BookRequest.{BookRequest}
use Rattle.book_history.specs.declared.requests.BookRequest.TheVariants.{Finish}
use Rattle.book_history.specs.declared.changes.Entry.{Entry}
use Rattle.book_history.specs.Requests.{Accepted, outcome_of}
use Rattle.book_history.specs.Legal.{IsLegal}
use Rattle.book_history.specs.HistoryLaws.{IsWhole}

-- what a request holds is as its types say: the grid of a bucket that it brings is that of its version
abbrev pub IsBuilt : BookRequest → Type 0
IsBuilt (Finish set) = IsWhole set.work.grid
IsBuilt _ = Unit {0}

-- some request that may be made at the history becomes the entry's change
pub record IsMadeAt (settings : Settings) (history : List Entry) (entry : Entry) : Type 0 where
  pub request : BookRequest
  pub built : IsBuilt request
  pub legal : IsLegal settings history request
  pub becomes : outcome_of settings history request ≡ Accepted entry.project entry.change

-- after a history: each of these entries is made so, at that history and the entries before it
abbrev pub AreMadeAfter : Settings → List Entry → List Entry → Type 0
AreMadeAfter settings history [] = Unit {0}
AreMadeAfter settings history (e ∷ es) =
    IsMadeAt settings history e × AreMadeAfter settings (history ++ e ∷ []) es

-- each entry is made so, at the entries before it
abbrev pub AreMade : Settings → List Entry → Type 0
AreMade settings entries = AreMadeAfter settings [] entries
