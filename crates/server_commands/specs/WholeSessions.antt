-- What becomes of a replayed session whose source gives whole requests, where no read and no write fails.
use Rattle.std.specs.Prelude.{◌≡◌, ◌⊎◌, ◌<◌, ◌++◌, ℕ, List, length, false, true, Option, Some}
use Rattle.bim_io.specs.Causes.{Rose}
use Rattle.bim_io.specs.StreamViews.{Outside}
use Rattle.http_frame.specs.Events.{Event, Spells}
use Rattle.http_frame.specs.Events as frame
use Rattle.book_turn.specs.declared.limits.TheConstants.{MOST_TURNS}
use Rattle.book_history.specs.declared.limits.Settings.{Settings}
use Rattle.bim_session.specs.declared.end.SessionEnd.{SessionEnd}
use Rattle.bim_session.specs.declared.end.SessionEnd.TheVariants.{SpentTurns}
use Rattle.bim_session.specs.Session.{most_requests, requests, is_closed}
use Rattle.bim_session.specs.Replay.{Replays, status_of}

-- A session is replayed over a book of its own. It ends for want of a turn only after as many steps as a pass makes.
pub record ReplaysAlone (settings : Settings) (buckets : Option ℕ) (before after : Outside)
    (end : SessionEnd) : Type 0 where
  pub replays : Replays settings buckets before after end
  pub turns : (n : ℕ) → end ≡ SpentTurns n → length replays.steps ≡ MOST_TURNS

-- the bytes are these events and nothing else, fewer requests than a session may have
pub record AreWhole (bytes : List ℕ) (events : List Event) : Type 0 where
  pub spells : Spells bytes false events frame.between
  pub few : requests events < most_requests

-- no read and no write failed
abbrev pub NothingFailed : Outside → Outside → Type 0
NothingFailed before after =
    (Rose before.source.faults after.source.faults → ⊥) × (Rose before.sink.faults after.sink.faults → ⊥)

-- all events were answered, or those up to the first that closes the connection
abbrev pub AllAnswered : List Event → List Event → Type 0
AllAnswered events answered =
    (answered ≡ events)
    ⊎ ((is_closed 0 answered ≡ true) × ((later : List Event) × (events ≡ answered ++ later)))

-- All events are answered, which is status 0; or memory runs out, which is 6; or the book has taken as many turns as a pass
-- makes, which is 7.
abbrev pub EndsWhole : List Event → List Event → SessionEnd → ℕ → Type 0
EndsWhole events answered end steps =
    ((status_of end ≡ 0) × AllAnswered events answered)
    ⊎ ((status_of end ≡ 6) ⊎ ((status_of end ≡ 7) × (steps ≡ MOST_TURNS)))

-- so ends each session whose source has whole requests to give, if nothing fails
abbrev pub WholeRequestsAreAnswered : Type 0
WholeRequestsAreAnswered =
    (settings : Settings) (buckets : Option ℕ) (before after : Outside) (end : SessionEnd) (bytes : List ℕ)
    (events : List Event) (alone : ReplaysAlone settings buckets before after end)
    → before.source.left ≡ Some bytes → AreWhole bytes events → NothingFailed before after
    → EndsWhole events alone.replays.session.events end (length alone.replays.steps)
