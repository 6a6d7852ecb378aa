-- One session by a caller of the book.
use Rattle.std.specs.Prelude.{◌≡◌, ℕ, List, Option}
use Rattle.bim_io.specs.Causes.{ComesOfFault}
use Rattle.bim_io.specs.StreamViews.{Outside, EndsEmpty, Exchanges}
use Rattle.book_turn.specs.declared.limits.TheConstants.{MOST_TURNS}
use Rattle.book_history.specs.declared.limits.Settings.{Settings}
use Rattle.book_history.specs.Runs.{Step}
use Rattle.book_passes.specs.Lessons.{CallerSeen}
use Rattle.bim_session.specs.declared.end.SessionEnd.{SessionEnd}
use Rattle.bim_session.specs.declared.end.SessionEnd.TheVariants.{SpentTurns}
use Rattle.bim_session.specs.Session.{Session}
use Rattle.bim_session.specs.Replay.{ReadsAsNeeded, IsReadFault, IsWriteFault}
use Rattle.link_session.specs.Callers.{LearnsBy, start_of}

-- A session by the caller v, which is w afterwards, over a source, a clock and a sink. What the caller had seen is a front
-- of what it has seen, and the session's history; it went there by the session's steps. It ends by a fault exactly where a
-- read or a write failed, and for want of a turn only where the caller had made all of its own.
pub record Serves (settings : Settings) (buckets : Option ℕ)
    (goes : CallerSeen → List Step → CallerSeen → Type 0) (v w : CallerSeen) (before after : Outside)
    (end : SessionEnd) : Type 0 where
  pub input : List ℕ
  pub moments : List ℕ
  pub output : List ℕ
  pub steps : List Step
  pub exchanges : Exchanges before after input moments output
  pub empty : EndsEmpty after.source
  pub learns : LearnsBy v w
  pub goes_by : goes v steps w
  pub session : Session (start_of settings buckets v w) after.source.ended input moments output steps end
  pub as_needed : ReadsAsNeeded before.source.most input session.events
  pub read_fault : ComesOfFault before.source.faults after.source.faults (IsReadFault end)
  pub write_fault : ComesOfFault before.sink.faults after.sink.faults (IsWriteFault end)
  pub turns : (n : ℕ) → end ≡ SpentTurns n → w.made ≡ MOST_TURNS
