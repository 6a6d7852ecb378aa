-- A caller of a book that no one else calls.
use Rattle.std.specs.Prelude.{◌≡◌, ◌+◌, List, [], ◌∷◌, ◌++◌, length}
use Rattle.book_history.specs.declared.limits.Settings.{Settings}
use Rattle.book_history.specs.History.{IsBefore}
use Rattle.book_history.specs.Runs.{Step, IsRun, IsOneThread}
use Rattle.book_passes.specs.Lessons.{CallerSeen}
use Rattle.bim_session.specs.Works.{last_turn}
use Rattle.link_session.specs.Callers.{LearnsBy}
use Rattle.server_commands.specs.inner.Turns.{ServerState}

-- what is seen of such a caller: its number is 0, it has seen the whole history, and each turn is a call of its own
abbrev pub seen_alone : ServerState → CallerSeen
seen_alone s = record {
  number = 0;
  numbers = 0 ∷ [];
  seen = s.history;
  last = s.turns;
  made = s.turns;
}

-- its book has these settings, and no entry of a turn after the last
pub record IsSettled (settings : Settings) (s : ServerState) : Type 0 where
  pub settings_are : s.settings ≡ settings
  pub before : IsBefore (s.turns + 1) s.history

-- It went from v to w by these steps, a turn each. After any run with one actor by as many steps as v had taken turns,
-- which made what v had seen, they go on as such a run, which makes what w has seen.
pub record GoesAlone (settings : Settings) (v : CallerSeen) (steps : List Step)
    (w : CallerSeen) : Type 0 where
  pub learns : LearnsBy v w
  pub turns : w.last ≡ v.last + length steps
  pub last : w.last ≡ last_turn v.last steps
  pub one_thread : IsOneThread steps
  pub run : (before : List Step) → IsRun settings before v.seen → IsOneThread before → length before ≡ v.last
      → IsRun settings (before ++ steps) w.seen
