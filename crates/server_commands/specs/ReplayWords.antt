-- The words of the command line. The parser of command lines says which words a command takes; what they say is read of the
-- values that it finds.
use Rattle.std.specs.Prelude.{◌≤◌, ℕ, List, Option, Some, None, option_map, codes}
use Rattle.clap.specs.Words.{App, Row, first_of, with_rule}
use Rattle.command_words.specs.NumberWords.{number_word}
use Rattle.command_words.specs.CommandOptions.{bare_command, option_of, said_by}
use Rattle.bim_model.specs.Moments.{last_moment, IsMoment}
use Rattle.book_history.specs.declared.limits.TheConstants.{MOST_PROJECTS}
use Rattle.server_commands.specs.declared.replay_words.TheConstants.{MOST_BUCKETS}
use Rattle.server_commands.specs.declared.replay_words.ReplayWords.{ReplayWords}
use Rattle.server_commands.specs.declared.replay_words.Time.{Time}
use Rattle.server_commands.specs.declared.replay_words.Time.TheVariants.{OfClock, At}

-- `replay` has three options, in any order
unfoldable pub replay_command : App
replay_command =
    with_rule
    (with_rule (with_rule (bare_command (codes "replay")) (option_of (codes "at")))
    (option_of (codes "buckets")))
    (option_of (codes "projects"))

-- a moment stands in place of the clock
abbrev pub time_said : Option (List ℕ) → Option Time
time_said None = Some OfClock
time_said (Some text) = option_map At (number_word 0 last_moment text)

-- how many projects there are, one where it isn't said
abbrev pub projects_said : Option (List ℕ) → Option ℕ
projects_said None = Some 1
projects_said (Some text) = number_word 1 MOST_PROJECTS text

-- how many buckets are worked after each answered request, all where it isn't said
abbrev pub buckets_said : Option (List ℕ) → Option (Option ℕ)
buckets_said None = Some None
buckets_said (Some text) = option_map Some (number_word 0 MOST_BUCKETS text)

-- what the words of a replay say together, where each says something
abbrev pub all_said : Option Time → Option (Option ℕ) → Option ℕ → Option ReplayWords
all_said (Some time) (Some buckets) (Some projects) =
    Some (record { time = time; buckets = buckets; projects = projects })
all_said _ _ _ = None

-- what the values of the options of `replay` say
abbrev pub replay_said : List Row → Option ReplayWords
replay_said rows =
    all_said (time_said (first_of (codes "at") rows)) (buckets_said (first_of (codes "buckets") rows))
    (projects_said (first_of (codes "projects") rows))

-- what the words after `replay` say: nothing where they are outside its grammar
abbrev pub replay_words : List (List ℕ) → Option ReplayWords
replay_words words = said_by replay_command replay_said words

-- a moment that stands in place of the clock is one that a clock may give
abbrev pub IsTime : Time → Type 0
IsTime OfClock = Unit {0}
IsTime (At moment) = IsMoment moment

-- a book may have so many projects
pub record IsCount (projects : ℕ) : Type 0 where
  pub some : 1 ≤ projects
  pub few : projects ≤ MOST_PROJECTS

-- what is said can be replayed
pub record IsReplay (said : ReplayWords) : Type 0 where
  pub time : IsTime said.time
  pub count : IsCount said.projects
