-- The words of `serve`, as the values that the parser of command lines finds say them.
use Rattle.std.specs.Prelude.{◌≤◌, ℕ, List, Option, Some, None, codes}
use Rattle.clap.specs.Words.{App, Row, first_of, with_rule}
use Rattle.command_words.specs.NumberWords.{number_word}
use Rattle.command_words.specs.CommandOptions.{bare_command, option_of, said_by}
use Rattle.server_commands.specs.declared.serve_words.TheConstants.{MOST_LANES, MOST_WORKERS, MOST_LINKS}
use Rattle.server_commands.specs.declared.serve_words.ServeCounts.{ServeCounts}
use Rattle.server_commands.specs.declared.serve_words.ServeWords.{ServeWords}
use Rattle.server_commands.specs.ReplayWords.{IsCount, projects_said}

-- `serve` has five options, in any order
unfoldable pub serve_command : App
serve_command =
    with_rule
    (with_rule
    (with_rule
    (with_rule (with_rule (bare_command (codes "serve")) (option_of (codes "addr")))
    (option_of (codes "lanes")))
    (option_of (codes "workers")))
    (option_of (codes "links")))
    (option_of (codes "projects"))

-- a number within bounds, or the other one where the option isn't there
abbrev pub number_or : (least most other : ℕ) → Option (List ℕ) → Option ℕ
number_or least most other None = Some other
number_or least most other (Some text) = number_word least most text

-- the address, 127.0.0.1:8080 where it isn't said
abbrev pub addr_said : Option (List ℕ) → List ℕ
addr_said None = codes "127.0.0.1:8080"
addr_said (Some text) = text

-- what is counted, where each number is within its bounds
abbrev pub all_counted : Option ℕ → Option ℕ → Option ℕ → Option ℕ → Option ServeCounts
all_counted (Some lanes) (Some workers) (Some links) (Some projects) =
    Some (record { lanes = lanes; workers = workers; links = links; projects = projects })
all_counted _ _ _ _ = None

-- what the values of the options of `serve` count: two lanes, one worker, no limit of connections and one project where it
-- isn't said
abbrev pub counts_said : List Row → Option ServeCounts
counts_said rows =
    all_counted (number_or 1 MOST_LANES 2 (first_of (codes "lanes") rows))
    (number_or 1 MOST_WORKERS 1 (first_of (codes "workers") rows))
    (number_or 0 MOST_LINKS 0 (first_of (codes "links") rows))
    (projects_said (first_of (codes "projects") rows))

-- an address beside what is counted
abbrev pub said_with : List ℕ → Option ServeCounts → Option ServeWords
said_with addr None = None
said_with addr (Some counts) = Some (record { addr = addr; counts = counts })

-- what the values of the options of `serve` say
abbrev pub serve_said : List Row → Option ServeWords
serve_said rows = said_with (addr_said (first_of (codes "addr") rows)) (counts_said rows)

-- what the words after `serve` say: nothing where they are outside its grammar
abbrev pub serve_words : List (List ℕ) → Option ServeWords
serve_words words = said_by serve_command serve_said words

-- what is said can be served
pub record IsServe (counts : ServeCounts) : Type 0 where
  pub some_lanes : 1 ≤ counts.lanes
  pub few_lanes : counts.lanes ≤ MOST_LANES
  pub few_workers : counts.workers ≤ MOST_WORKERS
  pub count : IsCount counts.projects
