-- What the commands do and answer.
use Rattle.std.specs.Prelude.{◌≡◌, ◌≢◌, ◌⊎◌, ◌↔◌, ℕ, List, [], ◌∷◌, if◌then◌else◌, Option, Some, None, IsSome, codes}
use Rattle.std.specs.Str.{bytes_eq}
use Rattle.bim_io.specs.StreamViews.{ClockSeen, SinkSeen, SinkTakes, Outside, outside}
use Rattle.bim_io.specs.Writes.{WritesLess}
use Rattle.bim_session.specs.declared.end.SessionEnd.{SessionEnd}
use Rattle.bim_session.specs.Replay.{stated_settings, status_of}
use Rattle.server_commands.specs.declared.replay_words.ReplayWords.{ReplayWords}
use Rattle.server_commands.specs.declared.replay_words.Time.{Time}
use Rattle.server_commands.specs.declared.replay_words.Time.TheVariants.{OfClock, At}
use Rattle.bim_files.specs.Files.{FilesSeen}
use Rattle.batch_commands.specs.CheckWords.{check_words}
use Rattle.batch_commands.specs.GenerateWords.{generate_words}
use Rattle.batch_commands.specs.BatchCommands.{Checks, Generates}
use Rattle.batch_commands.specs.PrintedOutput.{PrintsUsage, WantsMemory}
use Rattle.bim_net.specs.Hosts.{HostSeen}
use Rattle.server_commands.specs.declared.about.TheConstants.{HELP, VERSION_LINE}
use Rattle.server_commands.specs.declared.serve.Ended.{Ended}
use Rattle.server_commands.specs.ReplayWords.{replay_words}
use Rattle.server_commands.specs.WholeSessions.{ReplaysAlone}
use Rattle.server_commands.specs.ServeWords.{serve_words}
use Rattle.server_commands.specs.ServeCommand.{ServesBy, without_book}

-- nothing was read, and the clock was not asked
abbrev pub ReadsNothing : Outside → Outside → Type 0
ReadsNothing before after = (after.source ≡ before.source) × (after.clock ≡ before.clock)

-- a session over so many projects is replayed, with so much work after each answer, and its end decides the status
pub record ReplaysTo (buckets : Option ℕ) (projects : ℕ) (before after : Outside) (status : ℕ) : Type 0 where
  pub end : SessionEnd
  pub status_is : status ≡ status_of end
  pub replays : ReplaysAlone (stated_settings projects) buckets before after end

-- a session is replayed by a clock that always gives this moment; the one of the outside was not asked
pub record ReplaysAt (buckets : Option ℕ) (projects moment : ℕ) (before after : Outside)
    (status : ℕ) : Type 0 where
  pub clock : after.clock ≡ before.clock
  pub own : ClockSeen
  pub own' : ClockSeen
  pub one : own.one ≡ Some moment
  pub replays : ReplaysTo buckets projects (outside before.source before.sink own)
      (outside after.source after.sink own') status

-- a session is replayed by the clock of the outside, or by one of one moment
abbrev pub ReplaysBy : Time → Option ℕ → ℕ → Outside → Outside → ℕ → Type 0
ReplaysBy OfClock buckets projects before after status = ReplaysTo buckets projects before after status
ReplaysBy (At moment) buckets projects before after status =
    ReplaysAt buckets projects moment before after status

-- what `replay` does by what its words say: outside its grammar it prints the usage line, else it replays a session
abbrev pub DoesBy : Option ReplayWords → Outside → Outside → ℕ → Type 0
DoesBy None before after status = PrintsUsage before.sink after.sink status × ReadsNothing before after
DoesBy (Some said) before after status = ReplaysBy said.time said.buckets said.projects before after status

-- memory ran out for the words, and nothing was done
abbrev pub LacksWords : Outside → Outside → ℕ → Type 0
LacksWords before after status = WantsMemory before.sink after.sink status × ReadsNothing before after

-- what `replay` does, or memory ran out before it could
abbrev pub Does : Option ReplayWords → Outside → Outside → ℕ → Type 0
Does said before after status = DoesBy said before after status ⊎ LacksWords before after status

-- a text is written whole, status 0, or a front of it, since a write failed, status 5
abbrev pub PrintsText : List ℕ → SinkSeen → SinkSeen → ℕ → Type 0
PrintsText text old new status =
    ((status ≡ 0) × SinkTakes old new text × (new.faults ≡ old.faults))
    ⊎ ((status ≡ 5) × WritesLess old new text)

-- a command that takes no words prints its text, and the usage line where there are some
abbrev pub PrintsAlone : List (List ℕ) → List ℕ → SinkSeen → SinkSeen → ℕ → Type 0
PrintsAlone [] text old new status = PrintsText text old new status
PrintsAlone (word ∷ words) text old new status = PrintsUsage old new status

-- a command other than `serve`, with the words after its name
pub data Command : Type 0 where
  Replay : List (List ℕ) → Command
  Check : List (List ℕ) → Command
  Generate : List (List ℕ) → Command
  Version : List (List ℕ) → Command
  Help : List (List ℕ) → Command

-- the command of a name, where it is one of these
abbrev pub command_named : List ℕ → List (List ℕ) → Option Command
command_named name words =
    if bytes_eq name (codes "replay") then Some (Replay words)
    else (if bytes_eq name (codes "check") then Some (Check words)
    else (if bytes_eq name (codes "generate") then Some (Generate words)
    else (if bytes_eq name (codes "--version") then Some (Version words)
    else (if bytes_eq name (codes "--help") then Some (Help words) else None))))

-- the command other than `serve` that words ask for
abbrev pub command_of : List (List ℕ) → Option Command
command_of [] = None
command_of (name ∷ words) = command_named name words

-- what a command does: `replay` leaves the files alone, `check` the source and the clock, and the others all three. The
-- version and the help are constant texts. Without a command the usage line is printed.
abbrev pub Runs : Option Command → Outside → Outside → FilesSeen → FilesSeen → ℕ → Type 0
Runs None before after files files' status =
    PrintsUsage before.sink after.sink status × ReadsNothing before after × (files' ≡ files)
Runs (Some (Replay words)) before after files files' status =
    Does (replay_words words) before after status × (files' ≡ files)
Runs (Some (Check words)) before after files files' status =
    Checks (check_words words) files files' before.sink after.sink status × ReadsNothing before after
Runs (Some (Generate words)) before after files files' status =
    Generates (generate_words words) before.sink after.sink status × ReadsNothing before after
    × (files' ≡ files)
Runs (Some (Version words)) before after files files' status =
    PrintsAlone words VERSION_LINE.now before.sink after.sink status × ReadsNothing before after
    × (files' ≡ files)
Runs (Some (Help words)) before after files files' status =
    PrintsAlone words HELP.now before.sink after.sink status × ReadsNothing before after
    × (files' ≡ files)

-- what words ask for: to serve by the words after that name, or another command
pub data Asked : Type 0 where
  Serve : List (List ℕ) → Asked
  Other : Option Command → Asked

-- what the words of the command line ask for
abbrev pub asked_by : List (List ℕ) → Asked
asked_by [] = Other None
asked_by (name ∷ words) =
    if bytes_eq name (codes "serve") then Serve words else Other (command_named name words)

-- what `serve` writes: the usage line where its words are outside its grammar, else nothing
abbrev pub SaysUsage : SinkSeen → SinkSeen → ℕ → Type 0
SaysUsage old new status = ((status ≡ 2) × PrintsUsage old new status) ⊎ ((status ≢ 2) × (new ≡ old))

-- what the program does, and how it ends: `serve` leaves the source, the clock and the files alone, and the others the
-- host; they have no book
abbrev pub Ends : Asked → Outside → Outside → FilesSeen → FilesSeen → HostSeen → HostSeen → Ended → Type 0
Ends (Serve words) before after files files' host host' ended =
    ServesBy (serve_words words) host host' ended × SaysUsage before.sink after.sink ended.status
    × ReadsNothing before after × (files' ≡ files)
Ends (Other command) before after files files' host host' ended =
    Runs command before after files files' ended.status × (ended ≡ without_book ended.status) × (host' ≡ host)

-- a pass that had made all its turns is told exactly where `serve` ends with status 7, and by no other command
abbrev pub TellsSpent : Asked → Ended → Type 0
TellsSpent (Serve words) ended = (ended.status ≡ 7) ↔ IsSome ended.spent
TellsSpent (Other command) ended = ended.spent ≡ None
