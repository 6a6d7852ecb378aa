-- Which words a command takes, and what they say. The parser of command lines says which words a command
-- takes; what they say is read of the values that it finds.
use Rattle.std.specs.Prelude.{◌≡◌, ℕ, List, [], true, false, if◌then◌else◌, Option, Some, None}
use Rattle.std.specs.List.{list_all}
use Rattle.clap.specs.Words.{App, Row, Rule, built, new_app, new_rule, with_rule, is_simple_and_free, takes}
use Rattle.clap.specs.Words.{found_of, matches_of, rows_of}
use Rattle.clap.specs.Simple.{on_top}
use Rattle.clap.specs.Takes.{default_passes}
use Rattle.clap.specs.declared.builder.action.ArgAction.TheVariants.{Append, Set, SetTrue}
use Rattle.clap.specs.declared.parser.matches.ArgMatches.{ArgMatches}

-- an option that takes a value: `--name V` or `--name=V`, once
abbrev pub option_of : List ℕ → Rule
option_of name = record (new_rule name) { long = Some name; action = Some Set }

-- an option without a value: `--name`, once
abbrev pub flag_of : List ℕ → Rule
flag_of name = record (new_rule name) { long = Some name; action = Some SetTrue }

-- words that are no options, any number of them
abbrev pub list_of : List ℕ → Rule
list_of name = record (new_rule name) { action = Some Append }

-- a command of the words after its name, without options, help and version
abbrev pub bare_command : List ℕ → App
bare_command name = on_top (λ s. record s { no_binary_name = true; disable_help_flag = true }) (new_app name)

-- a command of which it is known what a parse finds: it has no subcommands, no argument that depends on
-- another, and defaults that their arguments take
pub record IsPlainCommand (command : App) : Type 0 where
  pub simple : is_simple_and_free command ≡ true
  pub alone : (built command).subs ≡ []
  pub defaults : list_all default_passes (built command).top.rules ≡ true

-- a parse finds the values of exactly the words that the command takes
abbrev pub IsParse : App → List (List ℕ) → Option ArgMatches → Type 0
IsParse command words None = takes command words ≡ false
IsParse command words (Some found) =
    (takes command words ≡ true) × (rows_of (found_of found) ≡ matches_of command words)

-- what words say to a command by their values; nothing where the command doesn't take them
abbrev pub said_by : {A : Type 0} → App → (List Row → Option A) → List (List ℕ) → Option A
said_by command say words = if takes command words then say (matches_of command words) else None
