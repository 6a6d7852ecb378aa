-- What the words of `check` say.
use Rattle.std.specs.Prelude.{ℕ, ◌==◌, nat_lt, nat_le, List, [], ◌∷◌, length, map, codes}
use Rattle.std.specs.Prelude.{Bool, true, not, ◌&&◌, if◌then◌else◌}
use Rattle.std.specs.Prelude.{Option, Some, None, option_map, option_and_then}
use Rattle.std.specs.List.{list_any, before_first, after_first, position_or_len}
use Rattle.std.specs.Str.{bytes_eq}
use Rattle.clap.specs.Words.{App, Row, with_rule, first_of, all_of}
use Rattle.bim_model.specs.Names.{is_model_name}
use Rattle.bim_model.specs.declared.upload.Mode.{Mode}
use Rattle.bim_model.specs.declared.upload.Mode.TheVariants.{Exact, Snap}
use Rattle.command_words.specs.CommandOptions.{bare_command, option_of, list_of, said_by}
use Rattle.batch_commands.specs.declared.check_words.TheConstants.{MOST_MODELS}
use Rattle.batch_commands.specs.declared.check_words.ModelWord.{ModelWord}
use Rattle.batch_commands.specs.declared.check_words.CheckWords.{CheckWords}

-- `=`
abbrev pub is_equals : ℕ → Bool
is_equals byte = byte == 61

-- what a word says, of which this stands before its first `=` and that after it
abbrev pub word_of : List ℕ → List ℕ → Option ModelWord
word_of name file = if is_model_name name then Some (record { name = name; file = file }) else None

-- the name and the file that a word says: what stands before and after its first `=`
abbrev pub model_word : List ℕ → Option ModelWord
model_word text =
    if nat_lt (position_or_len is_equals text) (length text)
    then word_of (before_first is_equals text) (after_first is_equals text) else None

-- what all of them have, where each has something
abbrev pub all_some : {A : Type 0} → List (Option A) → Option (List A)
all_some [] = Some []
all_some (None ∷ rest) = None
all_some (Some x ∷ rest) = option_map (λ xs. x ∷ xs) (all_some rest)

-- no name stands twice
abbrev pub names_differ : List ModelWord → Bool
names_differ [] = true
names_differ (word ∷ words) =
    not (list_any (λ (w : ModelWord). bytes_eq w.name word.name) words) && names_differ words

-- the models, where their names differ
abbrev pub if_differ : List ModelWord → Option (List ModelWord)
if_differ words = if names_differ words then Some words else None

-- the models that words name, each with its file, by different names
abbrev pub model_words : List (List ℕ) → Option (List ModelWord)
model_words texts = option_and_then if_differ (all_some (map model_word texts))

-- there is at least one, and there are at most 64
abbrev pub if_models : Option (List (List ℕ)) → Option (List ModelWord)
if_models None = None
if_models (Some texts) =
    if nat_lt 0 (length texts) && nat_le (length texts) MOST_MODELS then model_words texts else None

-- lengths are exact where it isn't said
abbrev pub mode_said : Option (List ℕ) → Option Mode
mode_said None = Some Exact
mode_said (Some text) =
    if bytes_eq text (codes "exact") then Some Exact
    else (if bytes_eq text (codes "snap") then Some Snap else None)

-- what the values say together, where each says something
abbrev pub all_said : Option (List ℕ) → Option Mode → Option (List ModelWord) → Option CheckWords
all_said (Some rules) (Some mode) (Some models) =
    Some (record { rules = rules; mode = mode; models = models })
all_said _ _ _ = None

-- what the values of the options and the other words say
abbrev pub check_said : List Row → Option CheckWords
check_said rows =
    all_said (first_of (codes "rules") rows) (mode_said (first_of (codes "grid") rows))
    (if_models (all_of (codes "models") rows))

-- `check` has two options, in any order, and other words
unfoldable pub check_command : App
check_command =
    with_rule (with_rule (with_rule (bare_command (codes "check")) (option_of (codes "rules")))
    (option_of (codes "grid"))) (list_of (codes "models"))

-- what the words after `check` say: nothing where they are outside its grammar
abbrev pub check_words : List (List ℕ) → Option CheckWords
check_words words = said_by check_command check_said words
