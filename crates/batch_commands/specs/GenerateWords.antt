-- What the words of `generate` say.
use Rattle.std.specs.Prelude.{ℕ, ◌-◌, ◌^◌, Bool, false, List, Option, Some, None, codes}
use Rattle.std.specs.Str.{bytes_eq}
use Rattle.clap.specs.Words.{App, Row, with_rule, first_of}
use Rattle.command_words.specs.NumberWords.{number_word}
use Rattle.command_words.specs.CommandOptions.{bare_command, option_of, flag_of, said_by}
use Rattle.model_generator.specs.declared.pieces.TheConstants.{MOST_GENERATED}
use Rattle.batch_commands.specs.declared.generate_words.GenerateWords.{GenerateWords}

-- how many elements there are, which must be said
abbrev pub count_said : Option (List ℕ) → Option ℕ
count_said None = None
count_said (Some text) = number_word 1 MOST_GENERATED text

-- the number that they are drawn from, 1 where it isn't said
abbrev pub number_said : Option (List ℕ) → Option ℕ
number_said None = Some 1
number_said (Some text) = number_word 0 (2 ^ 64 - 1) text

-- an option without a value stands where its value is `true`
abbrev pub file_said : Option (List ℕ) → Bool
file_said None = false
file_said (Some text) = bytes_eq text (codes "true")

-- what the values say together, where the two numbers are said
abbrev pub both_said : Option ℕ → Option ℕ → Bool → Option GenerateWords
both_said (Some count) (Some number) file = Some (record { count = count; number = number; file = file })
both_said _ _ file = None

-- what the values of the options say
abbrev pub generate_said : List Row → Option GenerateWords
generate_said rows =
    both_said (count_said (first_of (codes "count") rows)) (number_said (first_of (codes "number") rows))
    (file_said (first_of (codes "file") rows))

-- `generate` has three options, in any order
unfoldable pub generate_command : App
generate_command =
    with_rule (with_rule (with_rule (bare_command (codes "generate")) (option_of (codes "count")))
    (option_of (codes "number"))) (flag_of (codes "file"))

-- what the words after `generate` say: nothing where they are outside its grammar
abbrev pub generate_words : List (List ℕ) → Option GenerateWords
generate_words words = said_by generate_command generate_said words
