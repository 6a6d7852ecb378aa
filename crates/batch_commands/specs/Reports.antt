-- What is printed of a check, each line with its line feed.
use Rattle.std.specs.Prelude.{ℕ, List, ◌++◌, length, codes}
use Rattle.std.specs.List.{flat_map}
use Rattle.std.specs.Fmt.{decimal}
use Rattle.bim_model.specs.Keys.{Subject}
use Rattle.bim_model.specs.Snapshots.{Version}
use Rattle.bucket_check.specs.declared.pair.SetPair.{SetPair}
use Rattle.bucket_check.specs.Clashes.{clashes}
use Rattle.clash_publish.specs.Listed.{element_of}
use Rattle.batch_commands.specs.declared.refusal.Refusal.{Refusal}
use Rattle.batch_commands.specs.declared.refusal.Refusal.TheVariants.{Rules, Model, Version as TooLarge}
use Rattle.batch_commands.specs.FaultMessages.{rules_words, upload_words, version_words}

-- an element, the name of its model and its identifier, before other words
abbrev pub key_before : Subject → List ℕ → List ℕ
key_before s words = s.name ++ (codes " " ++ (s.element.guid.chars ++ (codes " " ++ words)))

-- two elements that clash, and the number of the rule
abbrev pub clash_line : Version → SetPair → List ℕ
clash_line version p =
    key_before (element_of version p.a)
    (key_before (element_of version p.b) (decimal p.rule ++ codes "\n"))

-- the lines of clashes
abbrev pub clash_lines : Version → List SetPair → List ℕ
clash_lines version pairs = flat_map (clash_line version) pairs

-- how many clashes there are
abbrev pub count_line : Version → List ℕ
count_line version = codes "clashes " ++ (decimal (length (clashes version)) ++ codes "\n")

-- the clashes of a version, and their number
abbrev pub found_bytes : Version → List ℕ
found_bytes version = clash_lines version (clashes version) ++ count_line version

-- a refusal: what is refused, and why
abbrev pub refusal_line : Refusal → List ℕ
refusal_line (Rules fault) = codes "rules: " ++ (rules_words fault ++ codes "\n")
refusal_line (Model name fault) = name ++ (codes ": " ++ (upload_words fault ++ codes "\n"))
refusal_line (TooLarge fault) = codes "version: " ++ (version_words fault ++ codes "\n")
