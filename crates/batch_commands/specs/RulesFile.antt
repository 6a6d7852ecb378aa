-- The rules that a file spells.
use Rattle.std.specs.Prelude.{◌≡◌, ℕ, List, if◌then◌else◌, Result, Ok, Err, ⊤}
use Rattle.std.specs.Prelude.{Option, Some, None, option_map, option_and_then, is_some}
use Rattle.std.specs.Str.{is_utf8}
use Rattle.std.specs.declared.alloc.AllocError.{AllocError}
use Rattle.serde_json.specs.Data.{Data}
use Rattle.serde_json.specs.Find.{as_object}
use Rattle.serde_json.specs.Read.{read}
use Rattle.serde_json.specs.View.{view}
use Rattle.serde_json.specs.declared.value.Value.{Value}
use Rattle.bim_model.specs.declared.rules.Rule.{Rule}
use Rattle.clash_rules.specs.Json.{rules_of}
use Rattle.clash_rules.specs.declared.rule_fault.RuleFault.{RuleFault}
use Rattle.batch_commands.specs.declared.rules_file.RulesFault.{RulesFault}
use Rattle.batch_commands.specs.declared.rules_file.RulesFault.TheVariants as fault
use Rattle.batch_commands.specs.declared.rules_file.RulesError.{RulesError}
use Rattle.batch_commands.specs.declared.rules_file.RulesError.TheVariants.{Fault, Memory}

-- the tree, where it is an object
abbrev pub if_object : Data → Option Data
if_object tree = if is_some (as_object tree) then Some tree else None

-- the object that bytes spell as JSON, as serde_json reads it
unfoldable pub object_of : List ℕ → Option Data
object_of bytes = if is_utf8 bytes then option_and_then if_object (read bytes) else None

-- a fault of a rule is one of the file
abbrev pub with_fault : Result (List Rule) RuleFault → Result (List Rule) RulesFault
with_fault (Ok rules) = Ok rules
with_fault (Err f) = Err (fault.Rule f)

-- the rules of a tree, which must be an object
abbrev pub rules_of_tree : Option Data → Result (List Rule) RulesFault
rules_of_tree None = Err fault.BadJson
rules_of_tree (Some tree) = with_fault (rules_of tree)

-- the rules that the bytes of a file spell, or what is wrong with them
abbrev pub rules_in : List ℕ → Result (List Rule) RulesFault
rules_in bytes = rules_of_tree (object_of bytes)

-- the tree is the one that is there, or memory ran out
abbrev pub IsTreeOf : Result (Option Value) AllocError → Option Data → Type 0
IsTreeOf (Ok tree) meant = option_map view tree ≡ meant
IsTreeOf (Err e) meant = ⊤

-- the rules, or their fault, are what is meant, or memory ran out
abbrev pub IsRulesRead : Result (List Rule) RulesError → Result (List Rule) RulesFault → Type 0
IsRulesRead (Ok rules) meant = meant ≡ Ok rules
IsRulesRead (Err (Fault f)) meant = meant ≡ Err f
IsRulesRead (Err Memory) meant = ⊤
