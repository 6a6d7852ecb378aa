-- Clash rules as JSON, as the data that serde_json reads.
--
-- An object whose member `rules` is an array of objects, one for each rule. A member that is null counts as
-- absent, one of another name is passed over.
use Rattle.std.specs.Prelude.{◌≡◌, ℕ, suc, ◌+◌, ◌≤◌, ℤ, pos, int_le, unsigned_abs, ◌&&◌, List, [], ◌∷◌, length, Bool, true, cond, nat_lt, nat_le, Option, Some, None, IfSome, Result, Ok, Err, option_and_then, is_some, codes, ⊤}
use Rattle.std.specs.List.{list_all}
use Rattle.std.specs.Str.{bytes_eq}
use Rattle.serde_json.specs.Data.{Data, Items, no_items, item}
use Rattle.serde_json.specs.Find.{get, as_null, as_number, as_str, as_array, as_object, as_integer}
use Rattle.bim_model.specs.declared.limits.TheConstants.{MOST_RULES, MOST_DISTANCE, MOST_CLASS, MOST_LEVEL}
use Rattle.bim_model.specs.declared.rules.ClassTest.{ClassTest}
use Rattle.bim_model.specs.declared.rules.ClassTest.TheVariants as class
use Rattle.bim_model.specs.declared.rules.StoreyTest.{StoreyTest}
use Rattle.bim_model.specs.declared.rules.StoreyTest.TheVariants as storey
use Rattle.bim_model.specs.declared.rules.ModelTest.{ModelTest}
use Rattle.bim_model.specs.declared.rules.ModelTest.TheVariants as models
use Rattle.bim_model.specs.declared.rules.RuleKind.{RuleKind}
use Rattle.bim_model.specs.declared.rules.RuleKind.TheVariants as kind
use Rattle.bim_model.specs.declared.rules.Rule.{Rule}
use Rattle.bim_model.specs.Rules.{is_class_char}
use Rattle.clash_rules.specs.declared.rule_fault.RuleFault.{RuleFault}
use Rattle.clash_rules.specs.declared.rule_fault.RuleFault.TheVariants.{TooManyRules, BadRule, Distance}
use Rattle.clash_rules.specs.declared.rule_fault.RuleError.{RuleError}
use Rattle.clash_rules.specs.declared.rule_fault.RuleError.TheVariants.{Fault, Memory}
use Rattle.clash_rules.specs.declared.member.Word.{Word}
use Rattle.clash_rules.specs.declared.member.Word.TheVariants as word
use Rattle.clash_rules.specs.declared.member.Spelled.{Spelled}
use Rattle.clash_rules.specs.declared.member.Spelled.TheVariants.{Absent, Within, Beyond, Bad}
use Rattle.clash_rules.specs.declared.member.Tests.{Tests}

-- 1 to 64 characters of `A-Z0-9_`
abbrev pub is_class_name : List ℕ → Bool
is_class_name text = nat_lt 0 (length text) && nat_le (length text) MOST_CLASS && list_all is_class_char text

-- the classes that a text names: `*`, or one class
unfoldable pub if_class : List ℕ → Option ClassTest
if_class text =
    cond (bytes_eq text (codes "*")) (Some class.Any)
    (cond (is_class_name text) (Some (class.Named text)) None)

-- the classes that a side takes, a member that must be there
unfoldable pub class_in : List ℕ → Data → Option ClassTest
class_in name rule = option_and_then if_class (option_and_then as_str (get name rule))

-- a member that need not be there: what stands for it where it is absent, and how its text is read
abbrev pub optional : {A : Type 0} → A → (List ℕ → Option A) → Option Data → Option A
optional absent read None = Some absent
optional absent read (Some value) =
    cond (is_some (as_null value)) (Some absent) (option_and_then read (as_str value))

-- the storeys that a text names: `any`, `same` or `different`
unfoldable pub storey_named : List ℕ → Option StoreyTest
storey_named text =
    cond (bytes_eq text (codes "any")) (Some storey.Any)
    (cond (bytes_eq text (codes "same")) (Some storey.Same)
    (cond (bytes_eq text (codes "different")) (Some storey.Different) None))

-- any storeys, unless it is told
unfoldable pub storey_in : Data → Option StoreyTest
storey_in rule = optional storey.Any storey_named (get (codes "storey") rule)

-- the models that a text names: `any`, `same` or `other`
unfoldable pub models_named : List ℕ → Option ModelTest
models_named text =
    cond (bytes_eq text (codes "any")) (Some models.Any)
    (cond (bytes_eq text (codes "same")) (Some models.Same)
    (cond (bytes_eq text (codes "other")) (Some models.Other) None))

-- any models, unless it is told
unfoldable pub models_in : Data → Option ModelTest
models_in rule = optional models.Any models_named (get (codes "models") rule)

-- what a text says of the pairs that the rule fits: `clash`, `pierce` or `ignore`
unfoldable pub word_named : List ℕ → Option Word
word_named text =
    cond (bytes_eq text (codes "clash")) (Some word.Clash)
    (cond (bytes_eq text (codes "pierce")) (Some word.Pierce)
    (cond (bytes_eq text (codes "ignore")) (Some word.Ignore) None))

-- a clash rule, unless it is told
unfoldable pub word_in : Data → Option Word
word_in rule = optional word.Clash word_named (get (codes "kind") rule)

-- a level has at most 256 bytes
unfoldable pub if_level : List ℕ → Option (Option (List ℕ))
if_level text = cond (nat_le (length text) MOST_LEVEL) (Some (Some text)) None

-- no level, unless it is told
unfoldable pub level_in : Data → Option (Option (List ℕ))
level_in rule = optional None if_level (get (codes "level") rule)

-- the three members that are words
unfoldable pub tests_in : Data → Option Tests
tests_in rule =
    option_and_then (λ s.
    option_and_then (λ m.
    option_and_then (λ w. Some (record { storey = s; models = m; word = w })) (word_in rule))
    (models_in rule)) (storey_in rule)

-- what a number spells as a distance: none is bad unless it is whole
unfoldable pub if_whole : Option ℤ → Spelled
if_whole None = Bad
if_whole (Some n) =
    cond (int_le (pos 0) n && int_le n (pos MOST_DISTANCE)) (Within (unsigned_abs n)) Beyond

-- what a member spells as a distance
abbrev pub if_number : Option Data → Spelled
if_number None = Absent
if_number (Some value) =
    cond (is_some (as_null value)) Absent (if_whole (option_and_then as_integer (as_number value)))

-- what stands as the distance: it is whole where it is spelled as an integer of at most 64 bits, not as -0
unfoldable pub distance_in : Data → Spelled
distance_in rule = if_number (get (codes "distance") rule)

-- what a clash rule says: it must have a distance
abbrev pub clash_kind : ℕ → Spelled → Result RuleKind RuleFault
clash_kind index Absent = Err (BadRule index)
clash_kind index (Within distance) = Ok (kind.Clash distance)
clash_kind index Beyond = Err (Distance index)
clash_kind index Bad = Err (BadRule index)

-- what a rule that asks for piercing says: it must not have a distance, whatever it is
abbrev pub pierce_kind : ℕ → Spelled → Result RuleKind RuleFault
pierce_kind index Absent = Ok kind.Pierce
pierce_kind index (Within distance) = Err (BadRule index)
pierce_kind index Beyond = Err (BadRule index)
pierce_kind index Bad = Err (BadRule index)

-- what a rule that ignores says: it may have a distance, which is looked at all the same
abbrev pub ignore_kind : ℕ → Spelled → Result RuleKind RuleFault
ignore_kind index Absent = Ok kind.Ignore
ignore_kind index (Within distance) = Ok kind.Ignore
ignore_kind index Beyond = Err (Distance index)
ignore_kind index Bad = Err (BadRule index)

-- what a rule says, by its word and its distance
abbrev pub kind_of : ℕ → Word → Spelled → Result RuleKind RuleFault
kind_of index word.Clash distance = clash_kind index distance
kind_of index word.Pierce distance = pierce_kind index distance
kind_of index word.Ignore distance = ignore_kind index distance

-- the rule of good members and a kind, or the kind's fault
abbrev pub with_kind :
    ClassTest → ClassTest → Option (List ℕ) → Tests → Result RuleKind RuleFault → Result Rule RuleFault
with_kind a b level tests (Err fault) = Err fault
with_kind a b level tests (Ok k) =
    Ok (record { a = a; b = b; storey = tests.storey; level = level; models = tests.models; kind = k })

-- the rule of its members: where one is bad it is a bad rule, and otherwise the distance may be out of bounds
unfoldable pub joined :
    ℕ → Option ClassTest → Option ClassTest → Option (Option (List ℕ)) → Option Tests → Spelled
    → Result Rule RuleFault
joined index None b level tests distance = Err (BadRule index)
joined index (Some a) None level tests distance = Err (BadRule index)
joined index (Some a) (Some b) None tests distance = Err (BadRule index)
joined index (Some a) (Some b) (Some level) None distance = Err (BadRule index)
joined index (Some a) (Some b) (Some level) (Some tests) distance =
    with_kind a b level tests (kind_of index tests.word distance)

-- the rule of that number, or what is wrong with it
unfoldable pub rule_in : ℕ → Data → Result Rule RuleFault
rule_in index rule =
    joined index (class_in (codes "a") rule) (class_in (codes "b") rule) (level_in rule) (tests_in rule)
    (distance_in rule)

-- a rule and those after it, or their fault
abbrev pub behind : Rule → Result (List Rule) RuleFault → Result (List Rule) RuleFault
behind rule (Err fault) = Err fault
behind rule (Ok rules) = Ok (rule ∷ rules)

-- a rule, or its fault, and then the rest
abbrev pub before : Result Rule RuleFault → Result (List Rule) RuleFault → Result (List Rule) RuleFault
before (Err fault) rest = Err fault
before (Ok rule) rest = behind rule rest

-- the rules from that number on, or what is wrong with the first of them that has a fault
abbrev pub rules_from : ℕ → Items → Result (List Rule) RuleFault
rules_from index no_items = Ok []
rules_from index (item rule rest) = before (rule_in index rule) (rules_from (index + 1) rest)

-- how many items an array has
abbrev pub item_count : Items → ℕ
item_count no_items = 0
item_count (item d ds) = suc (item_count ds)

-- each item is an object
abbrev pub are_objects : Items → Bool
are_objects no_items = true
are_objects (item d ds) = is_some (as_object d) && are_objects ds

-- an array of rules: first its length, then whether it has objects alone, then the first rule that has a
-- fault
unfoldable pub rules_of_items : Items → Result (List Rule) RuleFault
rules_of_items items =
    cond (nat_lt MOST_RULES (item_count items)) (Err (TooManyRules (item_count items)))
    (cond (are_objects items) (rules_from 0 items) (Err (BadRule 0)))

-- the rules of an array, which must be there
abbrev pub if_items : Option Items → Result (List Rule) RuleFault
if_items None = Err (BadRule 0)
if_items (Some items) = rules_of_items items

-- the rules that a tree spells, or its fault
unfoldable pub rules_of : Data → Result (List Rule) RuleFault
rules_of tree = if_items (option_and_then as_array (get (codes "rules") tree))

-- the error is the fault that is meant, or out of memory
abbrev pub IsFault : {A : Type 0} → RuleError → Result A RuleFault → Type 0
IsFault (Fault fault) meant = meant ≡ Err fault
IsFault Memory meant = ⊤

-- the answer is what is meant, or out of memory
abbrev pub IsReadAs : {A : Type 0} → Result A RuleError → Result A RuleFault → Type 0
IsReadAs (Ok read) meant = meant ≡ Ok read
IsReadAs (Err error) meant = IsFault error meant

-- a level that is kept has at most 256 bytes
abbrev pub IsLevel : Option (List ℕ) → Type 0
IsLevel level = IfSome level (λ text. length text ≤ MOST_LEVEL)
