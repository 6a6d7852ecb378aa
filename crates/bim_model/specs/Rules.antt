-- Clash rules: which rule decides a pair of elements.
use Rattle.std.specs.Prelude.{ℕ, ◌+◌, ◌<◌, ◌≤◌, ◌==◌, Bool, true, false, not, ◌&&◌, ◌||◌, cond, IsTrue, max, List, [], ◌∷◌, length, All, Option, Some, None, IfSome}
use Rattle.std.specs.List.{list_all}
use Rattle.std.specs.Char.{is_ascii_uppercase, is_ascii_digit}
use Rattle.std.specs.Str.{bytes_eq}
use Rattle.bim_model.specs.declared.element.Element.{Element}
use Rattle.bim_model.specs.declared.limits.TheConstants.{MOST_RULES, MOST_DISTANCE, MOST_CLASS, MOST_LEVEL}
use Rattle.bim_model.specs.declared.rules.ClassTest.{ClassTest}
use Rattle.bim_model.specs.declared.rules.ClassTest.TheVariants as class
use Rattle.bim_model.specs.declared.rules.StoreyTest.{StoreyTest}
use Rattle.bim_model.specs.declared.rules.StoreyTest.TheVariants as storey
use Rattle.bim_model.specs.declared.rules.ModelTest.{ModelTest}
use Rattle.bim_model.specs.declared.rules.ModelTest.TheVariants as models
use Rattle.bim_model.specs.declared.rules.RuleKind.{RuleKind}
use Rattle.bim_model.specs.declared.rules.RuleKind.TheVariants.{Clash, Pierce, Ignore}
use Rattle.bim_model.specs.declared.rules.Rule.{Rule}
use Rattle.bim_model.specs.declared.rules.Found.{Found}
use Rattle.bim_model.specs.declared.rules.Meeting.TheVariants.{Within, Through}

-- any class passes, or the one that is named
abbrev pub passes_class : ClassTest → List ℕ → Bool
passes_class class.Any text = true
passes_class (class.Named name) text = bytes_eq name text

-- one of two classes passes one side of a rule and the other the other, in either order
abbrev pub passes_classes : Rule → List ℕ → List ℕ → Bool
passes_classes rule a b =
    (passes_class rule.a a && passes_class rule.b b) || (passes_class rule.a b && passes_class rule.b a)

-- two storeys that are there and have one name
abbrev pub same_storey : Option (List ℕ) → Option (List ℕ) → Bool
same_storey (Some a) (Some b) = bytes_eq a b
same_storey (Some a) None = false
same_storey None b = false

-- two storeys that are there and have two names
abbrev pub other_storey : Option (List ℕ) → Option (List ℕ) → Bool
other_storey (Some a) (Some b) = not (bytes_eq a b)
other_storey (Some a) None = false
other_storey None b = false

-- what a rule asks of the two storeys
abbrev pub passes_storeys : StoreyTest → Option (List ℕ) → Option (List ℕ) → Bool
passes_storeys storey.Any a b = true
passes_storeys storey.Same a b = same_storey a b
passes_storeys storey.Different a b = other_storey a b

-- a storey that is there and has this name
abbrev pub is_at : List ℕ → Option (List ℕ) → Bool
is_at level (Some name) = bytes_eq name level
is_at level None = false

-- where a rule names a level, both storeys have that name
abbrev pub passes_level : Option (List ℕ) → Option (List ℕ) → Option (List ℕ) → Bool
passes_level None a b = true
passes_level (Some level) a b = is_at level a && is_at level b

-- what a rule asks of the two models, which are the same or not
abbrev pub passes_models : ModelTest → Bool → Bool
passes_models models.Any same = true
passes_models models.Same same = same
passes_models models.Other same = not same

-- the rule is about these two elements, whose models are the same or not
abbrev pub fits : Rule → Element → Element → Bool → Bool
fits rule a b same =
    passes_classes rule a.class b.class && passes_storeys rule.storey a.storey b.storey
    && passes_level rule.level a.storey b.storey && passes_models rule.models same

-- what the rule of that number decides
abbrev pub decided : RuleKind → ℕ → Option Found
decided (Clash distance) number =
    Some (record { rule = number; meeting = Within; distance = distance })
decided Pierce number = Some (record { rule = number; meeting = Through; distance = 0 })
decided Ignore number = None

-- the first rule that fits decides; the first of the list has the number n
abbrev pub rule_from : ℕ → List Rule → Element → Element → Bool → Option Found
rule_from n [] a b same = None
rule_from n (rule ∷ rules) a b same =
    cond (fits rule a b same) (decided rule.kind n) (rule_from (n + 1) rules a b same)

-- the rule of two elements: the first that fits, unless it says that they never clash; rules count from 0
abbrev pub rule_of : List Rule → Element → Element → Bool → Option Found
rule_of rules a b same = rule_from 0 rules a b same

-- the distance of a rule in millimetres, 0 of one that has none
abbrev pub distance_of : RuleKind → ℕ
distance_of (Clash distance) = distance
distance_of Pierce = 0
distance_of Ignore = 0

-- the distance of a rule in millimetres, if it has one
abbrev pub distance_if : RuleKind → Option ℕ
distance_if (Clash distance) = Some distance
distance_if Pierce = None
distance_if Ignore = None

-- the greatest distance of the rules, 0 where there is none
abbrev pub greatest_distance : List Rule → ℕ
greatest_distance [] = 0
greatest_distance (rule ∷ rules) = max (distance_of rule.kind) (greatest_distance rules)

-- a capital letter, a digit or an underscore (95)
abbrev pub is_class_char : ℕ → Bool
is_class_char byte = is_ascii_uppercase byte || is_ascii_digit byte || byte == 95

-- a class that a rule may name
pub record IsClassName (name : List ℕ) : Type 0 where
  pub some : 0 < length name
  pub few : length name ≤ MOST_CLASS
  pub chars : IsTrue (list_all is_class_char name)

-- a side of a rule within its bounds
abbrev pub IsClassTest : ClassTest → Type 0
IsClassTest class.Any = Unit {0}
IsClassTest (class.Named name) = IsClassName name

-- a rule within its bounds
pub record IsRule (rule : Rule) : Type 0 where
  pub a : IsClassTest rule.a
  pub b : IsClassTest rule.b
  pub level : IfSome rule.level (λ level. length level ≤ MOST_LEVEL)
  pub near : distance_of rule.kind ≤ MOST_DISTANCE

-- the rules of a project: at most 200, each within its bounds
pub record IsRules (rules : List Rule) : Type 0 where
  pub few : length rules ≤ MOST_RULES
  pub each : All IsRule rules
