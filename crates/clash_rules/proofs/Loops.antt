-- Rules read one after the other.
use Rattle.std.proofs.Common.{◌≡◌, ℕ, suc, ◌+◌, ◌<◌, Bool, true, false, ◌&&◌, List, [], ◌∷◌, ◌++◌, length, get_or, drop, Result, Ok, Err, IsErrAnd, is_some, refl, sym, ap, ◌∙◌, append-nil, append_assoc, drop-cons, add-one}
use Rattle.serde_json.specs.Find.{as_object}
use Rattle.serde_json.specs.View.{view, items_view}
use Rattle.serde_json.specs.Data.{item}
use Rattle.serde_json.specs.declared.value.Value.{Value}
use Rattle.bim_model.specs.declared.rules.Rule.{Rule}
use Rattle.clash_rules.specs.declared.rule_fault.RuleFault.{RuleFault}
use Rattle.clash_rules.specs.declared.rule_fault.RuleError.{RuleError}
use Rattle.clash_rules.specs.declared.rule_fault.RuleError.TheVariants.{Fault, Memory}
use Rattle.clash_rules.specs.Json.{rule_in, rules_from, before, behind, item_count, are_objects, IsFault}

-- these rules, and then the rest
abbrev pub front : List Rule → Result (List Rule) RuleFault → Result (List Rule) RuleFault
front rules (Err fault) = Err fault
front rules (Ok rest) = Ok (rules ++ rest)

-- no rules yet
pub front_nil : (rest : Result (List Rule) RuleFault) → front [] rest ≡ rest
front_nil (Err fault) = refl
front_nil (Ok rules) = refl

-- the values from a place on
from : (values : List Value) (i : ℕ) (d : Value) → i < length values → items_view (drop i values) ≡ item (view (get_or values i d)) (items_view (drop (i + 1) values))
from values i d h = ap items_view (drop-cons values i d h) ∙ ap (λ n. item (view (get_or values i d)) (items_view (drop n values))) (sym (add-one i))

behind_front : (rules : List Rule) (rule : Rule) (rest : Result (List Rule) RuleFault) → front rules (behind rule rest) ≡ front (rules ++ rule ∷ []) rest
behind_front rules rule (Err fault) = refl
behind_front rules rule (Ok more) = ap (λ l. Ok l) (sym (append_assoc rules (rule ∷ []) more))

-- a rule is read
pub rule_read : (values : List Value) (i : ℕ) (d : Value) (rules : List Rule) (rule : Rule) (all : Result (List Rule) RuleFault) → i < length values → rule_in i (view (get_or values i d)) ≡ Ok rule
    → front rules (rules_from i (items_view (drop i values))) ≡ all → front (rules ++ rule ∷ []) (rules_from (i + 1) (items_view (drop (i + 1) values))) ≡ all
rule_read values i d rules rule all h e so_far =
    let rest = rules_from (i + 1) (items_view (drop (i + 1) values)) in
    sym (behind_front rules rule rest) ∙ ap (λ r. front rules (before r rest)) (sym e) ∙ ap (λ l. front rules (rules_from i l)) (sym (from values i d h)) ∙ so_far

-- a rule has a fault
pub rule_faulty : (values : List Value) (i : ℕ) (d : Value) (rules : List Rule) (fault : RuleFault) (all : Result (List Rule) RuleFault) → i < length values → rule_in i (view (get_or values i d)) ≡ Err fault
    → front rules (rules_from i (items_view (drop i values))) ≡ all → all ≡ Err fault
rule_faulty values i d rules fault all h e so_far =
    let rest = rules_from (i + 1) (items_view (drop (i + 1) values)) in
    sym so_far ∙ ap (λ l. front rules (rules_from i l)) (from values i d h) ∙ ap (λ r. front rules (before r rest)) e

-- all are read
pub all_read : (values : List Value) (i : ℕ) (rules : List Rule) (all : Result (List Rule) RuleFault) → drop i values ≡ []
    → front rules (rules_from i (items_view (drop i values))) ≡ all → all ≡ Ok rules
all_read values i rules all none so_far =
    sym so_far ∙ ap (λ l. front rules (rules_from i (items_view l))) none ∙ ap (λ l. Ok l) (append-nil rules)

pub count_is : (values : List Value) → item_count (items_view values) ≡ length values
count_is [] = refl
count_is (v ∷ vs) = ap suc (count_is vs)

-- whether the values from a place on are objects
object_more : (values : List Value) (i : ℕ) (v : Value) → i < length values → v ≡ get_or values i v
    → are_objects (items_view (drop i values)) ≡ (is_some (as_object (view v)) && are_objects (items_view (drop (i + 1) values)))
object_more values i v h e =
    ap are_objects (from values i v h)
    ∙ ap (λ x. is_some (as_object (view x)) && are_objects (items_view (drop (i + 1) values))) (sym e)

-- one more is
pub object_there : (values : List Value) (i : ℕ) (v : Value) (all : Bool) → i < length values → v ≡ get_or values i v → is_some (as_object (view v)) ≡ true
    → are_objects (items_view (drop i values)) ≡ all → are_objects (items_view (drop (i + 1) values)) ≡ all
object_there values i v all h e is so_far =
    sym (object_more values i v h e ∙ ap (λ b. b && are_objects (items_view (drop (i + 1) values))) is) ∙ so_far

-- one isn't
pub object_missing : (values : List Value) (i : ℕ) (v : Value) (all : Bool) → i < length values → v ≡ get_or values i v → is_some (as_object (view v)) ≡ false
    → are_objects (items_view (drop i values)) ≡ all → false ≡ all
object_missing values i v all h e off so_far =
    sym (object_more values i v h e ∙ ap (λ b. b && are_objects (items_view (drop (i + 1) values))) off) ∙ so_far

-- the first fault is that of all
pub fault_on : (values : List Value) (i : ℕ) (d : Value) (rules : List Rule) (error : RuleError) (all : Result (List Rule) RuleFault) → i < length values → IsFault error (rule_in i (view (get_or values i d)))
    → front rules (rules_from i (items_view (drop i values))) ≡ all → IsFault error all
fault_on values i d rules (Fault fault) all h e so_far = rule_faulty values i d rules fault all h e so_far
fault_on values i d rules Memory all h e so_far = tt

-- an error that is passed on
pub residual : {A : Type 0} (r : Result A RuleError) (e : RuleError) → IsErrAnd r (λ x. x ≡ e) → r ≡ Err e
residual (Ok a) e h = absurd h
residual (Err x) e h = ap (λ (y : RuleError). Err y) h
