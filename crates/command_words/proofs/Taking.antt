-- A plain command takes the words in which it has no fault to find: of each step, one that finds no fault passes.
use Rattle.std.proofs.Common.{◌≡◌, ◌⊎◌, ◌∙◌, ◌&&◌, ◌||◌, ◌+◌, ◌==◌, ℕ, zero, suc, Bool, true, false, not, List, [], ◌∷◌, length, drop, min, Option, Some, None, is_some, nat_le, nat_lt, if◌then◌else◌, codes, inl, inr, refl, sym, arith}
use Rattle.std.specs.Prelude.{encode_utf8, slice_get}
use Rattle.std.specs.List.{list_all, list_any}
use Rattle.std.specs.Option.{option_map_or}
use Rattle.std.specs.Str.{bytes_eq, chars}
use Rattle.std.specs.Cmp.Derive.{both_true}
use Rattle.std.proofs.lemmas.Bool.{and_parts}
use Rattle.std.proofs.lemmas.Bool.Decides.{nat_tests}
use Rattle.clap.specs.Lexer.{long_of, short_of}
use Rattle.clap.specs.Matches.{count_text}
use Rattle.clap.specs.Facts.{explicit_source, parser_of_value, unwrap_or_range}
use Rattle.clap.specs.ValueTests.{accepts}
use Rattle.clap.specs.Values.{refused_kind}
use Rattle.clap.specs.Kinds.{Kinds, check_kinds, or_else, range_kinds, value_kinds}
use Rattle.clap.specs.Walk.{Held, Names, Row, Rule, Step, Text, Waiting, Walk, action_of, arg_by_id, arg_by_index, arg_by_long, arg_by_short, attached_value, count_of, finished, has_row, is_pending, most_values, next, nothing_held, reacted, settled, subcommand, subcommand_met, takes_several, takes_values, trailing, value, values_or_missing, walk, walk_from, walked, word_met}
use Rattle.clap.specs.Simple.{App, Shape, argument_words, built, is_simple}
use Rattle.clap.specs.Takes.{action_passes, bundle_passes, bundle_step_passes, count_passes, default_passes, flag_word_passes, flags_pass, is_given, is_valid, level_passes, long_passes, option_passes, other_passes, positional_passes, react_passes, set_passes, settle_passes, short_passes, step_passes, takes, turn_passes, use_passes, value_passes, values_pass, walk_passes, word_passes}
use Rattle.clap.specs.Faults.{action_fault, bundle_fault, bundle_step_fault, check_fault, count_fault, defaults_fault, fault_of, flag_word_fault, flags_fault, has_free_rules, is_free_app, is_simple_and_free, level_fault, long_fault, option_fault, other_fault, positional_fault, react_fault, repeat_fault, set_fault, settle_fault, short_fault, step_fault, stray_fault, turn_fault, use_fault, values_fault, walk_fault, word_fault}
use Rattle.clap.specs.declared.error.kind.ErrorKind.{ErrorKind}
use Rattle.clap.specs.declared.error.kind.ErrorKind.TheVariants as kind
use Rattle.clap.specs.declared.builder.action.ArgAction.{ArgAction}
use Rattle.clap.specs.declared.builder.action.ArgAction.TheVariants as action
use Rattle.clap.proofs.TakesLemmas.{leaf_takes}
use Rattle.clap.proofs.FaultLemmas.{leaf_fault}

-- ---- tests beside the lists of faults that they rule out

or_case : (b p : Bool) (f : Kinds) → (f ≡ [] → p ≡ true) → (if b then [] else f) ≡ [] → (b || p) ≡ true
or_case true p f then_p none = refl
or_case false p f then_p none = then_p none

and_case : (p q : Bool) (f g : Kinds) → (f ≡ [] → p ≡ true) → (g ≡ [] → q ≡ true) → or_else f g ≡ [] → (p && q) ≡ true
and_case p q [] g then_p then_q none = both_true (then_p refl) (then_q none)
and_case p q (k ∷ ks) g then_p then_q none = cc

or_parts : (f g : Kinds) → or_else f g ≡ [] → (f ≡ []) × (g ≡ [])
or_parts [] g none = (refl, none)
or_parts (k ∷ ks) g none = cc

if_case : (b p q : Bool) (f g : Kinds) → (f ≡ [] → p ≡ true) → (g ≡ [] → q ≡ true) → (if b then f else g) ≡ [] → (if b then p else q) ≡ true
if_case true p q f g then_p then_q none = then_p none
if_case false p q f g then_p then_q none = then_q none

not_case : (b p : Bool) (k : ErrorKind) (f : Kinds) → (f ≡ [] → p ≡ true) → (if b then k ∷ [] else f) ≡ [] → (not b && p) ≡ true
not_case true p k f then_p none = cc
not_case false p k f then_p none = then_p none

test_case : (b : Bool) (k : ErrorKind) → (if b then [] else k ∷ []) ≡ [] → b ≡ true
test_case true k none = refl
test_case false k none = cc

unless_case : (b c : Bool) (k : ErrorKind) (ks : Kinds) → (if b && not c then k ∷ ks else []) ≡ [] → (not b || c) ≡ true
unless_case true true k ks none = refl
unless_case true false k ks none = cc
unless_case false c k ks none = refl

option_case : {X : Type 0} (o : Option X) (p : X → Bool) (f : X → Kinds) (d : Bool) (e : Kinds) → ((x : X) → f x ≡ [] → p x ≡ true) → (e ≡ [] → d ≡ true)
    → option_map_or f o e ≡ [] → option_map_or p o d ≡ true
option_case None p f d e then_p then_d none = then_d none
option_case (Some x) p f d e then_p then_d none = then_p x none

-- ---- one use of an argument

value_ok : (a : Rule) (v : Text) → value_kinds a.ignore_case (parser_of_value a.parser) v ≡ [] → value_passes a v ≡ true
value_ok a v none = test_case (accepts a.ignore_case (parser_of_value a.parser) v) (refused_kind (parser_of_value a.parser)) none

values_ok : (a : Rule) (vs : List Text) → values_fault a vs ≡ [] → values_pass a vs ≡ true
values_ok a [] none = refl
values_ok a (v ∷ vs) none =
    and_case (value_passes a v) (values_pass a vs) (value_kinds a.ignore_case (parser_of_value a.parser) v) (values_fault a vs) (value_ok a v) (values_ok a vs) none

count_ok : (a : Rule) (vs : List Text) (rows : List Row) → count_fault a vs rows ≡ [] → count_passes a vs rows ≡ true
count_ok a [] rows none = value_ok a (count_text (min (count_of a.id rows + 1) 255)) none
count_ok a (v ∷ vs) rows none = values_ok a (v ∷ vs) none

set_ok : (again : Bool) (a : Rule) (vs : List Text) (rows : List Row) → set_fault again a vs rows ≡ [] → set_passes again a vs rows ≡ true
set_ok again a vs rows none =
    and_case (not (has_row a.id rows) || again) (values_pass a vs) (repeat_fault again a.id rows) (values_fault a vs)
    (unless_case (has_row a.id rows) again kind.ArgumentConflict []) (values_ok a vs) none

action_ok : (x : ArgAction) (again : Bool) (a : Rule) (vs : List Text) (rows : List Row) → action_fault x again a vs rows ≡ [] → action_passes x again a vs rows ≡ true
action_ok action.Set again a vs rows none = set_ok again a vs rows none
action_ok action.Append again a vs rows none = values_ok a vs none
action_ok action.SetTrue again a vs rows none = set_ok again a vs rows none
action_ok action.SetFalse again a vs rows none = set_ok again a vs rows none
action_ok action.Count again a vs rows none = count_ok a vs rows none
action_ok action.Help again a vs rows none = cc
action_ok action.HelpShort again a vs rows none = cc
action_ok action.HelpLong again a vs rows none = cc
action_ok action.Version again a vs rows none = cc

range_tests : (none_given same exact below above : Bool)
    → (if none_given then kind.InvalidValue ∷ []
    else (if same then (if exact then [] else kind.WrongNumberOfValues ∷ [])
    else (if below then kind.TooFewValues ∷ [] else (if above then kind.TooManyValues ∷ [] else [])))) ≡ []
    → ((same ≡ true) × (exact ≡ true)) ⊎ ((below ≡ false) × (above ≡ false))
range_tests true same exact below above none = cc
range_tests false true true below above none = inl (refl, refl)
range_tests false true false below above none = cc
range_tests false false exact true above none = cc
range_tests false false exact false true none = cc
range_tests false false exact false false none = inr (refl, refl)

range_ok : (least most n : ℕ) → range_kinds least most n ≡ [] → (nat_le least n ≡ true) × (nat_le n most ≡ true)
range_ok least most n none =
    elim (range_tests (nat_lt 0 least && n == 0) (least == most) (least == n) (nat_lt n least) (nat_lt most n) none) [
      | inl same ↦ exactly same.0 same.1
      | inr within ↦ between within.0 within.1
    ]
  where
    exactly : (least == most) ≡ true → (least == n) ≡ true → (nat_le least n ≡ true) × (nat_le n most ≡ true)
    exactly most_is n_is = (grind (arith, nat_tests, most_is, n_is), grind (arith, nat_tests, most_is, n_is))

    between : nat_lt n least ≡ false → nat_lt most n ≡ false → (nat_le least n ≡ true) × (nat_le n most ≡ true)
    between low high = (grind (arith, nat_tests, low), grind (arith, nat_tests, high))

use_ok : (again : Bool) (a : Rule) (vs : List Text) (rows : List Row) → use_fault again a vs rows ≡ [] → use_passes again a vs rows ≡ true
use_ok again a vs rows none =
    let parts = or_parts (range_kinds (unwrap_or_range a.range).start_inclusive (most_values a) (length vs))
    (action_fault (action_of a) again a (values_or_missing a vs) rows) none in
    let range = range_ok (unwrap_or_range a.range).start_inclusive (most_values a) (length vs) parts.0 in
    both_true range.0 (both_true range.1 (action_ok (action_of a) again a (values_or_missing a vs) rows parts.1))

-- ---- the walk

settle_ok : (c : List Rule) (again : Bool) (h : Held) → settle_fault c again h ≡ [] → settle_passes c again h ≡ true
settle_ok c again h none =
    option_case h.pending (λ p. option_map_or (λ a. use_passes again a p.1 h.rows) (arg_by_id c p.0) true)
    (λ p. option_map_or (λ a. use_fault again a p.1 h.rows) (arg_by_id c p.0) []) true []
    (λ p e. option_case (arg_by_id c p.0) (λ a. use_passes again a p.1 h.rows) (λ a. use_fault again a p.1 h.rows) true []
    (λ a f. use_ok again a p.1 h.rows f) (λ f. refl) e) (λ e. refl) none

react_ok : (c : List Rule) (again : Bool) (a : Rule) (vs : List Text) (h : Held) → react_fault c again a vs h ≡ [] → react_passes c again a vs h ≡ true
react_ok c again a vs h none =
    and_case (settle_passes c again h) (use_passes again a vs (settled c h).rows) (settle_fault c again h) (use_fault again a vs (settled c h).rows)
    (settle_ok c again h) (use_ok again a vs (settled c h).rows) none

option_ok : (c : List Rule) (again : Bool) (a : Rule) (v : Option Text) (h : Held) → option_fault c again a v h ≡ [] → option_passes c again a v h ≡ true
option_ok c again a (Some v) h none = react_ok c again a (v ∷ []) h none
option_ok c again a None h none = settle_ok c again h none

long_ok : (c : List Rule) (again : Bool) (o : Option Rule) (v : Option Text) (h : Held) → long_fault c again o v h ≡ [] → long_passes c again o v h ≡ true
long_ok c again None v h none = cc
long_ok c again (Some a) v h none =
    if_case (takes_values a) (option_passes c again a v h) (not (is_some v) && react_passes c again a [] h) (option_fault c again a v h)
    (if is_some v then kind.TooManyValues ∷ [] else react_fault c again a [] h) (option_ok c again a v h)
    (not_case (is_some v) (react_passes c again a [] h) kind.TooManyValues (react_fault c again a [] h) (react_ok c again a [] h)) none

short_ok : (c : List Rule) (again : Bool) (o : Option Rule) (rest : Text) (h : Held) (f : Held → Kinds) (p : Held → Bool)
    → ((g : Held) → f g ≡ [] → p g ≡ true) → short_fault c again o rest h f ≡ [] → short_passes c again o rest h p ≡ true
short_ok c again None rest h f p then_p none = cc
short_ok c again (Some a) rest h f p then_p none =
    if_case (takes_values a) (option_passes c again a (attached_value rest) h) (react_passes c again a [] h && p (reacted c a [] h))
    (option_fault c again a (attached_value rest) h) (or_else (react_fault c again a [] h) (f (reacted c a [] h)))
    (option_ok c again a (attached_value rest) h)
    (and_case (react_passes c again a [] h) (p (reacted c a [] h)) (react_fault c again a [] h) (f (reacted c a [] h)) (react_ok c again a [] h) (then_p (reacted c a [] h)))
    none

bundle_ok : (c : List Rule) (again : Bool) (o : Option ℕ) (flags : Text) (skip : ℕ) (h : Held) (f : Text → ℕ → Held → Kinds) (p : Text → ℕ → Held → Bool)
    → ((t : Text) (k : ℕ) (g : Held) → f t k g ≡ [] → p t k g ≡ true) → bundle_step_fault c again o flags skip h f ≡ []
    → bundle_step_passes c again o flags skip h p ≡ true
bundle_ok c again None flags skip h f p then_p none = refl
bundle_ok c again (Some x) flags zero h f p then_p none =
    let rest = drop (length (encode_utf8 x)) flags in
    short_ok c again (arg_by_short c x) rest h (f rest 0) (p rest 0) (then_p rest 0) none
bundle_ok c again (Some x) flags (suc skip) h f p then_p none = then_p (drop (length (encode_utf8 x)) flags) skip h none

flags_ok : (c : List Rule) (again : Bool) (k : ℕ) (flags : Text) (skip : ℕ) (h : Held) → flags_fault c again k flags skip h ≡ [] → flags_pass c again k flags skip h ≡ true
unfolding flags_fault flags_pass
flags_ok c again zero flags skip h none = refl
flags_ok c again (suc k) flags skip h none =
    bundle_ok c again (slice_get (chars flags) 0) flags skip h (flags_fault c again k) (flags_pass c again k) (λ t n g e. flags_ok c again k t n g e) none

flag_word_ok : (c : List Rule) (again : Bool) (o : Option (Text × Option Text)) (word : Text) (h : Held) → flag_word_fault c again o word h ≡ []
    → flag_word_passes c again o word h ≡ true
flag_word_ok c again (Some p) word h none = long_ok c again (arg_by_long c p.0) p.1 h none
flag_word_ok c again None word h none =
    option_case (short_of word) (λ flags. bundle_passes c again flags h) (λ flags. bundle_fault c again flags h) true []
    (λ flags e. flags_ok c again (length flags) flags h.skip (record h { skip = 0 }) e) (λ e. refl) none

other_ok : (s : Shape) (o : Option Text) (word : Text) (h : Held) → other_fault s o word h ≡ [] → other_passes s o word h ≡ true
other_ok s (Some name) word h none = unless_case (bytes_eq name (codes "help")) s.disable_help_subcommand kind.DisplayHelp (kind.InvalidSubcommand ∷ []) none
other_ok s None word h none =
    or_case (bytes_eq word (45 ∷ 45 ∷ [])) (flag_word_passes s.rules s.args_override_self (long_of word) word h)
    (flag_word_fault s.rules s.args_override_self (long_of word) word h) (flag_word_ok s.rules s.args_override_self (long_of word) word h) none

word_ok : (s : Shape) (names : Names) (is_trailing : Bool) (waiting : Waiting) (word : Text) (h : Held) → word_fault s names is_trailing waiting word h ≡ []
    → word_passes s names is_trailing waiting word h ≡ true
word_ok s names is_trailing waiting word h none =
    or_case is_trailing (other_passes s (subcommand_met names waiting word) word h) (other_fault s (subcommand_met names waiting word) word h)
    (other_ok s (subcommand_met names waiting word) word h) none

positional_ok : (c : List Rule) (again : Bool) (a : Rule) (h : Held) → positional_fault c again a h ≡ [] → positional_passes c again a h ≡ true
positional_ok c again a h none =
    or_case (is_pending a h.pending && takes_several a) (settle_passes c again h) (settle_fault c again h) (settle_ok c again h) none

stray : (b : Bool) (j k l : ErrorKind) → (if b then j ∷ [] else k ∷ l ∷ []) ≡ [] → false ≡ true
stray true j k l none = cc
stray false j k l none = cc

step_ok : (s : Shape) (position : ℕ) (h : Held) (step : Step) → step_fault s position h step ≡ [] → step_passes s position h step ≡ true
step_ok s position h (next waiting) none = refl
step_ok s position h (trailing place) none = refl
step_ok s position h (subcommand name) none = refl
step_ok s position h value none =
    option_case (arg_by_index s.rules position) (λ a. positional_passes s.rules s.args_override_self a h) (λ a. positional_fault s.rules s.args_override_self a h)
    false (stray_fault s) (λ a e. positional_ok s.rules s.args_override_self a h e)
    (stray s.is_leaf kind.UnknownArgument kind.UnknownArgument kind.InvalidSubcommand) none

turn_ok : (s : Shape) (names : Names) (w : Walk) (word : Text) → turn_fault s names w word ≡ [] → turn_passes s names w word ≡ true
turn_ok s names w word none =
    let met = word_met s.rules names w.is_trailing w.waiting w.position word w.held in
    or_case (is_some w.stopped) (word_passes s names w.is_trailing w.waiting word w.held && step_passes s w.position met.0 met.1)
    (or_else (word_fault s names w.is_trailing w.waiting word w.held) (step_fault s w.position met.0 met.1))
    (and_case (word_passes s names w.is_trailing w.waiting word w.held) (step_passes s w.position met.0 met.1)
    (word_fault s names w.is_trailing w.waiting word w.held) (step_fault s w.position met.0 met.1)
    (word_ok s names w.is_trailing w.waiting word w.held) (step_ok s w.position met.0 met.1)) none

walk_ok : (s : Shape) (names : Names) (w : Walk) (words : List Text) → walk_fault s names w words ≡ [] → walk_passes s names w words ≡ true
unfolding walk_fault walk_passes
walk_ok s names w [] none = refl
walk_ok s names w (word ∷ rest) none =
    and_case (turn_passes s names w word) (walk_passes s names (walked s.rules names w word) rest) (turn_fault s names w word)
    (walk_fault s names (walked s.rules names w word) rest) (turn_ok s names w word) (walk_ok s names (walked s.rules names w word) rest) none

-- ---- after the walk

checks : (p q r : Bool) → check_kinds p q r ≡ [] → (p ≡ false) × (q ≡ false) × (r ≡ false)
checks true q r none = cc
checks false true r none = cc
checks false false true none = cc
checks false false false none = (refl, refl, refl)

some_given : (has wants any : Bool) → (not has && (wants && not any)) ≡ false → (not wants || (has || any)) ≡ true
some_given has false any e = refl
some_given true true any e = refl
some_given false true true e = refl
some_given false true false e = cc

entered : (has wants : Bool) → (not has && wants) ≡ false → (not wants || has) ≡ true
entered has false e = refl
entered true true e = refl
entered false true e = cc

one_missing : (r g any all : Bool) → (any ≡ false → all ≡ true) → ((r && not g) || any) ≡ false → ((not r || g) && all) ≡ true
one_missing true true any all then_all e = then_all e
one_missing true false any all then_all e = cc
one_missing false g any all then_all e = then_all e

none_missing : (required given : Rule → Bool) (rules : List Rule) → list_any (λ a. required a && not (given a)) rules ≡ false
    → list_all (λ a. not (required a) || given a) rules ≡ true
none_missing required given [] e = refl
none_missing required given (a ∷ rest) e =
    one_missing (required a) (given a) (list_any (λ b. required b && not (given b)) rest) (list_all (λ b. not (required b) || given b) rest)
    (none_missing required given rest) e

lifted : (negates any all : Bool) → (any ≡ false → all ≡ true) → (not negates && any) ≡ false → (negates || all) ≡ true
lifted true any all then_all e = refl
lifted false any all then_all e = then_all e

valid_ok : (s : Shape) (rows : List Row) (has : Bool) → has_free_rules s ≡ true → check_fault s rows has ≡ [] → is_valid s rows has ≡ true
valid_ok s rows has free none =
    let parts = checks (not has && (s.arg_required_else_help && not (list_any (λ r. explicit_source r.source) rows))) (not has && s.subcommand_required)
    (not (s.subcommand_negates_reqs && has) && list_any (λ a. a.required && not (is_given a.id rows)) s.rules) none in
    both_true (some_given has s.arg_required_else_help (list_any (λ r. explicit_source r.source) rows) parts.0)
    (both_true (entered has s.subcommand_required parts.1)
    (both_true free (lifted (s.subcommand_negates_reqs && has) (list_any (λ a. a.required && not (is_given a.id rows)) s.rules)
    (list_all (λ a. not a.required || is_given a.id rows) s.rules)
    (none_missing (λ a. a.required) (λ a. is_given a.id rows) s.rules) parts.2)))

level_ok : (s : Shape) (words : List Text) → has_free_rules s ≡ true → list_all default_passes s.rules ≡ true
    → level_fault s [] nothing_held words false [] ≡ [] → level_passes s [] nothing_held words false ≡ true
level_ok s words free defaults none =
    let end = (walk s.rules [] nothing_held words).held in
    let checked = check_fault s (finished s.rules end) false in
    let given = defaults_fault (settled s.rules end).rows s.rules in
    let kept = settle_fault s.rules s.args_override_self end in
    let a = or_parts (walk_fault s [] (walk_from nothing_held) words) (or_else kept (or_else given checked)) none in
    let b = or_parts kept (or_else given checked) a.1 in
    let d = or_parts given checked b.1 in
    both_true (walk_ok s [] (walk_from nothing_held) words a.0)
    (both_true (settle_ok s.rules s.args_override_self end b.0) (both_true defaults (valid_ok s (finished s.rules end) false free d.1)))

-- a command without subcommands whose defaults are values of their arguments takes the words in which it finds no fault
pub takes_faultless : (command : App) (words : List Text) → is_simple_and_free command ≡ true → (built command).subs ≡ []
    → list_all default_passes (built command).top.rules ≡ true → fault_of command words ≡ [] → takes command words ≡ true
takes_faultless command words is alone defaults none =
    let parts = and_parts (is_simple command) (is_free_app (built command)) is in
    let free = and_parts (has_free_rules (built command).top) (list_all has_free_rules (built command).subs) parts.1 in
    let own : level_fault (built command).top [] nothing_held (argument_words command words) false [] ≡ [] =
    sym (leaf_fault (built command) nothing_held (argument_words command words) alone) ∙ none in
    both_true parts.0 (leaf_takes (built command) nothing_held (argument_words command words) alone
    (level_ok (built command).top (argument_words command words) free.0 defaults own))
