-- Each filter is read to its end, and to what it means.
use Rattle.std.proofs.Common.{◌≡◌, ℕ, zero, suc, ◌+◌, ◌-◌, ◌≤◌, ◌<◌, List, [], ◌∷◌, ◌++◌, Option, Some, None, refl, sym, ap, ◌∙◌, arith, codes}
use Rattle.std.specs.Prelude.{option_map}
use Rattle.std.proofs.lemmas.Bool.{lt-ltb}
use Rattle.odata_filter.specs.declared.comparison.Comparison.{Comparison}
use Rattle.odata_filter.specs.declared.topic_test.TopicTest.{TopicTest}
use Rattle.odata_filter.specs.declared.filter_state.Searched.{Searched}
use Rattle.odata_filter.specs.declared.filter_state.Expected.TheVariants as expected
use Rattle.odata_filter.specs.declared.filter_state.Level.{Level}
use Rattle.odata_filter.specs.declared.filter_state.Levels.{Levels}
use Rattle.odata_filter.specs.declared.filter_state.Reading.{Reading}
use Rattle.odata_filter.specs.declared.limits.TheConstants.{MOST_NESTED}
use Rattle.odata_filter.specs.TopicMembers.{text_member, date_member}
use Rattle.odata_filter.specs.Conditions.{Condition, Negated, Both, Either}
use Rattle.odata_filter.specs.FilterLexemes.{Lexeme, Word, Quoted, Open, Close, Comma}
use Rattle.odata_filter.specs.FilterGrammar.{search_test, IsTest, compares, searches, Part, Operand, Conjunction, Disjunction, Spells, test, negation, group, first, more, only, other, IsFilter}
use Rattle.odata_filter.specs.inner.FilterSteps.{empty_level, reading, nothing_read, negated, joined, completed, closed, split_last, behind, without_group, tested, operand_word, step, ended}
use Rattle.odata_filter.proofs.FilterRuns.{run, run_cons, run_then}

-- a list that ends in an element is split there
pub split_last_push : {A : Type 0} (xs : List A) (x : A) → split_last (xs ++ x ∷ []) ≡ Some (xs, x)
split_last_push [] x = refl
split_last_push (y ∷ xs) x = ap (λ o. Some (behind y o)) (split_last_push xs x)

pub negated_inside : (n : ℕ) (x : Condition) → negated n (Negated x) ≡ Negated (negated n x)
negated_inside zero x = refl
negated_inside (suc n) x = ap Negated (negated_inside n x)

-- a level with those around it
abbrev pub within : Level → List Level → Levels
within level outer = record { inner = level; outer = outer }

-- a level without `not` before its operand
abbrev pub flat : Option Condition → Option Condition → ℕ → Level
flat either both base = record { either = either; both = both; base = base; depth = base }

pub test_runs : (ls : List Lexeme) (t : TopicTest) → IsTest ls t → (levels : Levels)
    → run (reading expected.Operand levels) ls ≡ Some (tested levels t)
unfolding step text_member date_member
test_runs _ t (compares name word member comparison literal named operator means) levels =
    run_cons (reading expected.Operand levels) (reading (expected.Operator member) levels) (Word name)
    (Word word ∷ literal ∷ []) (Some (tested levels t)) (ap (operand_word levels name) named)
    (run_cons (reading (expected.Operator member) levels) (reading (expected.Literal member comparison) levels)
    (Word word) (literal ∷ []) (Some (tested levels t))
    (ap (option_map (λ (c : Comparison). reading (expected.Literal member c) levels)) operator)
    (run_cons (reading (expected.Literal member comparison) levels) (tested levels t) literal [] (Some (tested levels t))
    (ap (option_map (λ (u : TopicTest). tested levels u)) means) refl))
test_runs _ _ (searches name literal searched named) levels =
    run_cons (reading expected.Operand levels) (reading expected.SearchOpen levels) (Word (codes "contains"))
    (Open ∷ Word name ∷ Comma ∷ Quoted literal ∷ Close ∷ []) (Some (tested levels (search_test searched literal))) refl
    (run_cons (reading expected.SearchOpen levels) (reading expected.SearchMember levels) Open
    (Word name ∷ Comma ∷ Quoted literal ∷ Close ∷ []) (Some (tested levels (search_test searched literal))) refl
    (run_cons (reading expected.SearchMember levels) (reading (expected.SearchComma searched) levels) (Word name)
    (Comma ∷ Quoted literal ∷ Close ∷ []) (Some (tested levels (search_test searched literal)))
    (ap (option_map (λ (s : Searched). reading (expected.SearchComma s) levels)) named) refl))

-- what is read where an operand, operands joined by `and`, or a filter begin
abbrev pub Runs : Part → ℕ → List Lexeme → Condition → Type 0
Runs Operand room ls x =
    (level : Level) (outer : List Level) → level.depth + room ≡ MOST_NESTED → level.base ≤ level.depth
    → run (reading expected.Operand (within level outer)) ls ≡ Some (completed level outer x)
Runs Conjunction room ls x =
    (either : Option Condition) (base : ℕ) (outer : List Level) → base + room ≡ MOST_NESTED
    → run (reading expected.Operand (within (flat either None base) outer)) ls
    ≡ Some (reading expected.Joint (within (flat either (Some x) base) outer))
Runs Disjunction room ls x =
    (base : ℕ) (outer : List Level) → base + room ≡ MOST_NESTED
    → (either : Option Condition) × (both : Condition)
    × (run (reading expected.Operand (within (empty_level base) outer)) ls
    ≡ Some (reading expected.Joint (within (flat either (Some both) base) outer)))
    × (joined Either either both ≡ x)

-- one `not` more around an operand
completed_deeper : (level : Level) (outer : List Level) (x : Condition) → level.base ≤ level.depth
    → completed (record level { depth = level.depth + 1 }) outer x ≡ completed level outer (Negated x)
completed_deeper level outer x h =
    let n : (level.depth + 1) - level.base ≡ suc (level.depth - level.base) = omega arith in
    let e : negated ((level.depth + 1) - level.base) x ≡ negated (level.depth - level.base) (Negated x) =
    ap (λ k. negated k x) n ∙ sym (negated_inside (level.depth - level.base) x) in
    ap (λ y. reading expected.Joint (within (record {
      either = level.either;
      both = Some (joined Both level.both y);
      base = level.base;
      depth = level.base;
    }) outer)) e

-- behind `not`
not_step : (level : Level) (outer : List Level) → level.depth < MOST_NESTED
    → step (reading expected.Operand (within level outer)) (Word (codes "not"))
    ≡ Some (reading expected.Operand (within (record level { depth = level.depth + 1 }) outer))
unfolding step text_member date_member
not_step level outer h = rw (lt-ltb level.depth MOST_NESTED h) refl

-- behind `(`
open_step : (level : Level) (outer : List Level) → level.depth < MOST_NESTED
    → step (reading expected.Operand (within level outer)) Open
    ≡ Some (reading expected.Operand (within (empty_level (level.depth + 1)) (outer ++ level ∷ [])))
unfolding step
open_step level outer h = rw (lt-ltb level.depth MOST_NESTED h) refl

-- behind `)`
pub close_step : (level around : Level) (outer : List Level) (x : Condition) → closed level ≡ Some x
    → step (reading expected.Joint (within level (outer ++ around ∷ []))) Close ≡ Some (completed around outer x)
unfolding step
close_step level around outer x is =
    ap (λ s. without_group s (closed level)) (split_last_push outer around)
    ∙ ap (without_group (Some (outer, around))) is

-- behind `and`
and_step : (levels : Levels)
    → step (reading expected.Joint levels) (Word (codes "and")) ≡ Some (reading expected.Operand levels)
unfolding step
and_step levels = refl

-- behind `or`
or_step : (either : Option Condition) (both : Condition) (base : ℕ) (outer : List Level)
    → step (reading expected.Joint (within (flat either (Some both) base) outer)) (Word (codes "or"))
    ≡ Some (reading expected.Operand (within (flat (Some (joined Either either both)) None base) outer))
unfolding step
or_step either both base outer = refl

not_runs : (room : ℕ) (ls : List Lexeme) (x : Condition) → Runs Operand room ls x
    → Runs Operand (suc room) (Word (codes "not") ∷ ls) (Negated x)
not_runs room ls x inner level outer fits deep =
    run_cons _ _ _ ls _ (not_step level outer (omega arith))
    (inner (record level { depth = level.depth + 1 }) outer (omega arith) (omega arith)
    ∙ ap Some (completed_deeper level outer x deep))

group_runs : (room : ℕ) (ls : List Lexeme) (x : Condition) → Runs Disjunction room ls x
    → Runs Operand (suc room) (Open ∷ (ls ++ Close ∷ [])) x
group_runs room ls x inner level outer fits deep =
    let found = inner (level.depth + 1) (outer ++ level ∷ []) (omega arith) in
    run_cons _ _ Open (ls ++ Close ∷ []) _ (open_step level outer (omega arith))
    (run_then _ _ ls (Close ∷ []) _ found.2
    (run_cons _ (completed level outer x) Close [] _
    (close_step (flat found.0 (Some found.1) (level.depth + 1)) level outer x (ap Some found.3)) refl))

-- an operand of a level without `not`
flat_completed : (either both : Option Condition) (base : ℕ) (outer : List Level) (x : Condition)
    → completed (flat either both base) outer x
    ≡ reading expected.Joint (within (flat either (Some (joined Both both x)) base) outer)
flat_completed either both base outer x =
    let n : base - base ≡ 0 = omega arith in
    ap (λ k. reading expected.Joint (within (flat either (Some (joined Both both (negated k x))) base) outer)) n

first_runs : (room : ℕ) (ls : List Lexeme) (x : Condition) → Runs Operand room ls x → Runs Conjunction room ls x
first_runs room ls x inner either base outer fits =
    inner (flat either None base) outer fits (omega arith) ∙ ap Some (flat_completed either None base outer x)

more_runs : (room : ℕ) (ls ms : List Lexeme) (x y : Condition) → Runs Conjunction room ls x → Runs Operand room ms y
    → Runs Conjunction room (ls ++ Word (codes "and") ∷ ms) (Both x y)
more_runs room ls ms x y before operand either base outer fits =
    run_then _ _ ls (Word (codes "and") ∷ ms) _ (before either base outer fits)
    (run_cons _ _ _ ms _ (and_step (within (flat either (Some x) base) outer))
    (operand (flat either (Some x) base) outer fits (omega arith)
    ∙ ap Some (flat_completed either (Some x) base outer y)))

only_runs : (room : ℕ) (ls : List Lexeme) (x : Condition) → Runs Conjunction room ls x → Runs Disjunction room ls x
only_runs room ls x inner base outer fits = (None, x, inner None base outer fits, refl)

other_runs : (room : ℕ) (ls ms : List Lexeme) (x y : Condition) → Runs Disjunction room ls x
    → Runs Conjunction room ms y → Runs Disjunction room (ls ++ Word (codes "or") ∷ ms) (Either x y)
other_runs room ls ms x y before after base outer fits =
    let found = before base outer fits in (
      Some x,
      y,
      run_then _ _ ls (Word (codes "or") ∷ ms) _ found.2
          (run_cons _ (reading expected.Operand (within (flat (Some x) None base) outer)) _ ms _
          (or_step found.0 found.1 base outer
          ∙ ap (λ z. Some (reading expected.Operand (within (flat (Some z) None base) outer))) found.3)
          (after (Some x) base outer fits)),
      refl,
    )

pub spelled_runs : {part : Part} {room : ℕ} {ls : List Lexeme} {x : Condition} → Spells part room ls x
    → Runs part room ls x
spelled_runs (test t) = λ level outer fits deep. test_runs _ _ t (within level outer)
spelled_runs (negation d) = not_runs _ _ _ (spelled_runs d)
spelled_runs (group d) = group_runs _ _ _ (spelled_runs d)
spelled_runs (first d) = first_runs _ _ _ (spelled_runs d)
spelled_runs (more d e) = more_runs _ _ _ _ _ (spelled_runs d) (spelled_runs e)
spelled_runs (only d) = only_runs _ _ _ (spelled_runs d)
spelled_runs (other d e) = other_runs _ _ _ _ _ (spelled_runs d) (spelled_runs e)

-- a filter is read to its end, and to what it means
pub filter_runs : (ls : List Lexeme) (x : Condition) → IsFilter ls x
    → (read : Reading) × (run nothing_read ls ≡ Some read) × (ended read ≡ Some x)
unfolding ended
filter_runs ls x d =
    let found = spelled_runs d 0 [] (omega arith) in
    (reading expected.Joint (within (flat found.0 (Some found.1) 0) []), found.2, ap Some found.3)
