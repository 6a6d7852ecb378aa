-- Each token keeps that what has been read is spelled.
use Rattle.std.proofs.Common.{◌≡◌, ℕ, suc, ◌+◌, ◌-◌, Bool, true, false, cond, List, [], ◌∷◌, ◌++◌, length, Option, Some, None, refl, sym, ap, ◌∙◌, subst, append_assoc, arith, codes}
use Rattle.std.specs.Prelude.{option_map, option_and_then, nat_lt, bytes_eq}
use Rattle.std.proofs.lemmas.Bool.{ltb-true}
use Rattle.std.proofs.lemmas.List.{length_push}
use Rattle.odata_filter.specs.declared.topic_members.Member.{Member}
use Rattle.odata_filter.specs.declared.comparison.Comparison.{Comparison}
use Rattle.odata_filter.specs.declared.topic_test.TopicTest.{TopicTest}
use Rattle.odata_filter.specs.declared.filter_state.Searched.{Searched}
use Rattle.odata_filter.specs.declared.filter_state.Expected.{Expected}
use Rattle.odata_filter.specs.declared.filter_state.Expected.TheVariants as expected
use Rattle.odata_filter.specs.declared.filter_state.Level.{Level}
use Rattle.odata_filter.specs.declared.filter_state.Levels.{Levels}
use Rattle.odata_filter.specs.declared.filter_state.Reading.{Reading}
use Rattle.odata_filter.specs.declared.limits.TheConstants.{MOST_NESTED}
use Rattle.odata_filter.specs.TopicMembers.{member_named}
use Rattle.odata_filter.specs.Conditions.{Condition, Tested, Either}
use Rattle.odata_filter.specs.FilterLexemes.{Lexeme, Word, Quoted, Open, Close, Comma, Stray}
use Rattle.odata_filter.specs.FilterGrammar.{comparison_named, literal_test, searched_named, search_test, IsTest, compares, searches, Operand, Disjunction, Spells, test, group, IsFilter}
use Rattle.odata_filter.specs.inner.FilterSteps.{empty_level, reading, nothing_read, closed, joined, completed, with_not, with_or, split_last, without_group, tested, operand_word, at_operand, at_operator, at_literal, at_search_open, at_search_member, at_search_comma, at_search_text, at_search_close, at_joint, step_at, step, ended_at, ended}
use Rattle.odata_filter.proofs.Runs.{run_holds}
use Rattle.odata_filter.proofs.FilterRuns.{run}
use Rattle.odata_filter.proofs.OptionFacts.{under_map, some_is, same_bytes}
use Rattle.odata_filter.proofs.Accepts.{split_last_push}
use Rattle.odata_filter.proofs.Sound.{Around, outside, inside, nots, AtOperand, AtJoint, operand_joins, operand_not, operand_open, nothing, joint_and, joint_or, joined_closes}

-- the tokens behind an operand's beginning, and what they say so far
abbrev pub Partial : Levels → List Lexeme → List Lexeme → Type 0
Partial levels ls said = (before : List Lexeme) × AtOperand levels before × (ls ≡ before ++ said)

-- what stands behind what has been read, by what comes next
abbrev pub Holds : Levels → List Lexeme → Expected → Type 0
Holds levels ls expected.Operand = AtOperand levels ls
Holds levels ls (expected.Operator member) =
    (name : List ℕ) × (member_named name ≡ Some member) × Partial levels ls (Word name ∷ [])
Holds levels ls (expected.Literal member comparison) =
    (name : List ℕ) × (word : List ℕ) × (member_named name ≡ Some member) × (comparison_named word ≡ Some comparison)
    × Partial levels ls (Word name ∷ Word word ∷ [])
Holds levels ls expected.SearchOpen = Partial levels ls (Word (codes "contains") ∷ [])
Holds levels ls expected.SearchMember = Partial levels ls (Word (codes "contains") ∷ Open ∷ [])
Holds levels ls (expected.SearchComma searched) =
    (name : List ℕ) × (searched_named name ≡ Some searched)
    × Partial levels ls (Word (codes "contains") ∷ Open ∷ Word name ∷ [])
Holds levels ls (expected.SearchText searched) =
    (name : List ℕ) × (searched_named name ≡ Some searched)
    × Partial levels ls (Word (codes "contains") ∷ Open ∷ Word name ∷ Comma ∷ [])
Holds levels ls (expected.SearchClose t) =
    (name : List ℕ) × (literal : List ℕ) × (searched : Searched) × (searched_named name ≡ Some searched)
    × (t ≡ search_test searched literal)
    × Partial levels ls (Word (codes "contains") ∷ Open ∷ Word name ∷ Comma ∷ Quoted literal ∷ [])
Holds levels ls expected.Joint = AtJoint levels ls

-- the same of what has been read
abbrev pub Holding : Reading → List Lexeme → Type 0
Holding read ls = Holds read.levels ls read.expected

-- one more token of an operand
pub partial_more : (levels : Levels) (ls said : List Lexeme) (l : Lexeme) → Partial levels ls said
    → Partial levels (ls ++ l ∷ []) (said ++ l ∷ [])
partial_more levels ls said l h =
    (h.0, h.1, ap (λ k. k ++ l ∷ []) h.2 ∙ append_assoc h.0 said (l ∷ []))

-- the tokens of a test are read
pub partial_test : (levels : Levels) (ls said : List Lexeme) (t : TopicTest) → Partial levels ls said → IsTest said t
    → Holding (tested levels t) ls
partial_test levels ls said t h d =
    subst (λ k. Holding (tested levels t) k) (sym h.2) (operand_joins levels h.0 said (Tested t) h.1 (test d))

not_step : (levels : Levels) (ls : List Lexeme) (next : Reading) (b : Bool) → nat_lt levels.inner.depth MOST_NESTED ≡ b
    → cond b (Some (reading expected.Operand
    (record levels { inner = record levels.inner { depth = levels.inner.depth + 1 } }))) None ≡ Some next
    → AtOperand levels ls → Holding next (ls ++ Word (codes "not") ∷ [])
not_step levels ls next true is e h =
    subst (λ r. Holding r (ls ++ Word (codes "not") ∷ [])) (some_is e)
    (operand_not levels ls h (ltb-true levels.inner.depth MOST_NESTED is))
not_step levels ls next false is e h = cc

open_step : (levels : Levels) (ls : List Lexeme) (next : Reading) (b : Bool) → nat_lt levels.inner.depth MOST_NESTED ≡ b
    → cond b (Some (reading expected.Operand (record {
      inner = empty_level (levels.inner.depth + 1);
      outer = levels.outer ++ levels.inner ∷ [];
    }))) None ≡ Some next
    → AtOperand levels ls → Holding next (ls ++ Open ∷ [])
open_step levels ls next true is e h =
    subst (λ r. Holding r (ls ++ Open ∷ [])) (some_is e)
    (operand_open levels ls h (ltb-true levels.inner.depth MOST_NESTED is))
open_step levels ls next false is e h = cc

-- a word that is no member
other_word : (levels : Levels) (ls : List Lexeme) (word : List ℕ) (next : Reading) (n c : Bool)
    → bytes_eq word (codes "not") ≡ n → bytes_eq word (codes "contains") ≡ c
    → cond n (with_not levels) (cond c (Some (reading expected.SearchOpen levels)) None) ≡ Some next
    → AtOperand levels ls → Holding next (ls ++ Word word ∷ [])
other_word levels ls word next true c is _ e h =
    subst (λ w. Holding next (ls ++ Word w ∷ [])) (sym (same_bytes word (codes "not") is))
    (not_step levels ls next (nat_lt levels.inner.depth MOST_NESTED) refl e h)
other_word levels ls word next false true _ is e h =
    subst (λ w. Holding next (ls ++ Word w ∷ [])) (sym (same_bytes word (codes "contains") is))
    (subst (λ r. Holding r (ls ++ Word (codes "contains") ∷ [])) (some_is e) (ls, h, refl))
other_word levels ls word next false false _ _ e h = cc

-- the tokens of a group, in the order in which they are read
regrouped : (ls ms ns own : List Lexeme)
    → (ls ++ (ms ++ ns)) ++ (Open ∷ (own ++ Close ∷ []))
    ≡ ((ls ++ (ms ++ (ns ++ Open ∷ []))) ++ own) ++ Close ∷ []
regrouped ls ms ns own = simp append_assoc

word_step : (levels : Levels) (ls : List Lexeme) (word : List ℕ) (found : Option Member) (next : Reading)
    → member_named word ≡ found → operand_word levels word found ≡ Some next → AtOperand levels ls
    → Holding next (ls ++ Word word ∷ [])
word_step levels ls word (Some member) next named e h =
    subst (λ r. Holding r (ls ++ Word word ∷ [])) (some_is e) (word, named, (ls, h, refl))
word_step levels ls word None next named e h = other_word levels ls word next (bytes_eq word (codes "not")) (bytes_eq word (codes "contains")) refl refl e h

-- where an operand begins
operand_step : (levels : Levels) (ls : List Lexeme) (l : Lexeme) (next : Reading) → at_operand levels l ≡ Some next
    → AtOperand levels ls → Holding next (ls ++ l ∷ [])
operand_step levels ls (Word word) next e h = word_step levels ls word (member_named word) next refl e h
operand_step levels ls Open next e h = open_step levels ls next (nat_lt levels.inner.depth MOST_NESTED) refl e h
operand_step levels ls (Quoted text) next e h = cc
operand_step levels ls Close next e h = cc
operand_step levels ls Comma next e h = cc
operand_step levels ls Stray next e h = cc

operator_step : (levels : Levels) (ls : List Lexeme) (member : Member) (l : Lexeme) (next : Reading)
    → at_operator levels member l ≡ Some next → Holds levels ls (expected.Operator member)
    → Holding next (ls ++ l ∷ [])
operator_step levels ls member (Word word) next e h =
    let found = under_map (λ (c : Comparison). reading (expected.Literal member c) levels) (comparison_named word) next e in
    subst (λ r. Holding r (ls ++ Word word ∷ [])) found.2
    (h.0, word, h.1, found.1, partial_more levels ls (Word h.0 ∷ []) (Word word) h.2)
operator_step levels ls member (Quoted text) next e h = cc
operator_step levels ls member Open next e h = cc
operator_step levels ls member Close next e h = cc
operator_step levels ls member Comma next e h = cc
operator_step levels ls member Stray next e h = cc

literal_step : (levels : Levels) (ls : List Lexeme) (member : Member) (comparison : Comparison) (l : Lexeme)
    (next : Reading) → at_literal levels member comparison l ≡ Some next
    → Holds levels ls (expected.Literal member comparison) → Holding next (ls ++ l ∷ [])
literal_step levels ls member comparison l next e h =
    let found = under_map (λ (t : TopicTest). tested levels t) (literal_test member comparison l) next e in
    subst (λ r. Holding r (ls ++ l ∷ [])) found.2
    (partial_test levels (ls ++ l ∷ []) (Word h.0 ∷ Word h.1 ∷ l ∷ []) found.0
    (partial_more levels ls (Word h.0 ∷ Word h.1 ∷ []) l h.4)
    (compares h.0 h.1 member comparison l h.2 h.3 found.1))

search_open_step : (levels : Levels) (ls : List Lexeme) (l : Lexeme) (next : Reading)
    → at_search_open levels l ≡ Some next → Holds levels ls expected.SearchOpen → Holding next (ls ++ l ∷ [])
search_open_step levels ls Open next e h =
    subst (λ r. Holding r (ls ++ Open ∷ [])) (some_is e) (partial_more levels ls (Word (codes "contains") ∷ []) Open h)
search_open_step levels ls (Word word) next e h = cc
search_open_step levels ls (Quoted text) next e h = cc
search_open_step levels ls Close next e h = cc
search_open_step levels ls Comma next e h = cc
search_open_step levels ls Stray next e h = cc

search_member_step : (levels : Levels) (ls : List Lexeme) (l : Lexeme) (next : Reading)
    → at_search_member levels l ≡ Some next → Holds levels ls expected.SearchMember → Holding next (ls ++ l ∷ [])
search_member_step levels ls (Word word) next e h =
    let found = under_map (λ (s : Searched). reading (expected.SearchComma s) levels) (searched_named word) next e in
    subst (λ r. Holding r (ls ++ Word word ∷ [])) found.2
    (word, found.1, partial_more levels ls (Word (codes "contains") ∷ Open ∷ []) (Word word) h)
search_member_step levels ls (Quoted text) next e h = cc
search_member_step levels ls Open next e h = cc
search_member_step levels ls Close next e h = cc
search_member_step levels ls Comma next e h = cc
search_member_step levels ls Stray next e h = cc

search_comma_step : (levels : Levels) (ls : List Lexeme) (searched : Searched) (l : Lexeme) (next : Reading)
    → at_search_comma levels searched l ≡ Some next → Holds levels ls (expected.SearchComma searched)
    → Holding next (ls ++ l ∷ [])
search_comma_step levels ls searched Comma next e h =
    subst (λ r. Holding r (ls ++ Comma ∷ [])) (some_is e)
    (h.0, h.1, partial_more levels ls (Word (codes "contains") ∷ Open ∷ Word h.0 ∷ []) Comma h.2)
search_comma_step levels ls searched (Word word) next e h = cc
search_comma_step levels ls searched (Quoted text) next e h = cc
search_comma_step levels ls searched Open next e h = cc
search_comma_step levels ls searched Close next e h = cc
search_comma_step levels ls searched Stray next e h = cc

search_text_step : (levels : Levels) (ls : List Lexeme) (searched : Searched) (l : Lexeme) (next : Reading)
    → at_search_text levels searched l ≡ Some next → Holds levels ls (expected.SearchText searched)
    → Holding next (ls ++ l ∷ [])
search_text_step levels ls searched (Quoted literal) next e h =
    subst (λ r. Holding r (ls ++ Quoted literal ∷ [])) (some_is e) (
      h.0,
      literal,
      searched,
      h.1,
      refl,
      partial_more levels ls (Word (codes "contains") ∷ Open ∷ Word h.0 ∷ Comma ∷ []) (Quoted literal) h.2,
    )
search_text_step levels ls searched (Word word) next e h = cc
search_text_step levels ls searched Open next e h = cc
search_text_step levels ls searched Close next e h = cc
search_text_step levels ls searched Comma next e h = cc
search_text_step levels ls searched Stray next e h = cc

search_close_step : (levels : Levels) (ls : List Lexeme) (t : TopicTest) (l : Lexeme) (next : Reading)
    → at_search_close levels t l ≡ Some next → Holds levels ls (expected.SearchClose t) → Holding next (ls ++ l ∷ [])
search_close_step levels ls t Close next e h =
    subst (λ r. Holding r (ls ++ Close ∷ [])) (some_is e)
    (partial_test levels (ls ++ Close ∷ [])
    (Word (codes "contains") ∷ Open ∷ Word h.0 ∷ Comma ∷ Quoted h.1 ∷ Close ∷ []) t
    (partial_more levels ls (Word (codes "contains") ∷ Open ∷ Word h.0 ∷ Comma ∷ Quoted h.1 ∷ []) Close h.5)
    (subst (λ u. IsTest (Word (codes "contains") ∷ Open ∷ Word h.0 ∷ Comma ∷ Quoted h.1 ∷ Close ∷ []) u) (sym h.4)
    (searches h.0 h.1 h.2 h.3)))
search_close_step levels ls t (Word word) next e h = cc
search_close_step levels ls t (Quoted text) next e h = cc
search_close_step levels ls t Open next e h = cc
search_close_step levels ls t Comma next e h = cc
search_close_step levels ls t Stray next e h = cc

-- behind `)`: what stands in the parentheses is an operand of the level around them
group_closes : {outer : List Level} {base : ℕ} {before : List Lexeme} → Around outer base before
    → (inner : Level) (own : List Lexeme) (x : Condition) (next : Reading)
    → Spells Disjunction (MOST_NESTED - base) own x → without_group (split_last outer) (Some x) ≡ Some next
    → Holding next ((before ++ own) ++ Close ∷ [])
group_closes outside inner own x next d e = cc
group_closes (inside {outer = outer} {ls = ls} level ms n around begun deep room) inner own x next d e =
    let opened : AtOperand (record { inner = level; outer = outer }) (ls ++ (ms ++ nots n)) =
    record { before = ls; own = ms; count = n; whole = refl; around = around; begun = begun; deep = deep; bound = omega (arith, room) } in
    let size : MOST_NESTED - level.depth ≡ suc (MOST_NESTED - (level.depth + 1)) = omega (arith, room) in
    let operand : Spells Operand (MOST_NESTED - level.depth) (Open ∷ (own ++ Close ∷ [])) x =
    subst (λ r. Spells Operand r (Open ∷ (own ++ Close ∷ [])) x) (sym size) (group d) in
    let closes = operand_joins (record { inner = level; outer = outer }) (ls ++ (ms ++ nots n)) (Open ∷ (own ++ Close ∷ [])) x opened operand in
    let is : completed level outer x ≡ next =
    some_is (sym (ap (λ s. without_group s (Some x)) (split_last_push outer level)) ∙ e) in
    subst (λ r. Holding r (((ls ++ (ms ++ (nots n ++ Open ∷ []))) ++ own) ++ Close ∷ [])) is
    (subst (λ k. Holding (completed level outer x) k) (regrouped ls ms (nots n) own) closes)

or_step : (levels : Levels) (ls : List Lexeme) (next : Reading) (both : Option Condition) → levels.inner.both ≡ both
    → with_or levels (option_map (λ x. joined Either levels.inner.either x) both) ≡ Some next
    → AtJoint levels ls → Holding next (ls ++ Word (codes "or") ∷ [])
or_step levels ls next None is e h = cc
or_step levels ls next (Some x) is e h =
    let same : h.both ≡ x = some_is (sym h.is ∙ is) in
    subst (λ r. Holding r (ls ++ Word (codes "or") ∷ [])) (some_is e)
    (subst (λ y. AtOperand (record {
      inner = record {
        either = Some (joined Either levels.inner.either y);
        both = None;
        base = levels.inner.base;
        depth = levels.inner.depth;
      };
      outer = levels.outer;
    }) (ls ++ Word (codes "or") ∷ [])) same (joint_or levels ls h))

-- a word where operands are joined
joining_word : (levels : Levels) (ls : List Lexeme) (word : List ℕ) (next : Reading) (a o : Bool)
    → bytes_eq word (codes "and") ≡ a → bytes_eq word (codes "or") ≡ o
    → cond a (Some (reading expected.Operand levels)) (cond o (with_or levels (closed levels.inner)) None) ≡ Some next
    → AtJoint levels ls → Holding next (ls ++ Word word ∷ [])
joining_word levels ls word next true o is _ e h =
    subst (λ w. Holding next (ls ++ Word w ∷ [])) (sym (same_bytes word (codes "and") is))
    (subst (λ r. Holding r (ls ++ Word (codes "and") ∷ [])) (some_is e) (joint_and levels ls h))
joining_word levels ls word next false true _ is e h =
    subst (λ w. Holding next (ls ++ Word w ∷ [])) (sym (same_bytes word (codes "or") is))
    (or_step levels ls next levels.inner.both refl e h)
joining_word levels ls word next false false _ _ e h = cc

close_step : (levels : Levels) (ls : List Lexeme) (next : Reading)
    → without_group (split_last levels.outer) (closed levels.inner) ≡ Some next → AtJoint levels ls
    → Holding next (ls ++ Close ∷ [])
close_step levels ls next e h =
    let is : closed levels.inner ≡ Some (joined Either levels.inner.either h.both) =
    ap (option_map (λ x. joined Either levels.inner.either x)) h.is in
    subst (λ k. Holding next (k ++ Close ∷ [])) (sym h.whole)
    (group_closes h.around levels.inner h.own (joined Either levels.inner.either h.both) next (joined_closes h.joins)
    (sym (ap (without_group (split_last levels.outer)) is) ∙ e))

-- where operands are joined
joint_step : (levels : Levels) (ls : List Lexeme) (l : Lexeme) (next : Reading) → at_joint levels l ≡ Some next
    → AtJoint levels ls → Holding next (ls ++ l ∷ [])
joint_step levels ls (Word word) next e h =
    joining_word levels ls word next (bytes_eq word (codes "and")) (bytes_eq word (codes "or")) refl refl e h
joint_step levels ls Close next e h = close_step levels ls next e h
joint_step levels ls (Quoted text) next e h = cc
joint_step levels ls Open next e h = cc
joint_step levels ls Comma next e h = cc
joint_step levels ls Stray next e h = cc

step_at_holds : (levels : Levels) (ls : List Lexeme) (l : Lexeme) (e : Expected) (next : Reading)
    → step_at levels l e ≡ Some next → Holds levels ls e → Holding next (ls ++ l ∷ [])
step_at_holds levels ls l expected.Operand next e h = operand_step levels ls l next e h
step_at_holds levels ls l (expected.Operator member) next e h = operator_step levels ls member l next e h
step_at_holds levels ls l (expected.Literal member comparison) next e h =
    literal_step levels ls member comparison l next e h
step_at_holds levels ls l expected.SearchOpen next e h = search_open_step levels ls l next e h
step_at_holds levels ls l expected.SearchMember next e h = search_member_step levels ls l next e h
step_at_holds levels ls l (expected.SearchComma searched) next e h = search_comma_step levels ls searched l next e h
step_at_holds levels ls l (expected.SearchText searched) next e h = search_text_step levels ls searched l next e h
step_at_holds levels ls l (expected.SearchClose t) next e h = search_close_step levels ls t l next e h
step_at_holds levels ls l expected.Joint next e h = joint_step levels ls l next e h

-- one more token
pub step_holds : (read next : Reading) (ls : List Lexeme) (l : Lexeme) → step read l ≡ Some next → Holding read ls
    → Holding next (ls ++ l ∷ [])
unfolding step
step_holds read next ls l e h = step_at_holds read.levels ls l read.expected next e h

-- before the first token
start_holds : Holding nothing_read []
start_holds = record {
  before = [];
  own = [];
  count = 0;
  whole = refl;
  around = outside;
  begun = nothing;
  deep = omega arith;
  bound = omega arith;
}

-- what has been read of a text
pub read_holds : (ls : List Lexeme) (read : Reading) → run nothing_read ls ≡ Some read → Holding read ls
read_holds ls read e = run_holds step Holding step_holds nothing_read read [] ls e start_holds

joint_ends : {outer : List Level} {base : ℕ} {before : List Lexeme} → Around outer base before → outer ≡ []
    → (own : List Lexeme) (x : Condition) → Spells Disjunction (MOST_NESTED - base) own x → IsFilter (before ++ own) x
joint_ends outside e own x d = d
joint_ends (inside {outer = outer} level ms n around begun deep room) e own x d =
    absurd (omega (arith, length_push outer level, ap length e))

ends_at : (levels : Levels) (outer : List Level) (e : Expected) (ls : List Lexeme) (x : Condition) → levels.outer ≡ outer
    → ended_at levels outer e ≡ Some x → Holds levels ls e → IsFilter ls x
ends_at levels [] expected.Joint ls x none e h =
    let is : joined Either levels.inner.either h.both ≡ x =
    some_is (sym (ap (option_map (λ y. joined Either levels.inner.either y)) h.is) ∙ e) in
    subst (λ k. IsFilter k x) (sym h.whole)
    (joint_ends h.around none h.own x
    (subst (Spells Disjunction (MOST_NESTED - levels.inner.base) h.own) is (joined_closes h.joins)))
ends_at levels _ _ ls x none e h = cc

-- what is read to its end is a filter
pub read_is_filter : (ls : List Lexeme) (read : Reading) (x : Condition) → run nothing_read ls ≡ Some read
    → ended read ≡ Some x → IsFilter ls x
unfolding ended
read_is_filter ls read x e is = ends_at read.levels read.levels.outer read.expected ls x refl is (read_holds ls read e)
