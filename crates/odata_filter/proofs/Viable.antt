-- What has been read can be completed to a filter.
use Rattle.std.proofs.Common.{◌≡◌, ◌-◌, pos, List, [], ◌∷◌, ◌++◌, Some, refl, ap, codes}
use Rattle.std.specs.Prelude.{option_map, option_and_then}
use Rattle.std.specs.Result.{result_ok}
use Rattle.jiff_fmt.proofs.StandardFacts.{rfc3339-first}
use Rattle.odata_filter.specs.declared.topic_members.TextMember.TheVariants.{Title}
use Rattle.odata_filter.specs.declared.topic_members.Member.{Member}
use Rattle.odata_filter.specs.declared.topic_members.Member.TheVariants.{OfText, Index, OfDate}
use Rattle.odata_filter.specs.declared.comparison.Comparison.{Comparison}
use Rattle.odata_filter.specs.declared.comparison.Comparison.TheVariants.{Equal}
use Rattle.odata_filter.specs.declared.topic_test.TopicTest.{TopicTest}
use Rattle.odata_filter.specs.declared.topic_test.TopicTest.TheVariants.{Absent, Text, Number, Date, Labelled}
use Rattle.odata_filter.specs.declared.filter_state.Expected.{Expected}
use Rattle.odata_filter.specs.declared.filter_state.Expected.TheVariants as expected
use Rattle.odata_filter.specs.declared.filter_state.Level.{Level}
use Rattle.odata_filter.specs.declared.filter_state.Levels.{Levels}
use Rattle.odata_filter.specs.declared.filter_state.Reading.{Reading}
use Rattle.odata_filter.specs.TopicMembers.{text_member, date_member}
use Rattle.odata_filter.specs.Conditions.{Condition, Tested, Both, Either}
use Rattle.odata_filter.specs.FilterLiterals.{second_of, number_in, date_in}
use Rattle.odata_filter.specs.FilterLexemes.{Lexeme, Word, Quoted, Open, Close, Comma}
use Rattle.odata_filter.specs.FilterGrammar.{comparison_named, search_test, compares, IsFilter}
use Rattle.odata_filter.specs.inner.FilterSteps.{reading, nothing_read, negated, joined, level_with, completed, tested, step, ended}
use Rattle.odata_filter.specs.Readings.{IsViable}
use Rattle.odata_filter.proofs.FilterRuns.{run, run_cons, run_then}
use Rattle.odata_filter.proofs.Accepts.{within, test_runs, close_step}
use Rattle.odata_filter.proofs.Held.{Holds, read_holds, read_is_filter}

-- tokens that complete the operand that is being read
record Completes (levels : Levels) (e : Expected) : Type 0 where
  rest : List Lexeme
  level : Level
  outer : List Level
  both : Condition
  runs : run (reading e levels) rest ≡ Some (reading expected.Joint (within level outer))
  is : level.both ≡ Some both

zero_is : number_in (codes "0") ≡ Some (pos 0)
unfolding number_in
zero_is = refl

date_is : date_in (codes "1985-04-12T23:20:50.52Z") ≡ Some 482196050
unfolding date_in
date_is = ap (λ r. option_and_then second_of (result_ok r)) rfc3339-first

-- tokens that make a test complete an operand
by_test : (levels : Levels) (e : Expected) (rest : List Lexeme) (t : TopicTest)
    → run (reading e levels) rest ≡ Some (tested levels t) → Completes levels e
by_test levels e rest t runs = record {
  rest = rest;
  level = level_with levels.inner (Tested t);
  outer = levels.outer;
  both = joined Both levels.inner.both (negated (levels.inner.depth - levels.inner.base) (Tested t));
  runs = runs;
  is = refl;
}

completes_literal : (levels : Levels) (member : Member) (comparison : Comparison)
    → Completes levels (expected.Literal member comparison)
unfolding step
completes_literal levels (OfText member) comparison =
    by_test levels (expected.Literal (OfText member) comparison) (Quoted [] ∷ []) (Text member comparison []) refl
completes_literal levels Index comparison =
    let t : TopicTest = Number comparison (pos 0) in
    by_test levels (expected.Literal Index comparison) (Word (codes "0") ∷ []) t
    (run_cons (reading (expected.Literal Index comparison) levels) (tested levels t) (Word (codes "0")) []
    (Some (tested levels t))
    (ap (λ n. option_map (λ (u : TopicTest). tested levels u) (option_map (λ k. Number comparison k) n)) zero_is) refl)
completes_literal levels (OfDate member) comparison =
    let t : TopicTest = Date member comparison 482196050 in
    by_test levels (expected.Literal (OfDate member) comparison) (Word (codes "1985-04-12T23:20:50.52Z") ∷ []) t
    (run_cons (reading (expected.Literal (OfDate member) comparison) levels) (tested levels t)
    (Word (codes "1985-04-12T23:20:50.52Z")) [] (Some (tested levels t))
    (ap (λ n. option_map (λ (u : TopicTest). tested levels u) (option_map (λ k. Date member comparison k) n)) date_is)
    refl)

completes_at : (levels : Levels) (ls : List Lexeme) (e : Expected) → Holds levels ls e → Completes levels e
unfolding step comparison_named text_member date_member
completes_at levels ls expected.Operand h =
    let t : TopicTest = Text Title Equal [] in
    by_test levels expected.Operand (Word (codes "title") ∷ Word (codes "eq") ∷ Quoted [] ∷ []) t
    (test_runs (Word (codes "title") ∷ Word (codes "eq") ∷ Quoted [] ∷ []) t
    (compares (codes "title") (codes "eq") (OfText Title) Equal (Quoted []) refl refl refl) levels)
completes_at levels ls (expected.Operator member) h =
    by_test levels (expected.Operator member) (Word (codes "eq") ∷ Word (codes "null") ∷ []) (Absent member) refl
completes_at levels ls (expected.Literal member comparison) h = completes_literal levels member comparison
completes_at levels ls expected.SearchOpen h =
    by_test levels expected.SearchOpen (Open ∷ Word (codes "labels") ∷ Comma ∷ Quoted [] ∷ Close ∷ []) (Labelled [])
    refl
completes_at levels ls expected.SearchMember h =
    by_test levels expected.SearchMember (Word (codes "labels") ∷ Comma ∷ Quoted [] ∷ Close ∷ []) (Labelled []) refl
completes_at levels ls (expected.SearchComma searched) h =
    by_test levels (expected.SearchComma searched) (Comma ∷ Quoted [] ∷ Close ∷ []) (search_test searched []) refl
completes_at levels ls (expected.SearchText searched) h =
    by_test levels (expected.SearchText searched) (Quoted [] ∷ Close ∷ []) (search_test searched []) refl
completes_at levels ls (expected.SearchClose t) h = by_test levels (expected.SearchClose t) (Close ∷ []) t refl
completes_at levels ls expected.Joint h =
    record { rest = []; level = levels.inner; outer = levels.outer; both = h.both; runs = refl; is = h.is }

-- a list, from its end
data Ends {A : Type 0} : List A → Type 0 where
  empty : Ends []
  push : {xs : List A} (x : A) → Ends xs → Ends (xs ++ x ∷ [])

ends_cons : {A : Type 0} {xs : List A} (y : A) → Ends xs → Ends (y ∷ xs)
ends_cons y empty = push y empty
ends_cons y (push x e) = push x (ends_cons y e)

ends_of : {A : Type 0} (xs : List A) → Ends xs
ends_of [] = empty
ends_of (x ∷ xs) = ends_cons x (ends_of xs)

-- parentheses that close each level
closes : {outer : List Level} → Ends outer → (level : Level) (both : Condition) → level.both ≡ Some both
    → (rest : List Lexeme) × (read : Reading) × (x : Condition)
    × (run (reading expected.Joint (within level outer)) rest ≡ Some read) × (ended read ≡ Some x)
unfolding ended
closes empty level both is = (
  [],
  reading expected.Joint (within level []),
  joined Either level.either both,
  refl,
  ap (option_map (λ x. joined Either level.either x)) is,
)
closes (push {xs = outer} around e) level both is =
    let x : Condition = joined Either level.either both in
    let found = closes e (level_with around x) _ refl in (
      Close ∷ found.0,
      found.1,
      found.2,
      run_cons _ (completed around outer x) Close found.0 _
          (close_step level around outer x (ap (option_map (λ y. joined Either level.either y)) is)) found.3,
      found.4,
    )

-- what has been read begins a filter
pub viable : (ls : List Lexeme) (read : Reading) → run nothing_read ls ≡ Some read → IsViable IsFilter ls
viable ls read e =
    let found = completes_at read.levels ls read.expected (read_holds ls read e) in
    let closed = closes (ends_of found.outer) found.level found.both found.is in (
      found.rest ++ closed.0,
      closed.2,
      read_is_filter (ls ++ (found.rest ++ closed.0)) closed.1 closed.2
          (run_then nothing_read read ls (found.rest ++ closed.0) _ e
          (run_then read (reading expected.Joint (within found.level found.outer)) found.rest closed.0 _ found.runs closed.3))
          closed.4,
    )
