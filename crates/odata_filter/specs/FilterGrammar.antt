-- The grammar of filters, a profile of OData 4.01 (Part 2, 5.1.1): `or` of `and` of operands, from left to right. An
-- operand is `not` and an operand, a filter in parentheses, or a test of one member.
use Rattle.std.specs.Prelude.{◌≡◌, ℕ, suc, List, [], ◌∷◌, ◌++◌, codes, bytes_eq, if◌then◌else◌, Option, Some, None, option_map}
use Rattle.odata_filter.specs.declared.topic_members.Member.{Member}
use Rattle.odata_filter.specs.declared.topic_members.Member.TheVariants.{OfText, Index, OfDate}
use Rattle.odata_filter.specs.declared.comparison.Comparison.{Comparison}
use Rattle.odata_filter.specs.declared.comparison.Comparison.TheVariants.{Equal, NotEqual, Greater, AtLeast, Less, AtMost}
use Rattle.odata_filter.specs.declared.topic_test.TopicTest.{TopicTest}
use Rattle.odata_filter.specs.declared.topic_test.TopicTest.TheVariants.{Absent, Present, Text, Number, Date, Contains, Labelled}
use Rattle.odata_filter.specs.declared.filter_state.Searched.{Searched}
use Rattle.odata_filter.specs.declared.filter_state.Searched.TheVariants.{InLabels, InMember}
use Rattle.odata_filter.specs.declared.limits.TheConstants.{MOST_NESTED}
use Rattle.odata_filter.specs.TopicMembers.{text_member, member_named}
use Rattle.odata_filter.specs.Conditions.{Condition, Tested, Negated, Both, Either}
use Rattle.odata_filter.specs.FilterLiterals.{number_in, date_in}
use Rattle.odata_filter.specs.FilterLexemes.{Lexeme, Word, Quoted, Open, Close, Comma, Stray}

-- the operator of that name
unfoldable pub comparison_named : List ℕ → Option Comparison
comparison_named name =
    if bytes_eq name (codes "eq") then Some Equal
    else (if bytes_eq name (codes "ne") then Some NotEqual
    else (if bytes_eq name (codes "gt") then Some Greater
    else (if bytes_eq name (codes "ge") then Some AtLeast
    else (if bytes_eq name (codes "lt") then Some Less
    else (if bytes_eq name (codes "le") then Some AtMost else None)))))

-- the test that `null` stands in: after `eq` and `ne` alone
abbrev pub null_test : Member → Comparison → Option TopicTest
null_test member Equal = Some (Absent member)
null_test member NotEqual = Some (Present member)
null_test member Greater = None
null_test member AtLeast = None
null_test member Less = None
null_test member AtMost = None

-- the test that a number or a date stands in
abbrev pub value_test : List ℕ → Member → Comparison → Option TopicTest
value_test word (OfText member) comparison = None
value_test word Index comparison = option_map (λ n. Number comparison n) (number_in word)
value_test word (OfDate member) comparison =
    option_map (λ moment. Date member comparison moment) (date_in word)

-- the test that a word stands in
abbrev pub word_test : List ℕ → Member → Comparison → Option TopicTest
word_test word member comparison =
    if bytes_eq word (codes "null") then null_test member comparison else value_test word member comparison

-- the test that a text stands in
abbrev pub text_test : List ℕ → Member → Comparison → Option TopicTest
text_test literal (OfText member) comparison = Some (Text member comparison literal)
text_test literal Index comparison = None
text_test literal (OfDate member) comparison = None

-- the test that a literal makes of a member and an operator
abbrev pub literal_test : Member → Comparison → Lexeme → Option TopicTest
literal_test member comparison (Word word) = word_test word member comparison
literal_test member comparison (Quoted literal) = text_test literal member comparison
literal_test member comparison Open = None
literal_test member comparison Close = None
literal_test member comparison Comma = None
literal_test member comparison Stray = None

-- what `contains` searches, by its name
abbrev pub searched_named : List ℕ → Option Searched
searched_named name =
    if bytes_eq name (codes "labels") then Some InLabels else option_map (λ m. InMember m) (text_member name)

-- the test of `contains`
abbrev pub search_test : Searched → List ℕ → TopicTest
search_test InLabels literal = Labelled literal
search_test (InMember member) literal = Contains member literal

-- a test of one member: a member, an operator and a literal, or `contains(member,'text')`
pub data IsTest : List Lexeme → TopicTest → Type 0 where
  compares : {test : TopicTest} (name word : List ℕ) (member : Member) (comparison : Comparison)
      (literal : Lexeme) → member_named name ≡ Some member → comparison_named word ≡ Some comparison
      → literal_test member comparison literal ≡ Some test
      → IsTest (Word name ∷ Word word ∷ literal ∷ []) test
  searches : (name literal : List ℕ) (searched : Searched) → searched_named name ≡ Some searched
      → IsTest (Word (codes "contains") ∷ Open ∷ Word name ∷ Comma ∷ Quoted literal ∷ Close ∷ [])
      (search_test searched literal)

-- the parts of a filter, by how tightly they bind
pub data Part : Type 0 where
  Operand Conjunction Disjunction : Part

-- What a part of a filter is, in which so many `not` and `(` may still be open within each other, and what it
-- means.
pub data Spells : Part → ℕ → List Lexeme → Condition → Type 0 where
  test : {room : ℕ} {ls : List Lexeme} {t : TopicTest} → IsTest ls t → Spells Operand room ls (Tested t)
  negation : {room : ℕ} {ls : List Lexeme} {x : Condition} → Spells Operand room ls x
      → Spells Operand (suc room) (Word (codes "not") ∷ ls) (Negated x)
  group : {room : ℕ} {ls : List Lexeme} {x : Condition} → Spells Disjunction room ls x
      → Spells Operand (suc room) (Open ∷ (ls ++ Close ∷ [])) x
  first : {room : ℕ} {ls : List Lexeme} {x : Condition} → Spells Operand room ls x
      → Spells Conjunction room ls x
  more : {room : ℕ} {ls ms : List Lexeme} {x y : Condition} → Spells Conjunction room ls x
      → Spells Operand room ms y → Spells Conjunction room (ls ++ Word (codes "and") ∷ ms) (Both x y)
  only : {room : ℕ} {ls : List Lexeme} {x : Condition} → Spells Conjunction room ls x
      → Spells Disjunction room ls x
  other : {room : ℕ} {ls ms : List Lexeme} {x y : Condition} → Spells Disjunction room ls x
      → Spells Conjunction room ms y → Spells Disjunction room (ls ++ Word (codes "or") ∷ ms) (Either x y)

-- a filter, and what it means
abbrev pub IsFilter : List Lexeme → Condition → Type 0
IsFilter ls x = Spells Disjunction MOST_NESTED ls x
