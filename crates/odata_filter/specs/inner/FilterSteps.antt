-- How the tokens of a filter are read one by one. What has been read is an operand that may be incomplete, behind what
-- `and` and `or` have joined before it, within each pair of parentheses that is open.
use Rattle.std.specs.Prelude.{ℕ, zero, suc, ◌+◌, ◌-◌, nat_lt, List, [], ◌∷◌, ◌++◌, codes, bytes_eq, if◌then◌else◌, Option, Some, None, option_map}
use Rattle.odata_filter.specs.declared.topic_members.Member.{Member}
use Rattle.odata_filter.specs.declared.comparison.Comparison.{Comparison}
use Rattle.odata_filter.specs.declared.topic_test.TopicTest.{TopicTest}
use Rattle.odata_filter.specs.declared.filter_state.Searched.{Searched}
use Rattle.odata_filter.specs.declared.filter_state.Expected.{Expected}
use Rattle.odata_filter.specs.declared.filter_state.Expected.TheVariants.{Operand, Operator, Literal, SearchOpen, SearchMember, SearchComma, SearchText, SearchClose, Joint}
use Rattle.odata_filter.specs.declared.filter_state.Level.{Level}
use Rattle.odata_filter.specs.declared.filter_state.Levels.{Levels}
use Rattle.odata_filter.specs.declared.filter_state.Reading.{Reading}
use Rattle.odata_filter.specs.declared.limits.TheConstants.{MOST_NESTED}
use Rattle.odata_filter.specs.TopicMembers.{member_named}
use Rattle.odata_filter.specs.Conditions.{Condition, Tested, Negated, Both, Either}
use Rattle.odata_filter.specs.FilterLexemes.{Lexeme, Word, Quoted, Open, Close, Comma, Stray}
use Rattle.odata_filter.specs.FilterGrammar.{comparison_named, literal_test, searched_named, search_test}

-- nothing, within parentheses behind so many `not` and `(`
abbrev pub empty_level : ℕ → Level
empty_level depth = record { either = None; both = None; base = depth; depth = depth }

-- those levels, where that comes next
abbrev pub reading : Expected → Levels → Reading
reading expected levels = record { expected = expected; levels = levels }

-- nothing yet
abbrev pub nothing_read : Reading
nothing_read = reading Operand (record { inner = empty_level 0; outer = [] })

-- a filter behind so many `not`
abbrev pub negated : ℕ → Condition → Condition
negated zero x = x
negated (suc n) x = Negated (negated n x)

-- a filter behind those before it, if there are any
abbrev pub joined : (Condition → Condition → Condition) → Option Condition → Condition → Condition
joined join None x = x
joined join (Some before) x = join before x

-- an operand of a level stands complete: its `not` end here, and it joins those before it by `and`
abbrev pub level_with : Level → Condition → Level
level_with level x = record {
  either = level.either;
  both = Some (joined Both level.both (negated (level.depth - level.base) x));
  base = level.base;
  depth = level.base;
}

-- the same within levels
abbrev pub completed : Level → List Level → Condition → Reading
completed level outer x = reading Joint (record { inner = level_with level x; outer = outer })

-- the filter that a level has come to: what `and` joined, behind what `or` joined
abbrev pub closed : Level → Option Condition
closed level = option_map (λ x. joined Either level.either x) level.both

-- behind `not`, where one more may be open
abbrev pub with_not : Levels → Option Reading
with_not levels =
    if nat_lt levels.inner.depth MOST_NESTED then
    Some (reading Operand (record levels { inner = record levels.inner { depth = levels.inner.depth + 1 } }))
    else None

-- behind `(`, where one more may be open
abbrev pub with_group : Levels → Option Reading
with_group levels =
    if nat_lt levels.inner.depth MOST_NESTED then
    Some (reading Operand (record {
      inner = empty_level (levels.inner.depth + 1);
      outer = levels.outer ++ levels.inner ∷ [];
    }))
    else None

-- behind `or`, which a filter stands before
abbrev pub with_or : Levels → Option Condition → Option Reading
with_or levels None = None
with_or levels (Some x) =
    Some (reading Operand (record {
      inner = record { either = Some x; both = None; base = levels.inner.base; depth = levels.inner.depth };
      outer = levels.outer;
    }))

-- a list's first one put before what is left of it and its last one
abbrev pub behind : {A : Type 0} → A → Option (List A × A) → List A × A
behind x None = ([], x)
behind x (Some found) = (x ∷ found.0, found.1)

-- a list without its last one, and that one
abbrev pub split_last : {A : Type 0} → List A → Option (List A × A)
split_last [] = None
split_last (x ∷ xs) = Some (behind x (split_last xs))

-- behind `)`: the filter in the parentheses is an operand of the level around them
abbrev pub without_group : Option (List Level × Level) → Option Condition → Option Reading
without_group None found = None
without_group (Some levels) None = None
without_group (Some levels) (Some x) = Some (completed levels.1 levels.0 x)

-- a test is an operand that stands complete
abbrev pub tested : Levels → TopicTest → Reading
tested levels test = completed levels.inner levels.outer (Tested test)

-- a word where an operand begins, by the member of that name
abbrev pub operand_word : Levels → List ℕ → Option Member → Option Reading
operand_word levels word (Some member) = Some (reading (Operator member) levels)
operand_word levels word None =
    if bytes_eq word (codes "not") then with_not levels
    else (if bytes_eq word (codes "contains") then Some (reading SearchOpen levels) else None)

-- where an operand begins
abbrev pub at_operand : Levels → Lexeme → Option Reading
at_operand levels (Word word) = operand_word levels word (member_named word)
at_operand levels Open = with_group levels
at_operand levels (Quoted text) = None
at_operand levels Close = None
at_operand levels Comma = None
at_operand levels Stray = None

-- where an operator comes
abbrev pub at_operator : Levels → Member → Lexeme → Option Reading
at_operator levels member (Word word) =
    option_map (λ c. reading (Literal member c) levels) (comparison_named word)
at_operator levels member (Quoted text) = None
at_operator levels member Open = None
at_operator levels member Close = None
at_operator levels member Comma = None
at_operator levels member Stray = None

-- where a literal comes
abbrev pub at_literal : Levels → Member → Comparison → Lexeme → Option Reading
at_literal levels member comparison lexeme =
    option_map (λ test. tested levels test) (literal_test member comparison lexeme)

-- where the parenthesis behind `contains` comes
abbrev pub at_search_open : Levels → Lexeme → Option Reading
at_search_open levels Open = Some (reading SearchMember levels)
at_search_open levels (Word word) = None
at_search_open levels (Quoted text) = None
at_search_open levels Close = None
at_search_open levels Comma = None
at_search_open levels Stray = None

-- where the member comes that `contains` searches
abbrev pub at_search_member : Levels → Lexeme → Option Reading
at_search_member levels (Word word) = option_map (λ s. reading (SearchComma s) levels) (searched_named word)
at_search_member levels (Quoted text) = None
at_search_member levels Open = None
at_search_member levels Close = None
at_search_member levels Comma = None
at_search_member levels Stray = None

-- where the comma of `contains` comes
abbrev pub at_search_comma : Levels → Searched → Lexeme → Option Reading
at_search_comma levels searched Comma = Some (reading (SearchText searched) levels)
at_search_comma levels searched (Word word) = None
at_search_comma levels searched (Quoted text) = None
at_search_comma levels searched Open = None
at_search_comma levels searched Close = None
at_search_comma levels searched Stray = None

-- where the text of `contains` comes
abbrev pub at_search_text : Levels → Searched → Lexeme → Option Reading
at_search_text levels searched (Quoted text) = Some (reading (SearchClose (search_test searched text)) levels)
at_search_text levels searched (Word word) = None
at_search_text levels searched Open = None
at_search_text levels searched Close = None
at_search_text levels searched Comma = None
at_search_text levels searched Stray = None

-- where the parenthesis comes that ends `contains`
abbrev pub at_search_close : Levels → TopicTest → Lexeme → Option Reading
at_search_close levels test Close = Some (tested levels test)
at_search_close levels test (Word word) = None
at_search_close levels test (Quoted text) = None
at_search_close levels test Open = None
at_search_close levels test Comma = None
at_search_close levels test Stray = None

-- a word where operands are joined
abbrev pub joint_word : Levels → List ℕ → Option Reading
joint_word levels word =
    if bytes_eq word (codes "and") then Some (reading Operand levels)
    else (if bytes_eq word (codes "or") then with_or levels (closed levels.inner) else None)

-- where operands are joined
abbrev pub at_joint : Levels → Lexeme → Option Reading
at_joint levels (Word word) = joint_word levels word
at_joint levels Close = without_group (split_last levels.outer) (closed levels.inner)
at_joint levels (Quoted text) = None
at_joint levels Open = None
at_joint levels Comma = None
at_joint levels Stray = None

-- what has been read with one more token, by what comes next; none where the token can't come there
abbrev pub step_at : Levels → Lexeme → Expected → Option Reading
step_at levels lexeme Operand = at_operand levels lexeme
step_at levels lexeme (Operator member) = at_operator levels member lexeme
step_at levels lexeme (Literal member comparison) = at_literal levels member comparison lexeme
step_at levels lexeme SearchOpen = at_search_open levels lexeme
step_at levels lexeme SearchMember = at_search_member levels lexeme
step_at levels lexeme (SearchComma searched) = at_search_comma levels searched lexeme
step_at levels lexeme (SearchText searched) = at_search_text levels searched lexeme
step_at levels lexeme (SearchClose test) = at_search_close levels test lexeme
step_at levels lexeme Joint = at_joint levels lexeme

-- the same
unfoldable pub step : Reading → Lexeme → Option Reading
step read lexeme = step_at read.levels lexeme read.expected

-- the filter at the end of the text, where it may end: behind an operand, outside all parentheses
abbrev pub ended_at : Levels → List Level → Expected → Option Condition
ended_at levels [] Joint = closed levels.inner
ended_at levels _ _ = None

-- the same
unfoldable pub ended : Reading → Option Condition
ended read = ended_at read.levels read.levels.outer read.expected
