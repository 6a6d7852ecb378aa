-- How the tokens of an order are read one by one.
use Rattle.std.specs.Prelude.{ℕ, nat_lt, Bool, true, false, List, [], ◌∷◌, ◌++◌, length, codes, bytes_eq, if◌then◌else◌, Option, Some, None, option_map}
use Rattle.odata_filter.specs.declared.topic_members.Member.{Member}
use Rattle.odata_filter.specs.declared.topic_order.OrderKey.{OrderKey}
use Rattle.odata_filter.specs.declared.order_state.OrderExpected.{OrderExpected}
use Rattle.odata_filter.specs.declared.order_state.OrderExpected.TheVariants.{Name, Direction, Next}
use Rattle.odata_filter.specs.declared.order_state.OrderReading.{OrderReading}
use Rattle.odata_filter.specs.declared.limits.TheConstants.{MOST_ORDER_NAMES}
use Rattle.odata_filter.specs.TopicMembers.{member_named}
use Rattle.odata_filter.specs.FilterLexemes.{Lexeme, Word, Quoted, Open, Close, Comma, Stray}

-- those members, where that comes next
abbrev pub order_reading : OrderExpected → List OrderKey → OrderReading
order_reading expected keys = record { expected = expected; keys = keys }

-- nothing read yet
abbrev pub no_order : OrderReading
no_order = order_reading Name []

-- one more member to order by
abbrev pub with_key : List OrderKey → Member → Bool → OrderReading
with_key keys member falls =
    order_reading Next (keys ++ record { member = member; falls = falls } ∷ [])

-- behind a comma, where one more member may come
abbrev pub with_comma : List OrderKey → Option OrderReading
with_comma keys = if nat_lt (length keys) MOST_ORDER_NAMES then Some (order_reading Name keys) else None

-- behind a direction
abbrev pub with_direction : List OrderKey → Member → List ℕ → Option OrderReading
with_direction keys member word =
    if bytes_eq word (codes "asc") then Some (with_key keys member false)
    else (if bytes_eq word (codes "desc") then Some (with_key keys member true) else None)

-- where a member comes
abbrev pub at_name : List OrderKey → Lexeme → Option OrderReading
at_name keys (Word word) = option_map (λ m. order_reading (Direction m) keys) (member_named word)
at_name keys (Quoted text) = None
at_name keys Open = None
at_name keys Close = None
at_name keys Comma = None
at_name keys Stray = None

-- behind a member
abbrev pub at_direction : List OrderKey → Member → Lexeme → Option OrderReading
at_direction keys member (Word word) = with_direction keys member word
at_direction keys member Comma = with_comma (with_key keys member false).keys
at_direction keys member (Quoted text) = None
at_direction keys member Open = None
at_direction keys member Close = None
at_direction keys member Stray = None

-- behind a direction
abbrev pub at_next : List OrderKey → Lexeme → Option OrderReading
at_next keys Comma = with_comma keys
at_next keys (Word word) = None
at_next keys (Quoted text) = None
at_next keys Open = None
at_next keys Close = None
at_next keys Stray = None

-- what has been read with one more token, by what comes next; none where the token can't come there
abbrev pub order_step_at : List OrderKey → Lexeme → OrderExpected → Option OrderReading
order_step_at keys lexeme Name = at_name keys lexeme
order_step_at keys lexeme (Direction member) = at_direction keys member lexeme
order_step_at keys lexeme Next = at_next keys lexeme

-- the same
unfoldable pub order_step : OrderReading → Lexeme → Option OrderReading
order_step read lexeme = order_step_at read.keys lexeme read.expected

-- the members at the end of the text, where it may end
abbrev pub order_ended_at : List OrderKey → OrderExpected → Option (List OrderKey)
order_ended_at keys Name = None
order_ended_at keys (Direction member) = Some (with_key keys member false).keys
order_ended_at keys Next = Some keys

-- the same
unfoldable pub order_ended : OrderReading → Option (List OrderKey)
order_ended read = order_ended_at read.keys read.expected
