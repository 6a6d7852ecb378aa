-- The grammar of orders (OData 4.01, Part 2, 5.1.2): up to four members joined by commas, each with `asc`, `desc` or
-- nothing behind it.
use Rattle.std.specs.Prelude.{◌≡◌, ℕ, ◌≤◌, Bool, true, false, List, [], ◌∷◌, ◌++◌, length, codes, Some}
use Rattle.odata_filter.specs.declared.topic_members.Member.{Member}
use Rattle.odata_filter.specs.declared.topic_order.OrderKey.{OrderKey}
use Rattle.odata_filter.specs.declared.limits.TheConstants.{MOST_ORDER_NAMES}
use Rattle.odata_filter.specs.TopicMembers.{member_named}
use Rattle.odata_filter.specs.FilterLexemes.{Lexeme, Word, Comma}

-- the directions, and whether they fall
pub data IsDirection : List Lexeme → Bool → Type 0 where
  unsaid : IsDirection [] false
  rising : IsDirection (Word (codes "asc") ∷ []) false
  falling : IsDirection (Word (codes "desc") ∷ []) true

-- a member and its direction
pub data IsKey : List Lexeme → OrderKey → Type 0 where
  key : {ls : List Lexeme} {falls : Bool} (name : List ℕ) (member : Member) → member_named name ≡ Some member
      → IsDirection ls falls → IsKey (Word name ∷ ls) (record { member = member; falls = falls })

-- one of them or more, joined by commas
pub data AreKeys : List Lexeme → List OrderKey → Type 0 where
  single : {ls : List Lexeme} {k : OrderKey} → IsKey ls k → AreKeys ls (k ∷ [])
  joined : {ls ms : List Lexeme} {k : OrderKey} {keys : List OrderKey} → AreKeys ls keys → IsKey ms k
      → AreKeys (ls ++ Comma ∷ ms) (keys ++ k ∷ [])

-- an order, and the members that it goes by
abbrev pub IsOrder : List Lexeme → List OrderKey → Type 0
IsOrder ls keys = AreKeys ls keys × (length keys ≤ MOST_ORDER_NAMES)
