-- Each token of an order keeps that what has been read is spelled, and what has been read can be completed.
use Rattle.std.proofs.Common.{◌≡◌, ℕ, ◌<◌, Bool, true, false, cond, List, [], ◌∷◌, ◌++◌, length, Option, Some, None, refl, sym, ap, ◌∙◌, subst, append_assoc, arith, codes}
use Rattle.std.specs.Prelude.{option_map, nat_lt, bytes_eq}
use Rattle.std.proofs.lemmas.Bool.{ltb-true}
use Rattle.std.proofs.lemmas.List.{append-nil, length_push}
use Rattle.odata_filter.specs.declared.topic_members.TextMember.TheVariants.{Title}
use Rattle.odata_filter.specs.declared.topic_members.Member.{Member}
use Rattle.odata_filter.specs.declared.topic_members.Member.TheVariants.{OfText}
use Rattle.odata_filter.specs.declared.topic_order.OrderKey.{OrderKey}
use Rattle.odata_filter.specs.declared.order_state.OrderExpected.{OrderExpected}
use Rattle.odata_filter.specs.declared.order_state.OrderExpected.TheVariants.{Name, Direction, Next}
use Rattle.odata_filter.specs.declared.order_state.OrderReading.{OrderReading}
use Rattle.odata_filter.specs.declared.limits.TheConstants.{MOST_ORDER_NAMES}
use Rattle.odata_filter.specs.TopicMembers.{text_member, member_named}
use Rattle.odata_filter.specs.FilterLexemes.{Lexeme, Word, Quoted, Open, Close, Comma, Stray}
use Rattle.odata_filter.specs.OrderGrammar.{IsDirection, unsaid, rising, falling, IsKey, key, AreKeys, single, joined, IsOrder}
use Rattle.odata_filter.specs.Readings.{IsViable}
use Rattle.odata_filter.specs.inner.OrderSteps.{order_reading, no_order, with_key, at_name, at_direction, at_next, order_step_at, order_step, order_ended_at, order_ended}
use Rattle.odata_filter.proofs.Runs.{run, run_then, run_holds}
use Rattle.odata_filter.proofs.OptionFacts.{under_map, some_is, same_bytes}

-- where a member comes: nothing stands before it, or members and a comma
data AtName : List OrderKey → List Lexeme → Type 0 where
  nothing : AtName [] []
  behind_comma : {ls : List Lexeme} {keys : List OrderKey} → AreKeys ls keys → length keys < MOST_ORDER_NAMES
      → AtName keys (ls ++ Comma ∷ [])

-- a member, by its direction
abbrev directed : Member → Bool → OrderKey
directed member falls = record { member = member; falls = falls }

-- what stands behind what has been read, by what comes next
abbrev Holds : List OrderKey → List Lexeme → OrderExpected → Type 0
Holds keys ls Name = AtName keys ls
Holds keys ls (Direction member) =
    (before : List Lexeme) × (name : List ℕ) × AtName keys before × (member_named name ≡ Some member)
    × (ls ≡ before ++ Word name ∷ [])
Holds keys ls Next = IsOrder ls keys

-- the same of what has been read
abbrev Holding : OrderReading → List Lexeme → Type 0
Holding read ls = Holds read.keys ls read.expected

-- one more member
name_key : {keys : List OrderKey} {before : List Lexeme} → AtName keys before → (ms : List Lexeme) (k : OrderKey)
    → IsKey ms k → IsOrder (before ++ ms) (keys ++ k ∷ [])
name_key nothing ms k d = (single d, omega arith)
name_key (behind_comma {ls = ls} {keys = keys} ks few) ms k d = (
  subst (λ l. AreKeys l (keys ++ k ∷ [])) (sym (append_assoc ls (Comma ∷ []) ms)) (joined ks d),
  omega (arith, length_push keys k),
)

-- one more member and its direction
direction_key : (keys : List OrderKey) (ls : List Lexeme) (member : Member) (ds : List Lexeme) (falls : Bool)
    → Holds keys ls (Direction member) → IsDirection ds falls → IsOrder (ls ++ ds) (keys ++ directed member falls ∷ [])
direction_key keys ls member ds falls h d =
    subst (λ l. IsOrder l (keys ++ directed member falls ∷ []))
    (sym (ap (λ l. l ++ ds) h.4 ∙ append_assoc h.0 (Word h.1 ∷ []) ds))
    (name_key h.2 (Word h.1 ∷ ds) (directed member falls) (key h.1 member h.3 d))

-- one more member without a direction
unsaid_key : (keys : List OrderKey) (ls : List Lexeme) (member : Member) → Holds keys ls (Direction member)
    → IsOrder ls (keys ++ directed member false ∷ [])
unsaid_key keys ls member h =
    subst (λ l. IsOrder l (keys ++ directed member false ∷ [])) (append-nil ls)
    (direction_key keys ls member [] false h unsaid)

-- behind a comma
comma_holds : (keys : List OrderKey) (ls : List Lexeme) (next : OrderReading) (b : Bool)
    → nat_lt (length keys) MOST_ORDER_NAMES ≡ b → cond b (Some (order_reading Name keys)) None ≡ Some next
    → AreKeys ls keys → Holding next (ls ++ Comma ∷ [])
comma_holds keys ls next true is e d =
    subst (λ r. Holding r (ls ++ Comma ∷ [])) (some_is e)
    (behind_comma d (ltb-true (length keys) MOST_ORDER_NAMES is))
comma_holds keys ls next false is e d = cc

-- a word behind a member
direction_word : (keys : List OrderKey) (ls : List Lexeme) (member : Member) (word : List ℕ) (next : OrderReading)
    (a d : Bool) → bytes_eq word (codes "asc") ≡ a → bytes_eq word (codes "desc") ≡ d
    → cond a (Some (with_key keys member false)) (cond d (Some (with_key keys member true)) None) ≡ Some next
    → Holds keys ls (Direction member) → Holding next (ls ++ Word word ∷ [])
direction_word keys ls member word next true d is _ e h =
    subst (λ w. Holding next (ls ++ Word w ∷ [])) (sym (same_bytes word (codes "asc") is))
    (subst (λ r. Holding r (ls ++ Word (codes "asc") ∷ [])) (some_is e)
    (direction_key keys ls member (Word (codes "asc") ∷ []) false h rising))
direction_word keys ls member word next false true _ is e h =
    subst (λ w. Holding next (ls ++ Word w ∷ [])) (sym (same_bytes word (codes "desc") is))
    (subst (λ r. Holding r (ls ++ Word (codes "desc") ∷ [])) (some_is e)
    (direction_key keys ls member (Word (codes "desc") ∷ []) true h falling))
direction_word keys ls member word next false false _ _ e h = cc

name_holds : (keys : List OrderKey) (ls : List Lexeme) (l : Lexeme) (next : OrderReading) → at_name keys l ≡ Some next
    → AtName keys ls → Holding next (ls ++ l ∷ [])
name_holds keys ls (Word word) next e h =
    let found = under_map (λ (m : Member). order_reading (Direction m) keys) (member_named word) next e in
    subst (λ r. Holding r (ls ++ Word word ∷ [])) found.2 (ls, word, h, found.1, refl)
name_holds keys ls (Quoted text) next e h = cc
name_holds keys ls Open next e h = cc
name_holds keys ls Close next e h = cc
name_holds keys ls Comma next e h = cc
name_holds keys ls Stray next e h = cc

direction_holds : (keys : List OrderKey) (ls : List Lexeme) (member : Member) (l : Lexeme) (next : OrderReading)
    → at_direction keys member l ≡ Some next → Holds keys ls (Direction member) → Holding next (ls ++ l ∷ [])
direction_holds keys ls member (Word word) next e h =
    direction_word keys ls member word next (bytes_eq word (codes "asc")) (bytes_eq word (codes "desc")) refl refl e h
direction_holds keys ls member Comma next e h =
    comma_holds (keys ++ directed member false ∷ []) ls next
    (nat_lt (length (keys ++ directed member false ∷ [])) MOST_ORDER_NAMES) refl e (unsaid_key keys ls member h).0
direction_holds keys ls member (Quoted text) next e h = cc
direction_holds keys ls member Open next e h = cc
direction_holds keys ls member Close next e h = cc
direction_holds keys ls member Stray next e h = cc

next_holds : (keys : List OrderKey) (ls : List Lexeme) (l : Lexeme) (next : OrderReading) → at_next keys l ≡ Some next
    → IsOrder ls keys → Holding next (ls ++ l ∷ [])
next_holds keys ls Comma next e h =
    comma_holds keys ls next (nat_lt (length keys) MOST_ORDER_NAMES) refl e h.0
next_holds keys ls (Word word) next e h = cc
next_holds keys ls (Quoted text) next e h = cc
next_holds keys ls Open next e h = cc
next_holds keys ls Close next e h = cc
next_holds keys ls Stray next e h = cc

step_at_holds : (keys : List OrderKey) (ls : List Lexeme) (l : Lexeme) (e : OrderExpected) (next : OrderReading)
    → order_step_at keys l e ≡ Some next → Holds keys ls e → Holding next (ls ++ l ∷ [])
step_at_holds keys ls l Name next is h = name_holds keys ls l next is h
step_at_holds keys ls l (Direction member) next is h = direction_holds keys ls member l next is h
step_at_holds keys ls l Next next is h = next_holds keys ls l next is h

step_holds : (read next : OrderReading) (ls : List Lexeme) (l : Lexeme) → order_step read l ≡ Some next
    → Holding read ls → Holding next (ls ++ l ∷ [])
unfolding order_step
step_holds read next ls l is h = step_at_holds read.keys ls l read.expected next is h

-- what has been read of a text
read_holds : (ls : List Lexeme) (read : OrderReading) → run order_step no_order ls ≡ Some read → Holding read ls
read_holds ls read e = run_holds order_step Holding step_holds no_order read [] ls e nothing

ends_at : (held : List OrderKey) (e : OrderExpected) (ls : List Lexeme) (keys : List OrderKey)
    → order_ended_at held e ≡ Some keys → Holds held ls e → IsOrder ls keys
ends_at held Name ls keys is h = cc
ends_at held (Direction member) ls keys is h = subst (λ ks. IsOrder ls ks) (some_is is) (unsaid_key held ls member h)
ends_at held Next ls keys is h = subst (λ ks. IsOrder ls ks) (some_is is) h

-- what is read to its end is an order
pub read_is_order : (ls : List Lexeme) (read : OrderReading) (keys : List OrderKey)
    → run order_step no_order ls ≡ Some read → order_ended read ≡ Some keys → IsOrder ls keys
unfolding order_ended
read_is_order ls read keys e is = ends_at read.keys read.expected ls keys is (read_holds ls read e)

-- tokens that complete what has been read
record Completes (read : OrderReading) : Type 0 where
  rest : List Lexeme
  next : OrderReading
  keys : List OrderKey
  runs : run order_step read rest ≡ Some next
  is : order_ended next ≡ Some keys

completes_at : (keys : List OrderKey) (e : OrderExpected) → Completes (order_reading e keys)
unfolding order_step order_ended text_member
completes_at keys Name = record {
  rest = Word (codes "title") ∷ [];
  next = order_reading (Direction (OfText Title)) keys;
  keys = keys ++ directed (OfText Title) false ∷ [];
  runs = refl;
  is = refl;
}
completes_at keys (Direction member) = record {
  rest = [];
  next = order_reading (Direction member) keys;
  keys = keys ++ directed member false ∷ [];
  runs = refl;
  is = refl;
}
completes_at keys Next = record { rest = []; next = order_reading Next keys; keys = keys; runs = refl; is = refl }

-- what has been read begins an order
pub order_viable : (ls : List Lexeme) (read : OrderReading) → run order_step no_order ls ≡ Some read
    → IsViable IsOrder ls
order_viable ls read e =
    let found = completes_at read.keys read.expected in (
      found.rest,
      found.keys,
      read_is_order (ls ++ found.rest) found.next found.keys
          (run_then order_step no_order read ls found.rest (Some found.next) e found.runs) found.is,
    )
