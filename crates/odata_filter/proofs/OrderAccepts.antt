-- Each order is read to its end, and to the members that it names.
use Rattle.std.proofs.Common.{◌≡◌, ℕ, ◌<◌, ◌≤◌, Bool, true, false, List, [], ◌∷◌, ◌++◌, length, Option, Some, None, refl, ap, ◌∙◌, arith, codes}
use Rattle.std.specs.Prelude.{option_map}
use Rattle.std.proofs.lemmas.Bool.{lt-ltb}
use Rattle.std.proofs.lemmas.List.{length_push}
use Rattle.odata_filter.specs.declared.topic_members.Member.{Member}
use Rattle.odata_filter.specs.declared.topic_order.OrderKey.{OrderKey}
use Rattle.odata_filter.specs.declared.order_state.OrderExpected.{OrderExpected}
use Rattle.odata_filter.specs.declared.order_state.OrderExpected.TheVariants.{Name, Direction, Next}
use Rattle.odata_filter.specs.declared.order_state.OrderReading.{OrderReading}
use Rattle.odata_filter.specs.declared.limits.TheConstants.{MOST_ORDER_NAMES}
use Rattle.odata_filter.specs.TopicMembers.{member_named}
use Rattle.odata_filter.specs.FilterLexemes.{Lexeme, Word, Comma}
use Rattle.odata_filter.specs.OrderGrammar.{IsDirection, unsaid, rising, falling, IsKey, key, AreKeys, single, joined, IsOrder}
use Rattle.odata_filter.specs.inner.OrderSteps.{order_reading, no_order, with_key, with_comma, order_step_at, order_step, order_ended_at, order_ended}
use Rattle.odata_filter.proofs.Runs.{run, run_cons, run_then}
use Rattle.odata_filter.proofs.OptionFacts.{some_is}

-- tokens are read, and may end there with those members
abbrev pub ReadsTo : OrderReading → List Lexeme → List OrderKey → Type 0
ReadsTo read ls keys =
    (next : OrderReading) × (run order_step read ls ≡ Some next) × (order_ended next ≡ Some keys)

-- a member, by its direction
abbrev directed : Member → Bool → OrderKey
directed member falls = record { member = member; falls = falls }

direction_runs : {ds : List Lexeme} {falls : Bool} → IsDirection ds falls → (keys : List OrderKey) (member : Member)
    → ReadsTo (order_reading (Direction member) keys) ds (keys ++ directed member falls ∷ [])
unfolding order_step order_ended
direction_runs unsaid keys member = (order_reading (Direction member) keys, refl, refl)
direction_runs rising keys member = (with_key keys member false, refl, refl)
direction_runs falling keys member = (with_key keys member true, refl, refl)

name_step : (keys : List OrderKey) (name : List ℕ) (member : Member) → member_named name ≡ Some member
    → order_step (order_reading Name keys) (Word name) ≡ Some (order_reading (Direction member) keys)
unfolding order_step
name_step keys name member named = ap (option_map (λ (m : Member). order_reading (Direction m) keys)) named

key_runs : {ls : List Lexeme} {k : OrderKey} → IsKey ls k → (keys : List OrderKey)
    → ReadsTo (order_reading Name keys) ls (keys ++ k ∷ [])
key_runs (key {ls = ds} {falls = falls} name member named d) keys =
    let rest = direction_runs d keys member in (
      rest.0,
      run_cons order_step (order_reading Name keys) (order_reading (Direction member) keys) (Word name) ds (Some rest.0)
          (name_step keys name member named) rest.1,
      rest.2,
    )

comma_fits : (keys : List OrderKey) → length keys < MOST_ORDER_NAMES → with_comma keys ≡ Some (order_reading Name keys)
comma_fits keys few = rw (lt-ltb (length keys) MOST_ORDER_NAMES few) refl

comma_at : (held : List OrderKey) (e : OrderExpected) (keys : List OrderKey) → order_ended_at held e ≡ Some keys
    → length keys < MOST_ORDER_NAMES → order_step_at held Comma e ≡ Some (order_reading Name keys)
comma_at held Name keys is few = cc
comma_at held (Direction member) keys is few = ap with_comma (some_is is) ∙ comma_fits keys few
comma_at held Next keys is few = ap with_comma (some_is is) ∙ comma_fits keys few

-- a comma behind members that may end there
comma_step : (read : OrderReading) (keys : List OrderKey) → order_ended read ≡ Some keys
    → length keys < MOST_ORDER_NAMES → order_step read Comma ≡ Some (order_reading Name keys)
unfolding order_step order_ended
comma_step read keys is few = comma_at read.keys read.expected keys is few

keys_run : {ls : List Lexeme} {keys : List OrderKey} → AreKeys ls keys → length keys ≤ MOST_ORDER_NAMES
    → ReadsTo no_order ls keys
keys_run (single d) few = key_runs d []
keys_run (joined {ls = ls} {ms = ms} {k = k} {keys = keys} ks d) few =
    let fewer : length keys < MOST_ORDER_NAMES = omega (arith, length_push keys k) in
    let before = keys_run ks (omega arith) in
    let after = key_runs d keys in (
      after.0,
      run_then order_step no_order before.0 ls (Comma ∷ ms) (Some after.0) before.1
          (run_cons order_step before.0 (order_reading Name keys) Comma ms (Some after.0)
          (comma_step before.0 keys before.2 fewer) after.1),
      after.2,
    )

-- an order is read to its end, and to its members
pub order_runs : (ls : List Lexeme) (keys : List OrderKey) → IsOrder ls keys → ReadsTo no_order ls keys
order_runs ls keys h = keys_run h.0 h.1
