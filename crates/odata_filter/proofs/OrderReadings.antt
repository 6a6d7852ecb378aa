-- The steps of orders read their grammar.
use Rattle.std.proofs.Common.{◌≡◌, ℕ, zero, ◌≤◌, List, [], ◌∷◌, inl, inr, length, drop, Some, None, Ok, Err}
use Rattle.odata_filter.specs.declared.order_state.OrderReading.{OrderReading}
use Rattle.odata_filter.specs.declared.topic_order.OrderKey.{OrderKey}
use Rattle.odata_filter.specs.declared.filter_tokens.Token.{Token}
use Rattle.odata_filter.specs.declared.filter_error.FilterError.TheVariants.{Bad}
use Rattle.odata_filter.specs.declared.limits.TheConstants.{MOST_FILTER}
use Rattle.odata_filter.specs.FilterTokens.{tokens_from}
use Rattle.odata_filter.specs.FilterLexemes.{lexeme_of}
use Rattle.odata_filter.specs.Readings.{IsRead}
use Rattle.odata_filter.specs.OrderGrammar.{IsOrder}
use Rattle.odata_filter.specs.inner.OrderSteps.{no_order, order_step, order_ended}
use Rattle.odata_filter.proofs.TokenReading.{HasRead, Reads, has_read_more, has_read_stops, has_read_all, has_read_early}
use Rattle.odata_filter.proofs.OrderAccepts.{order_runs}
use Rattle.odata_filter.proofs.OrderHeld.{read_is_order, order_viable}

pub reads_orders : Reads no_order order_step order_ended IsOrder
reads_orders = record { accepts = order_runs; spells = read_is_order; viable = order_viable }

-- what the reading of a text of at most its greatest length answers, from what has been read of it
module _ (text : List ℕ) (short : length text ≤ MOST_FILTER) where
  -- a token that can't come
  pub order_stops : (at : ℕ) (read : OrderReading) (t : Token) → HasRead no_order order_step text at read
      → tokens_from at zero (drop at text) ≡ t ∷ tokens_from t.end zero (drop t.end text)
      → order_step read (lexeme_of text t) ≡ None → IsRead IsOrder text (Err (Bad t.at))
  order_stops at read t h cut none = inr (short, inl (has_read_stops reads_orders text at read t h cut none))

  -- all tokens, which end it
  pub order_ends : (at : ℕ) (read : OrderReading) (x : List OrderKey) → HasRead no_order order_step text at read
      → tokens_from at zero (drop at text) ≡ [] → order_ended read ≡ Some x → IsRead IsOrder text (Ok x)
  order_ends at read x h none is = (short, has_read_all reads_orders text at read x h none is)

  -- all tokens, behind which more have to come
  pub order_early : (at : ℕ) (read : OrderReading) → HasRead no_order order_step text at read
      → tokens_from at zero (drop at text) ≡ [] → order_ended read ≡ None → IsRead IsOrder text (Err (Bad (length text)))
  order_early at read h none is = inr (short, inr (has_read_early reads_orders text at read h none is))

-- one more token
pub order_goes_on : (text : List ℕ) (at : ℕ) (read next : OrderReading) (t : Token) → HasRead no_order order_step text at read
    → tokens_from at zero (drop at text) ≡ t ∷ tokens_from t.end zero (drop t.end text)
    → order_step read (lexeme_of text t) ≡ Some next → HasRead no_order order_step text t.end next
order_goes_on text at read next t h cut one = has_read_more no_order order_step text at read next t h cut one
