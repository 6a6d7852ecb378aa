-- The steps of filters read their grammar.
use Rattle.std.proofs.Common.{◌≡◌, ℕ, zero, ◌≤◌, List, [], ◌∷◌, inl, inr, length, drop, Some, None, Ok, Err}
use Rattle.odata_filter.specs.declared.filter_state.Reading.{Reading}
use Rattle.odata_filter.specs.declared.filter_tokens.Token.{Token}
use Rattle.odata_filter.specs.declared.filter_error.FilterError.TheVariants.{Bad}
use Rattle.odata_filter.specs.declared.limits.TheConstants.{MOST_FILTER}
use Rattle.odata_filter.specs.FilterTokens.{tokens_from}
use Rattle.odata_filter.specs.FilterLexemes.{lexeme_of}
use Rattle.odata_filter.specs.Readings.{IsRead}
use Rattle.odata_filter.specs.Conditions.{Condition}
use Rattle.odata_filter.specs.FilterGrammar.{IsFilter}
use Rattle.odata_filter.specs.inner.FilterSteps.{nothing_read, step, ended}
use Rattle.odata_filter.proofs.TokenReading.{HasRead, Reads, has_read_more, has_read_stops, has_read_all, has_read_early}
use Rattle.odata_filter.proofs.Accepts.{filter_runs}
use Rattle.odata_filter.proofs.Held.{read_is_filter}
use Rattle.odata_filter.proofs.Viable.{viable}

pub reads_filters : Reads nothing_read step ended IsFilter
reads_filters = record { accepts = filter_runs; spells = read_is_filter; viable = viable }

-- what the reading of a text of at most its greatest length answers, from what has been read of it
module _ (text : List ℕ) (short : length text ≤ MOST_FILTER) where
  -- a token that can't come
  pub filter_stops : (at : ℕ) (read : Reading) (t : Token) → HasRead nothing_read step text at read
      → tokens_from at zero (drop at text) ≡ t ∷ tokens_from t.end zero (drop t.end text)
      → step read (lexeme_of text t) ≡ None → IsRead IsFilter text (Err (Bad t.at))
  filter_stops at read t h cut none = inr (short, inl (has_read_stops reads_filters text at read t h cut none))

  -- all tokens, which end it
  pub filter_ends : (at : ℕ) (read : Reading) (x : Condition) → HasRead nothing_read step text at read
      → tokens_from at zero (drop at text) ≡ [] → ended read ≡ Some x → IsRead IsFilter text (Ok x)
  filter_ends at read x h none is = (short, has_read_all reads_filters text at read x h none is)

  -- all tokens, behind which more have to come
  pub filter_early : (at : ℕ) (read : Reading) → HasRead nothing_read step text at read
      → tokens_from at zero (drop at text) ≡ [] → ended read ≡ None → IsRead IsFilter text (Err (Bad (length text)))
  filter_early at read h none is = inr (short, inr (has_read_early reads_filters text at read h none is))

-- one more token
pub filter_goes_on : (text : List ℕ) (at : ℕ) (read next : Reading) (t : Token) → HasRead nothing_read step text at read
    → tokens_from at zero (drop at text) ≡ t ∷ tokens_from t.end zero (drop t.end text)
    → step read (lexeme_of text t) ≡ Some next → HasRead nothing_read step text t.end next
filter_goes_on text at read next t h cut one = has_read_more nothing_read step text at read next t h cut one
