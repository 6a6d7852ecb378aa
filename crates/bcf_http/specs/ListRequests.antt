-- How the topics of a project are listed: by the texts of a query, as they are read.
use Rattle.std.specs.Prelude.{◌≡◌, ◌⊎◌, ℕ, Bool, true, false, List, Option, Some, None, Result, Ok, Err, unwrap_or, ⊤}
use Rattle.std.specs.List.{slice_get, filter_map}
use Rattle.bcf_topics.specs.declared.topic.Topic.{Topic}
use Rattle.odata_filter.specs.declared.filter_error.FilterError.TheVariants.{Bad}
use Rattle.odata_filter.specs.declared.listing.Listing.{Listing}
use Rattle.odata_filter.specs.FilterLexemes.{Lexeme}
use Rattle.odata_filter.specs.FilterGrammar.{IsFilter}
use Rattle.odata_filter.specs.OrderGrammar.{IsOrder}
use Rattle.odata_filter.specs.Readings.{IsRead}
use Rattle.http_routes.specs.declared.list_query.ListAsked.{ListAsked}
use Rattle.bcf_http.specs.declared.asked.RequestFault.{RequestFault}
use Rattle.bcf_http.specs.declared.asked.RequestFault.TheVariants as request
use Rattle.bcf_http.specs.declared.asked.Refusal.{Refusal}
use Rattle.bcf_http.specs.declared.asked.Refusal.TheVariants.{Fault, Memory}

-- what a text that may be missing spells by a grammar: nothing, where there is none
abbrev pub SpellsIf : {A : Type 0} → (List Lexeme → A → Type 0) → Option (List ℕ) → Option A → Type 0
SpellsIf Means None found = found ≡ None
SpellsIf Means (Some text) None = ⊥
SpellsIf Means (Some text) (Some value) = IsRead Means text (Ok value)

-- the text goes on at this place as none of the grammar does
abbrev pub IsBadAt : {A : Type 0} → (List Lexeme → A → Type 0) → Option (List ℕ) → ℕ → Type 0
IsBadAt Means None at = ⊥
IsBadAt Means (Some text) at = IsRead Means text (Err (Bad at))

-- the listing that a query asks for
pub record AsksListing (asked : ListAsked) (listing : Listing) : Type 0 where
  pub filter : SpellsIf IsFilter asked.filter listing.filter
  pub order : SpellsIf IsOrder asked.order listing.order
  pub skip : listing.skip ≡ unwrap_or asked.skip 0
  pub top : listing.top ≡ asked.top

-- the text of the filter is bad
abbrev pub RefusesFilter : ListAsked → RequestFault → Type 0
RefusesFilter asked fault = (at : ℕ) × IsBadAt IsFilter asked.filter at × (fault ≡ request.Filter at)

-- that of the order is, and the one of the filter is none or spells one
abbrev pub RefusesOrder : ListAsked → RequestFault → Type 0
RefusesOrder asked fault =
    (at : ℕ) × ((found : _) × SpellsIf IsFilter asked.filter found) × IsBadAt IsOrder asked.order at
    × (fault ≡ request.Order at)

-- the turn that is given is bad, and the query asks for a listing
abbrev pub RefusesTurn : ListAsked → Bool → RequestFault → Type 0
RefusesTurn asked bad_turn fault =
    ((listing : Listing) × AsksListing asked listing) × (bad_turn ≡ true) × (fault ≡ request.BadTurn)

-- why a request for a list is refused: by its filter, then by its order, then by the turn that it gives
abbrev pub RefusesListing : ListAsked → Bool → RequestFault → Type 0
RefusesListing asked bad_turn fault =
    RefusesFilter asked fault ⊎ (RefusesOrder asked fault ⊎ RefusesTurn asked bad_turn fault)

-- the answer is the listing that is asked for, or why none is, or out of memory
abbrev pub IsListingOf : ListAsked → Bool → Result Listing Refusal → Type 0
IsListingOf asked bad_turn (Ok listing) = AsksListing asked listing × (bad_turn ≡ false)
IsListingOf asked bad_turn (Err (Fault fault)) = RefusesListing asked bad_turn fault
IsListingOf asked bad_turn (Err Memory) = ⊤

-- a request for a list has one answer, but for want of memory
abbrev pub ListRequestsHaveOneAnswer : Type 0
ListRequestsHaveOneAnswer =
    (asked : ListAsked) (bad_turn : Bool) (r s : Result Listing Refusal) → IsListingOf asked bad_turn r
    → IsListingOf asked bad_turn s → (r ≡ s) ⊎ ((r ≡ Err Memory) ⊎ (s ≡ Err Memory))

-- the topics at places of a list
abbrev pub topics_at : List Topic → List ℕ → List Topic
topics_at topics places = filter_map (slice_get topics) places
