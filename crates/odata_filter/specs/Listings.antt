-- Which topics a list has, and in which order.
use Rattle.std.specs.Prelude.{◌≡◌, ℕ, ◌+◌, Bool, true, if◌then◌else◌, List, [], ◌∷◌, take, drop, Option, Some, None, slice_get}
use Rattle.std.specs.List.Sorted.{IsPermutation, IsSorted}
use Rattle.std.specs.Option.{option_cmp}
use Rattle.std.specs.declared.cmp.Ordering.{Ordering}
use Rattle.std.specs.Ordering.{nat_cmp, ordering_then}
use Rattle.bcf_topics.specs.declared.topic.Topic.{Topic}
use Rattle.odata_filter.specs.declared.topic_order.OrderKey.{OrderKey}
use Rattle.odata_filter.specs.declared.listing.Listing.{Listing}
use Rattle.odata_filter.specs.Conditions.{Condition, keeps}
use Rattle.odata_filter.specs.TopicOrders.{by_keys}

-- the filter keeps the topic; without a filter each is kept
abbrev pub kept : Option Condition → Topic → Bool
kept None topic = true
kept (Some filter) topic = keeps filter topic

-- the places of the topics that a filter keeps, rising, of topics that stand from a place on
abbrev pub kept_from : ℕ → Option Condition → List Topic → List ℕ
kept_from place filter [] = []
kept_from place filter (topic ∷ topics) =
    if kept filter topic then place ∷ kept_from (place + 1) filter topics
    else kept_from (place + 1) filter topics

-- the members to order by; none without an order
abbrev pub keys_of : Option (List OrderKey) → List OrderKey
keys_of None = []
keys_of (Some keys) = keys

-- two places by their topics, and those that tie by the places themselves
unfoldable pub by_places : List OrderKey → List Topic → ℕ → ℕ → Ordering
by_places keys topics i j =
    ordering_then (option_cmp (by_keys keys) (slice_get topics i) (slice_get topics j)) (nat_cmp i j)

-- the places of the topics that a filter keeps, each once, in their order
pub record IsOrdering (filter : Option Condition) (keys : List OrderKey) (topics : List Topic)
    (places : List ℕ) : Type 0 where
  pub kept : IsPermutation (kept_from 0 filter topics) places
  pub rises : IsSorted (by_places keys topics) places

-- at most so many of the first
abbrev pub at_most : {A : Type 0} → Option ℕ → List A → List A
at_most None list = list
at_most (Some top) list = take top list

-- the list without its first ones, and then at most so many
abbrev pub page_of : {A : Type 0} → ℕ → Option ℕ → List A → List A
page_of skip top list = at_most top (drop skip list)

-- the places of the topics that are listed
abbrev pub IsListed : Listing → List Topic → List ℕ → Type 0
IsListed listing topics places =
    (ordered : List ℕ) × IsOrdering listing.filter (keys_of listing.order) topics ordered
    × (places ≡ page_of listing.skip listing.top ordered)

-- topics are listed in one way
abbrev pub ListsAreOne : Type 0
ListsAreOne =
    (listing : Listing) (topics : List Topic) (ps qs : List ℕ) → IsListed listing topics ps
    → IsListed listing topics qs → ps ≡ qs
