-- The order of topics is a total order on their places.
use Rattle.std.proofs.Common.{ℕ, Bool, true, false, List, [], ◌∷◌, refl}
use Rattle.std.specs.Cmp.{IsTotalOrder, IsStrictWeakOrder}
use Rattle.std.specs.Ordering.{is_lt}
use Rattle.std.specs.Prelude.{slice_get}
use Rattle.std.proofs.lemmas.Cmp.{nat_cmp_total, int_cmp_total, nat_list_cmp_total, on_total, then_total, back_total}
use Rattle.std.specs.Cmp.Lexicographic.{options_total}
use Rattle.std.proofs.lemmas.List.Sorted.{ranks_by}
use Rattle.bcf_topics.specs.declared.topic.Topic.{Topic}
use Rattle.odata_filter.specs.declared.topic_members.Member.{Member}
use Rattle.odata_filter.specs.declared.topic_members.Member.TheVariants.{OfText, Index, OfDate}
use Rattle.odata_filter.specs.declared.topic_order.OrderKey.{OrderKey}
use Rattle.odata_filter.specs.TopicMembers.{text_of, date_of, index_of}
use Rattle.odata_filter.specs.TopicOrders.{by_member, turned, by_keys}
use Rattle.odata_filter.specs.Listings.{by_places}

by_member_total : (member : Member) → IsTotalOrder (by_member member)
by_member_total (OfText member) = on_total (text_of member) (options_total nat_list_cmp_total)
by_member_total Index = on_total index_of (options_total int_cmp_total)
by_member_total (OfDate member) = on_total (date_of member) (options_total nat_cmp_total)

turned_total : (falls : Bool) (member : Member) → IsTotalOrder (turned falls member)
turned_total false member = by_member_total member
turned_total true member = back_total (by_member_total member)

all_tie : IsTotalOrder (by_keys [])
unfolding by_keys
all_tie = record { antisymm = λ x y. refl; trans = λ x y z e f. e; congr = λ x y z e. refl }

by_keys_total : (keys : List OrderKey) → IsTotalOrder (by_keys keys)
unfolding by_keys
by_keys_total [] = all_tie
by_keys_total (key ∷ keys) = then_total (turned_total key.falls key.member) (by_keys_total keys)

pub by_places_total : (keys : List OrderKey) (topics : List Topic) → IsTotalOrder (by_places keys topics)
unfolding by_places
by_places_total keys topics = then_total (on_total (slice_get topics) (options_total (by_keys_total keys))) nat_cmp_total

-- as a sort asks for it
pub by_places_ranks : (keys : List OrderKey) (topics : List Topic)
    → IsStrictWeakOrder (λ (i j : ℕ). is_lt (by_places keys topics i j))
by_places_ranks keys topics = ranks_by (by_places_total keys topics) (λ i. i)
