-- The order of topics by up to four members.
use Rattle.std.specs.Prelude.{Bool, true, false, List, [], ◌∷◌}
use Rattle.std.specs.Option.{option_cmp}
use Rattle.std.specs.declared.cmp.Ordering.{Ordering}
use Rattle.std.specs.declared.cmp.Ordering.TheVariants.{Equal}
use Rattle.std.specs.Ordering.{nat_cmp, int_cmp, ordering_then}
use Rattle.std.specs.Cmp.Lexicographic.{slice_cmp}
use Rattle.bcf_topics.specs.declared.topic.Topic.{Topic}
use Rattle.odata_filter.specs.declared.topic_members.Member.{Member}
use Rattle.odata_filter.specs.declared.topic_members.Member.TheVariants.{OfText, Index, OfDate}
use Rattle.odata_filter.specs.declared.topic_order.OrderKey.{OrderKey}
use Rattle.odata_filter.specs.TopicMembers.{text_of, date_of, index_of}

-- two topics by one member: what is absent comes before what is there
abbrev pub by_member : Member → Topic → Topic → Ordering
by_member (OfText member) x y = option_cmp (slice_cmp nat_cmp) (text_of member x) (text_of member y)
by_member Index x y = option_cmp int_cmp (index_of x) (index_of y)
by_member (OfDate member) x y = option_cmp nat_cmp (date_of member x) (date_of member y)

-- the same, or the other way round
abbrev pub turned : Bool → Member → Topic → Topic → Ordering
turned false member x y = by_member member x y
turned true member x y = by_member member y x

-- two topics by each member in turn
unfoldable pub by_keys : List OrderKey → Topic → Topic → Ordering
by_keys [] x y = Equal
by_keys (key ∷ keys) x y = ordering_then (turned key.falls key.member x y) (by_keys keys x y)
