use Rattle.std.proofs.Common.{rules}
use Rattle.std.proofs.lemmas.Fn.{always_returns_same}
use Rattle.odata_filter.proofs.Ordered.{by_places_ranks}
use Rattle.odata_filter.proofs.listing.sort.Goals as goal

pub returns-clause-sorted : goal.returns-clause-sorted
returns-clause-sorted c =
    c.sort_unstable_by.ensures.sorted _ (by_places_ranks c.args.keys.now c.args.topics.now)
    (always_returns_same _ _ _ (λ a r g k. search rules))
