use Rattle.std.proofs.Common.{◌≡◌, ◌++◌, drop}
use Rattle.odata_filter.specs.Listings.{kept_from}
use Rattle.odata_filter.proofs.listing.kept_places.Given as goal

abbrev pub invariant-loop-topic : goal.invariant-loop-topic
invariant-loop-topic l = record {
  counted : l.place ≡ l.topic-index;
  kept : l.places.items ++ kept_from l.place l.filter (drop l.place l.topics) ≡ kept_from 0 l.filter l.topics;
}
