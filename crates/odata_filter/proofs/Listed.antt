-- What is listed, from the places that are kept.
use Rattle.std.proofs.Common.{◌≡◌, ℕ, ◌+◌, ◌<◌, Bool, true, false, List, [], ◌∷◌, ◌++◌, length, get_or, drop, sym, ap, ◌∙◌, subst, if◌then◌else◌}
use Rattle.std.specs.Prelude.{Option}
use Rattle.std.specs.List.Sorted.{IsPermutation, IsSorted}
use Rattle.std.proofs.lemmas.List.{at_drop_all, append-nil}
use Rattle.bcf_topics.specs.declared.topic.Topic.{Topic}
use Rattle.odata_filter.specs.declared.listing.Listing.{Listing}
use Rattle.odata_filter.specs.Conditions.{Condition}
use Rattle.odata_filter.specs.Listings.{kept_from, keys_of, by_places, page_of, IsListed}
use Rattle.odata_filter.specs.inner.PageFronts.{IsFront}
use Rattle.odata_filter.proofs.Ordered.{by_places_total}
use Rattle.odata_filter.proofs.Selection.{ordered, whole_order, same_page}

-- the page of the first places in their order is what is listed
pub page_is_listed : (listing : Listing) (topics : List Topic) (kept front sorted page : List ℕ)
    → kept ≡ kept_from 0 listing.filter topics
    → IsFront (by_places (keys_of listing.order) topics) listing.skip listing.top kept front
    → IsPermutation front sorted → IsSorted (by_places (keys_of listing.order) topics) sorted
    → page ≡ page_of listing.skip listing.top sorted → IsListed listing topics page
page_is_listed listing topics kept front sorted page is f p up e =
    let keys = keys_of listing.order in
    let total = by_places_total keys topics in
    let whole = whole_order (by_places keys topics) total listing.skip listing.top kept front sorted f p up in (
      sorted ++ ordered (by_places keys topics) total f.rest,
      record {
        kept = subst (λ ps. IsPermutation ps (sorted ++ ordered (by_places keys topics) total f.rest)) is whole.0;
        rises = whole.1;
      },
      e ∙ sym (same_page (by_places keys topics) total listing.skip listing.top front f.rest sorted p f.enough),
    )
