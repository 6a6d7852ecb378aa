use Rattle.std.proofs.Common.{ap, ◌∙◌, subst}
use Rattle.std.specs.List.Sorted.{IsSorted}
use Rattle.odata_filter.specs.Listings.{by_places, page_of}
use Rattle.odata_filter.specs.inner.PageFronts.{IsFront}
use Rattle.odata_filter.proofs.Listed.{page_is_listed}
use Rattle.odata_filter.proofs.listing.Listing.places.Goals as goal

pub returns : goal.returns
returns c =
    let listing = c.args.self.now in
    let topics = c.args.topics.now in
    let kept = c.in_ok-kept.kept.items in
    let front = c.in_ok-front.front.items in
    let sorted = c.sort.new.places.items in
    page_is_listed listing topics kept front sorted c.in_ok-page.page.items c.in_ok-kept.ensures
    (subst (λ keys. IsFront (by_places keys topics) listing.skip listing.top kept front) c.keys_of-keys.ensures c.in_ok-front.ensures)
    c.sort.ensures.permutation
    (subst (λ keys. IsSorted (by_places keys topics) sorted) c.keys_of-keys.ensures c.sort.ensures.sorted)
    (c.in_ok-page.ensures ∙ ap (page_of listing.skip listing.top) c.deref.ensures.value)
