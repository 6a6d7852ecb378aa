use Rattle.std.proofs.Common.{◌≡◌, ◌++◌, ◌∷◌, length, rules, sym, ap, ◌∙◌, subst}
use Rattle.std.specs.List.Sorted.{IsPermutation}
use Rattle.std.proofs.lemmas.Fn.{always_returns_same}
use Rattle.odata_filter.specs.Listings.{by_places}
use Rattle.odata_filter.specs.inner.PageFronts.{NoneBefore}
use Rattle.odata_filter.proofs.Ordered.{by_places_ranks, by_places_total}
use Rattle.odata_filter.proofs.Selection.{split_front}
use Rattle.odata_filter.proofs.listing.select.Goals as goal

pub returns : goal.returns
returns c =
    let keys = c.args.keys.now in
    let topics = c.args.topics.now in
    let s = c.select_nth_unstable_by-front in
    let same : c.in_ok-kept.kept.items ≡ s.result.0.now = c.in_ok-kept.ensures.items in
    let split = s.ensures.partitioned _ (by_places_ranks keys topics) (always_returns_same _ _ _ (λ a r g k. search rules)) in (
      s.result.1.now ∷ s.result.2.now,
      subst (λ fs. IsPermutation c.args.places.now (fs ++ (s.result.1.now ∷ s.result.2.now))) (sym same) s.ensures.permutation,
      subst (λ fs. NoneBefore (by_places keys topics) fs (s.result.1.now ∷ s.result.2.now)) (sym same)
          (split_front (by_places keys topics) (by_places_total keys topics) s.result.0.now s.result.1.now s.result.2.now split),
      ap length same ∙ s.ensures.front_len,
    )
