use Rattle.std.proofs.Common.{◌≡◌, ◌+◌, ◌*◌, ◌<◌, [], length, get_or, sym, ap, ◌∙◌, subst, below_more, arith}
use Rattle.std.proofs.lemmas.Bool.{OnTrue_at}
use Rattle.std.proofs.lemmas.List.{get_or_default, length-set, length_push}
use Rattle.model_walk.specs.inner.GuidSlots.{slot_seen, guids_seen, AreChained, IsLastOf, IsNew}
use Rattle.model_walk.proofs.SlotsChained.{guid_there, noted_more, chained_more, news_differ}
use Rattle.model_walk.proofs.distinct_guids.differ_by_hash.Goals as goal

pub loop-at-preserved : goal.loop-at-preserved
loop-at-preserved c =
    let size = 2 * length c.args.elements.now + 1 in
    let guids = guids_seen c.args.elements.now in
    let at = c.loop-at.at in
    let slot = c.slot_of-slot.result in
    let last = c.loop-at.last.items in
    let before = c.loop-at.before.items in
    let old = c.loop-at.invariant in
    let there = guid_there c.args.elements.now at c.index-elements-at.result c.loop-at-test.true in
    let is : slot ≡ slot_seen size (get_or guids at []) = c.slot_of-slot.ensures.same ∙ ap (slot_seen size) (sym there) in
    let w : slot < length last = omega (arith, old.slots, c.slot_of-slot.ensures.within) in
    let note : get_or last slot 0 ≡ c.index.result.now = get_or_default last slot 0 c.index.result.now w ∙ sym c.index.ensures in
    let noted : IsLastOf size guids slot at c.index.result.now = subst (IsLastOf size guids slot at) note (old.noted slot c.slot_of-slot.ensures.within) in
    let long : length c.deref-in-loop-at.result.now ≡ at = ap length c.deref-in-loop-at.ensures.value ∙ old.places in
    let new : IsNew guids at (get_or guids at []) = subst (λ n. IsNew guids n (get_or guids at [])) long (subst (IsNew guids (length c.deref-in-loop-at.result.now)) (sym there) (OnTrue_at c.if-not-is_new.false c.is_new.ensures)) in record {
      slots = length-set last slot (at + 1) ∙ old.slots;
      places = ap length c.in_ok-push.ensures.items ∙ (length_push before c.index.result.now ∙ ap (λ n. n + 1) old.places);
      noted = noted_more size guids last at slot old.slots c.slot_of-slot.ensures.within is old.noted;
      chained = subst (AreChained size guids) (sym c.in_ok-push.ensures.items) (chained_more size guids before at slot c.index.result.now old.places is noted old.chained);
      new = below_more _ _ old.new new;
    }

pub returns : goal.returns
returns c = news_differ c.args.elements.now c.loop-at.at c.loop-at-test.false c.loop-at.invariant.new
