use Rattle.std.proofs.Common.{arith, [], length, refl, sym, subst, ◌∙◌}
use Rattle.bucket_grid.specs.Dealt.{AreDealt}
use Rattle.bucket_grid.specs.BucketTable.{slab, with_x, among}
use Rattle.bucket_grid.proofs.Upto.{upto_more}
use Rattle.bucket_grid.proofs.Among.{fewer, renamed, dealt_at, same_four}
use Rattle.bucket_grid.proofs.Skipped.{skip_table}
use Rattle.bucket_grid.proofs.bucket_table.table_of.Goals as goal

pub loop-place-init : goal.loop-place-init
loop-place-init c =
    let dealt = subst (λ s. AreDealt s c.args.numbers.now (length c.in_ok-xs.xs) c.deal.new.lists) c.as_slice.ensures c.in_ok-deal.ensures in
    record {
      within = omega (arith, c.next-place.ensures.end, c.in_ok-deal.ensures.count_is, c.in_ok-xs.ensures);
      so_far =
          skip_table c.args.axes.now.x c.args.axes.now.y c.args.axes.now.z c.args.low c.args.counts.1 c.args.counts.2 c.args.numbers.now _ 0 _ c.deal.new.lists c.in_ok-buckets.buckets dealt c.next-place.ensures.from c.next-place.ensures.end c.next-place.ensures.empty
          c.in_ok-buckets.ensures;
      count_y = c.in_ok-ys.ensures;
      count_z = c.in_ok-zs.ensures;
    }

pub add_slab-requires-clause-among_y : goal.add_slab-requires-clause-among_y
add_slab-requires-clause-among_y c =
    renamed c.args.axes.now.y _ _ c.args.counts.1 _ refl (sym c.loop-place.invariant.count_y)
    (fewer c.args.axes.now.y c.args.axes.now.x c.args.numbers.now _ c.args.counts.1 c.loop-place.place (dealt_at c.args.axes.now.x _ c.args.numbers.now _ c.loop-place.place _ _ _ c.as_slice.ensures c.in_ok-deal.ensures c.count.ensures c.loop-place-test.true c.get.ensures) c.requires.among_y)

pub add_slab-requires-clause-among_z : goal.add_slab-requires-clause-among_z
add_slab-requires-clause-among_z c =
    renamed c.args.axes.now.z _ _ c.args.counts.2 _ refl (sym c.loop-place.invariant.count_z)
    (fewer c.args.axes.now.z c.args.axes.now.x c.args.numbers.now _ c.args.counts.2 c.loop-place.place (dealt_at c.args.axes.now.x _ c.args.numbers.now _ c.loop-place.place _ _ _ c.as_slice.ensures c.in_ok-deal.ensures c.count.ensures c.loop-place-test.true c.get.ensures) c.requires.among_z)

pub loop-place-preserved : goal.loop-place-preserved
loop-place-preserved c =
    let dealt = subst (λ s. AreDealt s c.args.numbers.now (length c.in_ok-xs.xs) c.deal.new.lists) c.as_slice.ensures c.in_ok-deal.ensures in
    record {
      within = omega (arith, c.next-place-in-loop-place.ensures.end, c.in_ok-deal.ensures.count_is, c.in_ok-xs.ensures);
      so_far =
          skip_table c.args.axes.now.x c.args.axes.now.y c.args.axes.now.z c.args.low c.args.counts.1 c.args.counts.2 c.args.numbers.now _ _ _ c.deal.new.lists _ dealt c.next-place-in-loop-place.ensures.from c.next-place-in-loop-place.ensures.end
          c.next-place-in-loop-place.ensures.empty
          (upto_more (λ k. slab c.args.axes.now.y c.args.axes.now.z (with_x c.args.low k) c.args.counts.1 c.args.counts.2 (among c.args.axes.now.x k c.args.numbers.now)) c.loop-place.place [] _ _ _ c.loop-place.invariant.so_far c.in_ok-add_slab.ensures.buckets
          (same_four (slab c.args.axes.now.y c.args.axes.now.z) _ _ _ _ _ _ _ _ c.with_x-slab.ensures c.loop-place.invariant.count_y c.loop-place.invariant.count_z (dealt_at c.args.axes.now.x _ c.args.numbers.now _ c.loop-place.place _ _ _ c.as_slice.ensures c.in_ok-deal.ensures c.count.ensures c.loop-place-test.true c.get.ensures)));
      count_y = c.in_ok-add_slab.ensures.count_y ∙ c.loop-place.invariant.count_y;
      count_z = c.in_ok-add_slab.ensures.count_z ∙ c.loop-place.invariant.count_z;
    }
