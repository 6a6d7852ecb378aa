use Rattle.std.proofs.Common.{arith, length, refl, sym, subst, ◌∙◌, append-nil}
use Rattle.bucket_grid.specs.Dealt.{AreDealt}
use Rattle.bucket_grid.specs.BucketTable.{column, slab, with_y, among}
use Rattle.bucket_grid.proofs.Upto.{upto_more}
use Rattle.bucket_grid.proofs.Among.{fewer, renamed, dealt_at, same_four}
use Rattle.bucket_grid.proofs.Skipped.{none_more, no_slab, skip_slab}
use Rattle.bucket_grid.proofs.bucket_table.add_slab.Goals as goal

pub returns-then-numbers-lt2-clause-buckets : goal.returns-then-numbers-lt2-clause-buckets
returns-then-numbers-lt2-clause-buckets c =
    none_more c.args.buckets.now (slab c.args.axes.now.y c.args.axes.now.z c.args.low (length c.args.ys.now) (length c.args.zs.now) c.args.numbers.now)
    (no_slab c.args.axes.now.y c.args.axes.now.z c.args.low (length c.args.ys.now) (length c.args.zs.now) c.args.numbers.now c.if-numbers-lt2.true)

pub loop-place-init : goal.loop-place-init
loop-place-init c =
    let dealt = subst (λ s. AreDealt s c.args.numbers.now (length c.args.ys.now) c.deal.new.lists) c.as_slice.ensures c.in_ok-deal.ensures in
    record {
      within = omega (arith, c.next-place.ensures.end, c.in_ok-deal.ensures.count_is);
      so_far =
          skip_slab c.args.axes.now.y c.args.axes.now.z c.args.low (length c.args.zs.now) c.args.numbers.now _ 0 _ c.deal.new.lists c.args.buckets.now c.args.buckets.now dealt c.next-place.ensures.from c.next-place.ensures.end c.next-place.ensures.empty
          (sym (append-nil c.args.buckets.now));
      count = refl;
    }

pub add_column-requires-clause-among : goal.add_column-requires-clause-among
add_column-requires-clause-among c =
    renamed c.args.axes.now.z _ _ (length c.args.zs.now) _ (sym c.as_slice-in-loop-place.ensures) (sym c.loop-place.invariant.count)
    (fewer c.args.axes.now.z c.args.axes.now.y c.args.numbers.now _ (length c.args.zs.now) c.loop-place.place (dealt_at c.args.axes.now.y _ c.args.numbers.now _ c.loop-place.place _ _ _ c.as_slice.ensures c.in_ok-deal.ensures c.count.ensures c.loop-place-test.true c.get.ensures) c.requires.among_z)

pub loop-place-preserved : goal.loop-place-preserved
loop-place-preserved c =
    let dealt = subst (λ s. AreDealt s c.args.numbers.now (length c.args.ys.now) c.deal.new.lists) c.as_slice.ensures c.in_ok-deal.ensures in
    record {
      within = omega (arith, c.next-place-in-loop-place.ensures.end, c.in_ok-deal.ensures.count_is);
      so_far =
          skip_slab c.args.axes.now.y c.args.axes.now.z c.args.low (length c.args.zs.now) c.args.numbers.now _ _ _ c.deal.new.lists c.args.buckets.now _ dealt c.next-place-in-loop-place.ensures.from c.next-place-in-loop-place.ensures.end
          c.next-place-in-loop-place.ensures.empty
          (upto_more (λ k. column c.args.axes.now.z (with_y c.args.low k) (length c.args.zs.now) (among c.args.axes.now.y k c.args.numbers.now)) c.loop-place.place c.args.buckets.now _ _ _ c.loop-place.invariant.so_far c.in_ok-add_column.ensures.buckets
          (same_four column _ _ _ _ _ _ _ _ c.as_slice-in-loop-place.ensures c.with_y-column.ensures c.loop-place.invariant.count (dealt_at c.args.axes.now.y _ c.args.numbers.now _ c.loop-place.place _ _ _ c.as_slice.ensures c.in_ok-deal.ensures c.count.ensures c.loop-place-test.true c.get.ensures)));
      count = c.in_ok-add_column.ensures.count ∙ c.loop-place.invariant.count;
    }
