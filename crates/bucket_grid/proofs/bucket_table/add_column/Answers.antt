use Rattle.std.proofs.Common.{arith, ap₂, length, refl, sym, append-nil}
use Rattle.bucket_grid.specs.BucketTable.{if_bucket, with_z, among, column}
use Rattle.bucket_grid.proofs.Upto.{upto_more}
use Rattle.bucket_grid.proofs.Among.{dealt_at}
use Rattle.bucket_grid.proofs.Skipped.{none_more, no_column, skip_column}
use Rattle.bucket_grid.proofs.bucket_table.add_column.Goals as goal

pub returns-then-numbers-lt2-clause-buckets : goal.returns-then-numbers-lt2-clause-buckets
returns-then-numbers-lt2-clause-buckets c =
    none_more c.args.buckets.now (column c.args.spans.now c.args.low (length c.args.lists.now) c.args.numbers.now) (no_column c.args.spans.now c.args.low (length c.args.lists.now) c.args.numbers.now c.if-numbers-lt2.true)

pub loop-place-init : goal.loop-place-init
loop-place-init c = record {
  within = omega (arith, c.next-place.ensures.end, c.in_ok-deal.ensures.count_is);
  so_far =
      skip_column c.args.spans.now c.args.low c.args.numbers.now _ 0 _ c.deal.new.lists c.args.buckets.now c.args.buckets.now c.in_ok-deal.ensures c.next-place.ensures.from c.next-place.ensures.end c.next-place.ensures.empty
      (sym (append-nil c.args.buckets.now));
}

pub loop-place-preserved : goal.loop-place-preserved
loop-place-preserved c = record {
  within = omega (arith, c.next-place-in-loop-place.ensures.end, c.in_ok-deal.ensures.count_is);
  so_far =
      skip_column c.args.spans.now c.args.low c.args.numbers.now _ _ _ c.deal.new.lists c.args.buckets.now _ c.in_ok-deal.ensures c.next-place-in-loop-place.ensures.from c.next-place-in-loop-place.ensures.end c.next-place-in-loop-place.ensures.empty
      (upto_more (λ k. if_bucket (with_z c.args.low k) (among c.args.spans.now k c.args.numbers.now)) c.loop-place.place c.args.buckets.now _ _ _ c.loop-place.invariant.so_far c.in_ok-add.ensures
      (ap₂ if_bucket c.with_z.ensures (dealt_at c.args.spans.now c.args.spans.now c.args.numbers.now _ c.loop-place.place _ _ _ refl c.in_ok-deal.ensures c.count.ensures c.loop-place-test.true c.get.ensures)));
}
