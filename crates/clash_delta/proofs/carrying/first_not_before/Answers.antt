use Rattle.std.proofs.Common.{sym, ap, ◌∙◌, arith}
use Rattle.bucket_grid.specs.declared.bucket_table.Bucket.{Bucket}
use Rattle.bucket_grid.specs.Cells.{cell_cmp}
use Rattle.bim_model.proofs.Versions.{less}
use Rattle.clash_delta.proofs.Cells.{less_more}
use Rattle.clash_delta.proofs.carrying.first_not_before.Goals as goal

pub loop-place-preserved : goal.loop-place-preserved
loop-place-preserved c = record {
  within = omega (arith, c.loop-place-test.true);
  below = less_more c.args.buckets.now c.args.cell c.loop-place.place c.index-buckets-place.result c.loop-place-test.true c.index-buckets-place.is (ap (λ (b : Bucket). cell_cmp b.cell c.args.cell) c.index-buckets-place.is ∙ sym c.cmp.ensures ∙ less c.cmp.result (sym c.is_lt.ensures ∙ c.if-is_lt.true)) c.loop-place.invariant.below;
}
