use Rattle.std.proofs.Common.{◌+◌, ◌-◌, ◌/◌, sym, ap, ◌∙◌, arith}
use Rattle.bucket_grid.specs.Cells.{cell_cmp}
use Rattle.bucket_grid.specs.declared.bucket_table.Bucket.{Bucket}
use Rattle.bucket_grid.proofs.Searching.{go_up, go_down}
use Rattle.bucket_grid.proofs.search.place_of.Goals as goal

pub loop-low-preserved-in-Less : goal.loop-low-preserved-in-Less
loop-low-preserved-in-Less c =
    let t = c.loop-low-test.true in
    go_up c.args.buckets.now c.args.cell c.requires c.loop-low.low c.loop-low.high (c.loop-low.low + (c.loop-low.high - c.loop-low.low) / 2) c.index-buckets-middle.result c.loop-low.invariant (omega (arith, t)) (omega (arith, t)) c.index-buckets-middle.is (ap (λ (t : Bucket). cell_cmp t.cell c.args.cell) c.index-buckets-middle.is ∙ sym c.in-Less.ensures)

pub loop-low-preserved : goal.loop-low-preserved
loop-low-preserved c =
    let t = c.loop-low-test.true in
    go_down c.args.buckets.now c.args.cell c.requires c.loop-low.low c.loop-low.high (c.loop-low.low + (c.loop-low.high - c.loop-low.low) / 2) c.index-buckets-middle.result c.loop-low.invariant (omega (arith, t)) (omega (arith, t)) c.index-buckets-middle.is (ap (λ (t : Bucket). cell_cmp t.cell c.args.cell) c.index-buckets-middle.is ∙ sym c.in-Greater.ensures)
