use Rattle.std.proofs.Common.{List, true≢false, sym, subst, ◌∙◌}
use Rattle.bucket_grid.specs.declared.bucket_table.Bucket.{Bucket}
use Rattle.bucket_grid.specs.Grids.{GridValue}
use Rattle.bucket_grid.specs.BucketTable.{IsTable}
use Rattle.clash_delta.specs.Carried.{IsUnmovedAt}
use Rattle.clash_delta.proofs.Buckets.{none_unmoved}
use Rattle.clash_delta.proofs.carrying.carried_set.Goals as goal

pub returns-else-is_unmoved : goal.returns-else-is_unmoved
returns-else-is_unmoved c =
    let table = subst (λ (l : List Bucket). IsTable c.args.before.now.boxes l) c.buckets.ensures.buckets c.buckets.ensures.table in
    none_unmoved c.args.done.now c.args.before.now c.args.after.now c.args.version c.args.place c.args.bucket.now.cell table c.requires.reached
    (λ at. true≢false (sym (c.is_unmoved.ensures.1 (subst (λ (g : GridValue). IsUnmovedAt c.args.before.now g c.args.place c.args.bucket.now.cell) (sym c.get.ensures) at)) ∙ c.if-is_unmoved.false))
