use Rattle.std.proofs.Common.{length, ◌∙◌}
use Rattle.bucket_grid.proofs.Whole.{among_all, whole}
use Rattle.bucket_grid.proofs.grid.buckets_of.Goals as goal

pub table_of-requires-clause-among_x : goal.table_of-requires-clause-among_x
table_of-requires-clause-among_x c = among_all _ _ _ (length c.args.boxes.now) (c.deref.ensures.value ∙ c.in_ok-numbers.ensures) c.in_ok-spans_on.ensures.are.length_is c.range_on-x.ensures.few c.in_ok-spans_on.ensures.spans

pub table_of-requires-clause-among_y : goal.table_of-requires-clause-among_y
table_of-requires-clause-among_y c = among_all _ _ _ (length c.args.boxes.now) (c.deref.ensures.value ∙ c.in_ok-numbers.ensures) c.in_ok-spans_on-2.ensures.are.length_is c.range_on-y.ensures.few c.in_ok-spans_on-2.ensures.spans

pub table_of-requires-clause-among_z : goal.table_of-requires-clause-among_z
table_of-requires-clause-among_z c = among_all _ _ _ (length c.args.boxes.now) (c.deref.ensures.value ∙ c.in_ok-numbers.ensures) c.in_ok-spans_on-3.ensures.are.length_is c.range_on-z.ensures.few c.in_ok-spans_on-3.ensures.spans

pub returns : goal.returns
returns c =
    whole c.args.boxes.now _ _ _ c.corner-low.result _ _ _ _ _ _ _ _ c.corner-low.ensures.x c.corner-low.ensures.y c.corner-low.ensures.z
    c.in_ok-spans_on.ensures.are c.in_ok-spans_on-2.ensures.are c.in_ok-spans_on-3.ensures.are
    c.in_ok-spans_on.ensures.spans c.in_ok-spans_on-2.ensures.spans c.in_ok-spans_on-3.ensures.spans
    (c.deref.ensures.value ∙ c.in_ok-numbers.ensures) c.in_ok-buckets.ensures
