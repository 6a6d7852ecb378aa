use Rattle.std.proofs.Common.{map, ap₂, arith, rules, ◌∙◌}
use Rattle.bucket_grid.specs.inner.BucketSlots.{bucket_of}
use Rattle.bucket_grid.proofs.OneList.{added}
use Rattle.bucket_grid.proofs.buckets.Buckets.add.Goals as goal

pub returns : goal.returns
returns c =
    ap₂ (λ list slots. map (bucket_of list) slots) c.in_ok-extend_from_slice.ensures.items c.in_ok-push.ensures.items
    ∙ added c.self.inside.members.items c.args.members.now c.self.inside.slots.items c.args.self.now _ c.self.view_is c.self.invariant (search rules) (search rules) (search arith)
