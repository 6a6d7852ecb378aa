use Rattle.std.proofs.Common.{◌≡◌, map, take}
use Rattle.bucket_grid.specs.inner.BucketSlots.{bucket_of}
use Rattle.bucket_grid.proofs.buckets.buckets_in.Given as goal

abbrev pub invariant-loop-slot : goal.invariant-loop-slot
invariant-loop-slot l = l.buckets.items ≡ map (bucket_of l.list) (take l.slot-index l.slots)
