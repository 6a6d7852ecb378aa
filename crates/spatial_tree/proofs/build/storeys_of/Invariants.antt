use Rattle.std.proofs.Common.{length}
use Rattle.spatial_tree.proofs.Listing.{IdsBefore}
use Rattle.spatial_tree.proofs.build.storeys_of.Given as goal

abbrev pub invariant-loop-instance : goal.invariant-loop-instance
invariant-loop-instance l = IdsBefore l.instances (length l.yielded) l.storeys.items
