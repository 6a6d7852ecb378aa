use Rattle.std.proofs.Common.{length}
use Rattle.spatial_tree.specs.Relations.{Relates}
use Rattle.spatial_tree.specs.inner.Onlys.{Adds}
use Rattle.spatial_tree.proofs.Adding.{AnyBefore}
use Rattle.spatial_tree.proofs.relations.add_instances.Given as goal

abbrev pub invariant-loop-instance : goal.invariant-loop-instance
invariant-loop-instance l = Adds (λ o u. AnyBefore (λ i. Relates l.entity l.many l.one i o u) l.instances (length l.yielded)) l.initial.links.items l.links.items
