use Rattle.std.proofs.Common.{◌≡◌, Some, length}
use Rattle.p21_values.specs.Values.{reference_of}
use Rattle.spatial_tree.specs.inner.Onlys.{Adds}
use Rattle.spatial_tree.proofs.Adding.{AnyBefore}
use Rattle.spatial_tree.proofs.relations.add_items.Given as goal

abbrev pub invariant-loop-item : goal.invariant-loop-item
invariant-loop-item l = Adds (λ o u. AnyBefore (λ v. (reference_of v ≡ Some o) × (u ≡ l.above)) l.items (length l.yielded)) l.initial.links.items l.links.items
