use Rattle.std.proofs.Common.{◌≡◌, ℕ, Contains}
use Rattle.spatial_tree.proofs.Adding.{AnyBefore}
use Rattle.spatial_tree.proofs.step.push_objects.Given as goal

abbrev pub invariant-loop-link : goal.invariant-loop-link
invariant-loop-link l = record {
  keeps : (object : ℕ) → Contains l.initial.objects.items object → Contains l.objects.items object;
  all : (object : ℕ) → AnyBefore (λ x. x.object ≡ object) l.links l.link-index → Contains l.objects.items object;
}
