use Rattle.std.proofs.Common.{◌≡◌, ◌++◌, map}
use Rattle.bcf_viewpoints.specs.Viewpoints.{views_of}
use Rattle.bcf_viewpoints.proofs.viewpoints.list.Given as goal

abbrev pub invariant-loop-place : goal.invariant-loop-place
invariant-loop-place l = l.list.items ++ map (λ e. e.0.1) l.place-iterator ≡ views_of l.topic l.views.entries
