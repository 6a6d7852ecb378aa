use Rattle.std.proofs.Common.{◌≡◌, ◌++◌, map}
use Rattle.std.specs.List.{All}
use Rattle.bcf_viewpoints.specs.Viewpoints.{viewpoint, views_on}
use Rattle.bcf_viewpoints.proofs.Kept.{HasGood}
use Rattle.bcf_viewpoints.proofs.viewpoints.listed.Given as goal

abbrev pub invariant-loop-place : goal.invariant-loop-place
invariant-loop-place l = record {
  listed : l.list ++ map (λ e. viewpoint e.0.1 e.1) l.place-iterator ≡ views_on l.topic l.views.entries;
  good : All HasGood l.place-iterator;
}
