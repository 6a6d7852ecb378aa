use Rattle.std.proofs.Common.{◌≡◌, length}
use Rattle.model_walk.proofs.ElementsSurfaced.{SurfacedTo}
use Rattle.model_walk.proofs.sketched_surfaces.surfaced.Given as goal

abbrev pub invariant-loop-at : goal.invariant-loop-at
invariant-loop-at l = record {
  surfaced : SurfacedTo l.stock l.fn.drawn.elements.items l.fn.drawn.sketches l.at l.elements.items;
  end : l.at-end ≡ length l.elements.items;
}
