use Rattle.std.specs.List.{AllZip}
use Rattle.faceset.specs.Indexes.{PointsAt}
use Rattle.walk_rows.proofs.row_places.places_named.Given as goal

abbrev pub invariant-loop-value : goal.invariant-loop-value
invariant-loop-value l = AllZip (PointsAt l.count) l.yielded l.made.items
