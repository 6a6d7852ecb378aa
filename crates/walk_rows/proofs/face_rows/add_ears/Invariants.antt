use Rattle.std.proofs.Common.{◌≡◌, ◌++◌, map, take}
use Rattle.walk_rows.specs.Rows.{row_at}
use Rattle.walk_rows.proofs.face_rows.add_ears.Given as goal

abbrev pub invariant-loop-ear : goal.invariant-loop-ear
invariant-loop-ear l = l.rows.items ≡ l.fn.rows.items ++ map (row_at l.places) (take l.ear-index l.ears)
