use Rattle.std.proofs.Common.{◌≡◌, map, take}
use Rattle.ear_cut.specs.Areas.{point_at}
use Rattle.walk_rows.proofs.face_rows.rings_at.Given as goal

abbrev pub invariant-loop-ring : goal.invariant-loop-ring
invariant-loop-ring l = map (λ ring. ring.items) l.made.items ≡ map (map (point_at l.points)) (map (λ ring. ring.items) (take l.ring-index l.rings))
