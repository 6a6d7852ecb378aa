use Rattle.std.proofs.Common.{◌≡◌, drop}
use Rattle.http_frame.specs.Scan.{spot_run}
use Rattle.http_frame.proofs.field_lines.walk_on.Given as goal

abbrev pub invariant-loop-b : goal.invariant-loop-b
invariant-loop-b l = spot_run l.here (drop l.b-index l.bytes) ≡ spot_run l.fn.spot l.bytes
