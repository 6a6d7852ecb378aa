use Rattle.std.proofs.Common.{◌≡◌, drop}
use Rattle.http_frame.specs.Heads.{first_line}
use Rattle.http_frame.proofs.http_version.line_start.Given as goal

abbrev pub invariant-loop-at : goal.invariant-loop-at
invariant-loop-at l = first_line l.bytes ≡ first_line (drop l.at l.bytes)
