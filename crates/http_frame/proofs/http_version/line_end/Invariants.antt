use Rattle.std.proofs.Common.{◌≡◌, drop, take}
use Rattle.http_frame.specs.Heads.{line_at}
use Rattle.http_frame.specs.inner.HeadLines.{put_before}
use Rattle.http_frame.proofs.http_version.line_end.Given as goal

abbrev pub invariant-loop-at : goal.invariant-loop-at
invariant-loop-at l = line_at l.bytes ≡ put_before (take l.at l.bytes) (line_at (drop l.at l.bytes))
