use Rattle.std.proofs.Common.{◌+◌, ◌*◌, ◌<◌, ℕ}
use Rattle.std.specs.Prelude.{slice_index_or}
use Rattle.ear_cut.specs.inner.CornerFrames.{run, point_frame, IsRound}
use Rattle.ear_cut.proofs.corner_frames.renew_frames.Given as goal

abbrev pub invariant-loop-b : goal.invariant-loop-b
invariant-loop-b l = (j : ℕ) → j < l.b → IsRound l.view l.left (slice_index_or l.runs j point_frame) (run * j) (run * j + (run + run))
