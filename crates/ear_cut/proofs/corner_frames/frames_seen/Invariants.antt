use Rattle.std.proofs.Common.{◌≡◌, ◌+◌, ◌*◌, ◌<◌, ℕ, length}
use Rattle.std.specs.Prelude.{slice_index_or}
use Rattle.ear_cut.specs.inner.CornerFrames.{run, point_frame, IsRound}
use Rattle.ear_cut.proofs.corner_frames.frames_seen.Given as goal

abbrev pub invariant-loop-b : goal.invariant-loop-b
invariant-loop-b l = record {
  count : length l.runs.items ≡ l.b;
  each : (j : ℕ) → j < l.b → IsRound l.view l.left (slice_index_or l.runs.items j point_frame) (run * j) (run * j + (run + run));
}
