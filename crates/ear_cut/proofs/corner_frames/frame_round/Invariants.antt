use Rattle.std.proofs.Common.{◌*◌}
use Rattle.ear_cut.specs.inner.CornerFrames.{run, IsRound}
use Rattle.ear_cut.proofs.corner_frames.frame_round.Given as goal

abbrev pub invariant-loop-i : goal.invariant-loop-i
invariant-loop-i l = IsRound l.view l.left l.frame (run * l.fn.b) l.i
