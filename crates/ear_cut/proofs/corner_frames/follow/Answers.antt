use Rattle.std.proofs.Common.{subst, Option}
use Rattle.ear_cut.specs.declared.polygon_view.View.{View}
use Rattle.ear_cut.specs.inner.CornerFrames.{AreFramesBefore}
use Rattle.ear_cut.proofs.Round.{round_before}
use Rattle.ear_cut.proofs.corner_frames.follow.Goals as goal

pub follow_seen-requires-clause-round : goal.follow_seen-requires-clause-round
follow_seen-requires-clause-round c =
    round_before c.in-Some.view c.args.left.now c.args.frames.now (subst (λ (v : Option View). AreFramesBefore v c.args.left.now c.args.frames.now) c.in-Some.is c.requires.before)
