use Rattle.ear_cut.specs.Registers.{as_spot}
use Rattle.ear_cut.proofs.corner_frames.frame_of.Goals as goal

pub returns-clause-a_in : goal.returns-clause-a_in
returns-clause-a_in c = c.widened-2.ensures.kept (as_spot c.args.t.a) (c.widened.ensures.kept (as_spot c.args.t.a) c.frame_at.ensures)

pub returns-clause-b_in : goal.returns-clause-b_in
returns-clause-b_in c = c.widened-2.ensures.kept (as_spot c.args.t.b) c.widened.ensures.holds
