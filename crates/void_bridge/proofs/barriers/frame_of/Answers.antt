use Rattle.ear_cut.specs.Registers.{as_spot}
use Rattle.void_bridge.proofs.barriers.frame_of.Goals as goal

pub returns : goal.returns
returns c = record {
  a_in = c.widened.ensures.kept (as_spot c.args.edge.a) c.frame_at.ensures;
  b_in = c.widened.ensures.holds;
}
