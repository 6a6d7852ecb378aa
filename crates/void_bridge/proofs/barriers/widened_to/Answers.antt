use Rattle.ear_cut.specs.Registers.{as_spot}
use Rattle.void_bridge.proofs.barriers.widened_to.Goals as goal

pub returns-clause-holds : goal.returns-clause-holds
returns-clause-holds c = record {
  a_in = c.widened-2.ensures.kept (as_spot c.args.edge.a) c.widened.ensures.holds;
  b_in = c.widened-2.ensures.holds;
}

pub returns-clause-kept : goal.returns-clause-kept
returns-clause-kept c = λ q h. c.widened-2.ensures.kept q (c.widened.ensures.kept q h)
