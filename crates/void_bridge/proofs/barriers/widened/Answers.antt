use Rattle.std.proofs.Common.{arith}
use Rattle.std.proofs.lemmas.Int.{to_z-of_z}
use Rattle.exact_arith.proofs.Order.{le_trans}
use Rattle.void_bridge.proofs.barriers.widened.Goals as goal

pub returns-clause-holds : goal.returns-clause-holds
returns-clause-holds c = record {
  low_u = grind (arith, to_z-of_z, c.min.ensures.value);
  high_u = grind (arith, to_z-of_z, c.max.ensures.value);
  low_v = grind (arith, to_z-of_z, c.min-2.ensures.value);
  high_v = grind (arith, to_z-of_z, c.max-2.ensures.value);
}

pub returns-clause-kept : goal.returns-clause-kept
returns-clause-kept c = λ q h. record {
  low_u = le_trans _ c.args.frame.low_u q.u (grind (arith, to_z-of_z, c.min.ensures.value)) h.low_u;
  high_u = le_trans q.u c.args.frame.high_u _ h.high_u (grind (arith, to_z-of_z, c.max.ensures.value));
  low_v = le_trans _ c.args.frame.low_v q.v (grind (arith, to_z-of_z, c.min-2.ensures.value)) h.low_v;
  high_v = le_trans q.v c.args.frame.high_v _ h.high_v (grind (arith, to_z-of_z, c.max-2.ensures.value));
}
