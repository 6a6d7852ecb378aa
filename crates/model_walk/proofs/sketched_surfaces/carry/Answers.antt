use Rattle.std.proofs.Common.{arith}
use Rattle.model_walk.proofs.sketched_surfaces.carry.Goals as goal

pub carry-requires-3-clause-reach : goal.carry-requires-3-clause-reach
carry-requires-3-clause-reach c = c.requires.reach 2 c.args.triangle.now.c (omega arith)
