use Rattle.tri_pierce.proofs.Registers.{kept, below_test}
use Rattle.tri_pierce.proofs.heights.is_below.Goals as goal

pub returns : goal.returns
returns c = below_test (kept c.args.h c.requires)
