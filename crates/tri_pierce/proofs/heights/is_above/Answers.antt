use Rattle.tri_pierce.proofs.Registers.{kept, above_test}
use Rattle.tri_pierce.proofs.heights.is_above.Goals as goal

pub returns : goal.returns
returns c = above_test (kept c.args.h c.requires)
