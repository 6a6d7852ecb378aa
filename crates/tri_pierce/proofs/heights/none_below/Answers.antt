use Rattle.std.proofs.Common.{pos}
use Rattle.exact_arith.proofs.Ranges.{less, not_less, zero_kept, test_kept}
use Rattle.tri_pierce.proofs.Registers.{kept, clash}
use Rattle.tri_pierce.proofs.heights.none_below.Goals as goal

pub returns-then-b-lt0 : goal.returns-then-b-lt0
returns-then-b-lt0 c = (λ x. absurd (cc x), λ y. absurd (clash c.args.b (pos 0) (less (kept c.args.b c.requires.b_in) zero_kept c.if-b-lt0.true) y.0))

pub returns : goal.returns
returns c = test_kept zero_kept (kept c.args.c c.requires.c_in) (λ h. (not_less (kept c.args.b c.requires.b_in) zero_kept c.if-b-lt0.false, h), λ y. y.1)
