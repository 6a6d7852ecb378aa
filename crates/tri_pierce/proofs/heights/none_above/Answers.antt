use Rattle.std.proofs.Common.{pos}
use Rattle.exact_arith.proofs.Ranges.{less, not_less, zero_kept, test_kept}
use Rattle.tri_pierce.proofs.Registers.{kept, clash}
use Rattle.tri_pierce.proofs.heights.none_above.Goals as goal

pub returns-then-b-gt0 : goal.returns-then-b-gt0
returns-then-b-gt0 c = (λ x. absurd (cc x), λ y. absurd (clash (pos 0) c.args.b (less zero_kept (kept c.args.b c.requires.b_in) c.if-b-gt0.true) y.0))

pub returns : goal.returns
returns c = test_kept (kept c.args.c c.requires.c_in) zero_kept (λ h. (not_less zero_kept (kept c.args.b c.requires.b_in) c.if-b-gt0.false, h), λ y. y.1)
