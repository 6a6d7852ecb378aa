use Rattle.tri_exact.proofs.Choice.{not_both}
use Rattle.tri_pierce.proofs.heights.is_split.Goals as goal

pub returns-then-has_above : goal.returns-then-has_above
returns-then-has_above c = (λ x. (c.has_above.ensures.0 c.if-has_above.true, c.has_below.ensures.0 x), λ y. c.has_below.ensures.1 y.1)

pub returns : goal.returns
returns c = (λ x. absurd (cc x), λ y. not_both c.if-has_above.false (c.has_above.ensures.1 y.0))
