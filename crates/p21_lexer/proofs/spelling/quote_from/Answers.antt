use Rattle.std.proofs.Common.{arith, ◌∙◌}
use Rattle.p21_lexer.proofs.RunLemmas.{text_on}
use Rattle.p21_lexer.proofs.spelling.quote_from.Goals as goal

pub loop-at-preserved : goal.loop-at-preserved
loop-at-preserved c = (omega arith, c.loop-at.invariant.1 ∙ text_on _ _ c.loop-at-test.true c.if-bytes-at-ne39.true)
