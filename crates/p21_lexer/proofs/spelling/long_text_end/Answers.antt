use Rattle.std.proofs.Common.{arith, ◌∙◌}
use Rattle.p21_lexer.proofs.RunLemmas.{text_plain, text_double}
use Rattle.p21_lexer.proofs.spelling.long_text_end.Goals as goal

pub loop-at-preserved-then-bytes-at-ne39 : goal.loop-at-preserved-then-bytes-at-ne39
loop-at-preserved-then-bytes-at-ne39 c = (omega arith, c.loop-at.invariant.1, c.loop-at.invariant.2 ∙ text_plain _ _ _ c.loop-at-test.true c.if-bytes-at-ne39.true)

pub loop-at-preserved : goal.loop-at-preserved
loop-at-preserved c = (omega arith, omega arith, c.loop-at.invariant.2 ∙ text_double _ _ _ c.if-at-bytes.true c.if-bytes-at-ne39.false c.if-bytes-at-eq39.true)
