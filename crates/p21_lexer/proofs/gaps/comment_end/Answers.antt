use Rattle.std.proofs.Common.{arith, ◌∙◌}
use Rattle.p21_lexer.proofs.RunLemmas.{comment_one, comment_two}
use Rattle.p21_lexer.proofs.gaps.comment_end.Goals as goal
use Rattle.p21_lexer.proofs.gaps.comment_end.Goals.{else-bytes-at-eq42-via-then-bytes-at-eq42+else-bytes-at-eq47, else-bytes-at-eq42-via-else-bytes-at-eq42}

pub loop-at-preserved : goal.loop-at-preserved
loop-at-preserved c = elim c.else-bytes-at-eq42.branch [
  | else-bytes-at-eq42-via-then-bytes-at-eq42+else-bytes-at-eq47 w ↦ (omega arith, c.loop-at.invariant.1 ∙ comment_two _ _ c.loop-at-test.true w.if-bytes-at-eq47.false)
  | else-bytes-at-eq42-via-else-bytes-at-eq42 w ↦ (omega arith, c.loop-at.invariant.1 ∙ comment_one _ _ c.loop-at-test.true w.if-bytes-at-eq42.false)
]
