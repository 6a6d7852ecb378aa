use Rattle.std.proofs.Common.{◌≡◌, ◌+◌, ◌≤◌, drop, true, arith, ◌∙◌, sym}
use Rattle.p21_lexer.specs.inner.TokenSpans.{opens}
use Rattle.p21_lexer.proofs.Gapping.{blanks_gap, blanks_none, opens_length, gap_append, comment_gap, comment_far, stop_open}
use Rattle.p21_lexer.proofs.gaps.skip_any.Goals as goal

pub loop-from-init : goal.loop-from-init
loop-from-init c = record {
  within = c.blanks_end-at.ensures.within;
  on = omega (arith, c.blanks_end-at.ensures.run);
  gap = blanks_gap _ _ _ c.blanks_end-at.ensures.run;
  none = blanks_none _ _ _ c.blanks_end-at.ensures.run;
}

pub comment_end-requires : goal.comment_end-requires
comment_end-requires c = opens_length _ _ (sym c.opens_comment.ensures ∙ c.loop-from-test.true)

pub returns-in-None-clause-skips : goal.returns-in-None-clause-skips
returns-in-None-clause-skips c =
    let g = c.loop-from.invariant.gap in
    record { pieces = g.pieces; passed = g.passed; stop = stop_open c.args.bytes.now c.loop-from.at c.loop-from.invariant.none (sym c.in-None.is ∙ c.comment_end.ensures.span) }

pub loop-from-preserved : goal.loop-from-preserved
loop-from-preserved c =
    let is_open : opens (drop c.loop-from.at c.args.bytes.now) ≡ true = sym c.opens_comment.ensures ∙ c.loop-from-test.true in
    let span = sym c.in-Some.is ∙ c.comment_end.ensures.span in
    let far : c.loop-from.at + 2 ≤ c.in-Some.end = comment_far c.args.bytes.now _ _ span in
    record {
      within = c.blanks_end-at-in-Some.ensures.within;
      on = omega (arith, c.blanks_end-at-in-Some.ensures.run, c.loop-from.invariant.on);
      gap = gap_append _ _ _ c.loop-from.invariant.gap (gap_append _ _ _ (comment_gap c.args.bytes.now _ _ is_open span) (blanks_gap _ _ _ c.blanks_end-at-in-Some.ensures.run));
      none = blanks_none _ _ _ c.blanks_end-at-in-Some.ensures.run;
    }
