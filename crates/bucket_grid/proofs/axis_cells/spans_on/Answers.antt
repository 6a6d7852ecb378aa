use Rattle.std.proofs.lemmas.List.Elements.{All-push, All-same}
use Rattle.bucket_grid.specs.Dealt.{IsSpan}
use Rattle.bucket_grid.proofs.LyingInCells.{spans_more}
use Rattle.bucket_grid.proofs.axis_cells.spans_on.Goals as goal

pub loop-extent-preserved : goal.loop-extent-preserved
loop-extent-preserved c = record {
  are = spans_more c.args.range.low _ _ c.loop-extent.extent-index c.loop-extent.spans.items _ c.span_of.result c.loop-extent.invariant.are c.in_ok-push.ensures.items c.span_of.ensures.first c.span_of.ensures.last;
  each = All-same (IsSpan c.args.range.count) _ _ c.in_ok-push.ensures.items (All-push (IsSpan c.args.range.count) c.loop-extent.spans.items c.span_of.result c.loop-extent.invariant.each c.span_of.ensures.span);
}
