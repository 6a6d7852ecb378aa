use Rattle.std.proofs.Common.{sym, ◌∙◌}
use Rattle.odata_filter.proofs.FilterReadings.{filter_stops, filter_ends, filter_early, filter_goes_on}
use Rattle.odata_filter.proofs.filter.Filter.read.Goals as goal

pub returns-in-None : goal.returns-in-None
returns-in-None c =
    filter_stops c.args.text.now c.loop-token.invariant.short c.loop-token.at c.loop-token.read c.in-Some.token c.loop-token.invariant.so_far
    c.in-Some.ensures.tokens (sym c.in_ok-next.ensures ∙ c.in-None.is)

pub loop-token-preserved : goal.loop-token-preserved
loop-token-preserved c = record {
  within = c.in-Some.ensures.within.2;
  short = c.loop-token.invariant.short;
  so_far = filter_goes_on c.args.text.now c.loop-token.at c.loop-token.read c.in-Some-2.next c.in-Some.token c.loop-token.invariant.so_far
      c.in-Some.ensures.tokens (sym c.in_ok-next.ensures ∙ c.in-Some-2.is);
}

pub returns-in-Some-3 : goal.returns-in-Some-3
returns-in-Some-3 c =
    filter_ends c.args.text.now c.loop-token.invariant.short c.loop-token.at c.loop-token.read c.in-Some-3.filter c.loop-token.invariant.so_far
    c.in_default.ensures.tokens (sym c.in_ok-filter.ensures ∙ c.in-Some-3.is)

pub returns-in-None-2 : goal.returns-in-None-2
returns-in-None-2 c =
    filter_early c.args.text.now c.loop-token.invariant.short c.loop-token.at c.loop-token.read c.loop-token.invariant.so_far
    c.in_default.ensures.tokens (sym c.in_ok-filter.ensures ∙ c.in-None-2.is)
