use Rattle.std.proofs.Common.{List, Ok, sym, ◌∙◌, subst}
use Rattle.odata_filter.specs.declared.topic_order.OrderKey.{OrderKey}
use Rattle.odata_filter.specs.OrderGrammar.{IsOrder}
use Rattle.odata_filter.specs.Readings.{IsRead}
use Rattle.odata_filter.proofs.OrderReadings.{order_stops, order_ends, order_early, order_goes_on}
use Rattle.odata_filter.proofs.topic_order.Order.read.Goals as goal

pub returns-in-None : goal.returns-in-None
returns-in-None c =
    order_stops c.args.text.now c.loop-token.invariant.short c.loop-token.at c.loop-token.read c.in-Some.token c.loop-token.invariant.so_far
    c.in-Some.ensures.tokens (sym c.in_ok-next.ensures ∙ c.in-None.is)

pub loop-token-preserved : goal.loop-token-preserved
loop-token-preserved c = record {
  within = c.in-Some.ensures.within.2;
  short = c.loop-token.invariant.short;
  so_far = order_goes_on c.args.text.now c.loop-token.at c.loop-token.read c.in-Some-2.next c.in-Some.token c.loop-token.invariant.so_far
      c.in-Some.ensures.tokens (sym c.in_ok-next.ensures ∙ c.in-Some-2.is);
}

pub returns-in-Some-3 : goal.returns-in-Some-3
returns-in-Some-3 c =
    subst (λ (keys : List OrderKey). IsRead IsOrder c.args.text.now (Ok keys)) (sym c.by.ensures)
    (order_ends c.args.text.now c.loop-token.invariant.short c.loop-token.at c.loop-token.read c.in-Some-3.keys c.loop-token.invariant.so_far
    c.in_default.ensures.tokens (sym c.in_ok-keys.ensures ∙ c.in-Some-3.is))

pub returns-in-None-2 : goal.returns-in-None-2
returns-in-None-2 c =
    order_early c.args.text.now c.loop-token.invariant.short c.loop-token.at c.loop-token.read c.loop-token.invariant.so_far
    c.in_default.ensures.tokens (sym c.in_ok-keys.ensures ∙ c.in-None-2.is)
