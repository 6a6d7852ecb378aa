use Rattle.std.proofs.Common.{length, ap, arith, below_more, sym, ◌∙◌}
use Rattle.ifc_schema.specs.inner.InstanceFaults.{CheckedAt}
use Rattle.ifc_schema.proofs.Listing.{all_checked, checked_some, checked_none}
use Rattle.ifc_schema.proofs.surveying.least_fault.Goals as goal

pub returns-then-is_some : goal.returns-then-is_some
returns-then-is_some c =
    let world = c.args.exchange.now in
    let k : CheckedAt world c.loop-at.at c.fault_at-fault.result = c.fault_at-fault.ensures in
    checked_some world c.loop-at.at c.fault_at-fault.result c.iter-instances.ensures.rises (sym c.is_some.ensures ∙ c.if-is_some.true) k c.loop-at.invariant

pub loop-at-preserved : goal.loop-at-preserved
loop-at-preserved c =
    let world = c.args.exchange.now in
    let k : CheckedAt world c.loop-at.at c.fault_at-fault.result = c.fault_at-fault.ensures in
    below_more _ _ c.loop-at.invariant (checked_none world c.loop-at.at c.fault_at-fault.result (sym c.is_some.ensures ∙ c.if-is_some.false) k)

pub returns : goal.returns
returns c =
    let l = c.len-at-end.ensures ∙ ap length c.iter-instances.ensures.same in
    all_checked c.args.exchange.now c.loop-at.at (omega (arith, c.loop-at-test.false)) c.loop-at.invariant
