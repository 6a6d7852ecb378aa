use Rattle.std.proofs.Common.{length, ap, ◌∙◌, arith}
use Rattle.ifc_schema.specs.Used.{IsMapped}
use Rattle.ifc_schema.proofs.Listing.{lists_all, mapped_found}
use Rattle.ifc_schema.proofs.surveying.list_mapped.Goals as goal

pub returns : goal.returns
returns c =
    let world = c.args.exchange.now in
    let l = c.len-at-end.ensures ∙ ap length c.iter-instances.ensures.same in
    lists_all world c.loop-at.at (IsMapped world) c.loop-at.ids.items (omega (arith, c.loop-at-test.false)) (mapped_found world) c.loop-at.invariant
