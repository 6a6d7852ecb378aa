use Rattle.std.proofs.Common.{length, ap, ◌∙◌, arith}
use Rattle.ifc_schema.specs.Surveys.{IsModelElement}
use Rattle.ifc_schema.proofs.Listing.{lists_all}
use Rattle.ifc_schema.proofs.surveying.list_elements.Goals as goal

pub returns : goal.returns
returns c =
    let world = c.args.exchange.now in
    let l = c.len-at-end.ensures ∙ ap length c.iter-instances.ensures.same in
    lists_all world c.loop-at.at (IsModelElement world) c.loop-at.ids.items (omega (arith, c.loop-at-test.false)) (λ id h. record { instance = h.instance; found = h.found }) c.loop-at.invariant
