use Rattle.ifc_elements.proofs.CasesOfAnswers.{of_ok, of_err}
use Rattle.ifc_elements.proofs.ElementsMade.{made_more, first_lacking}
use Rattle.ifc_elements.proofs.model_elements.elements_of.Goals as goal

pub returns-in-Err : goal.returns-in-Err
returns-in-Err c = λ placements listed are t.
    first_lacking c.args.exchange.now c.args.scale c.args.mode placements listed c.args.ids.now c.loop-id.id-index c.loop-id.made.items c.in-Err.lack c.requires.rises c.loop-id-test.true (c.loop-id.invariant placements listed are t)
    (of_err _ _ c.in_ok-element.field-0 c.in-Err.lack c.in-Err.is (c.in_ok-element.ensures placements listed are t))

pub loop-id-preserved : goal.loop-id-preserved
loop-id-preserved c = λ placements listed are t.
    made_more c.args.exchange.now c.args.scale c.args.mode c.args.ids.now c.loop-id.id-index c.loop-id.made.items c.push.new.self.items c.in-Ok.element c.loop-id-test.true
    (of_ok _ _ c.in_ok-element.field-0 c.in-Ok.element c.in-Ok.is (c.in_ok-element.ensures placements listed are t))
    c.in_ok-push-in-Ok.ensures.items (c.loop-id.invariant placements listed are t)
