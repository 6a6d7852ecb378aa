use Rattle.std.proofs.Common.{sym}
use Rattle.ifc_elements.proofs.ElementsMade.{made_at}
use Rattle.ifc_elements.proofs.model_elements.element_at.Goals as goal

pub returns-in-Some : goal.returns-in-Some
returns-in-Some c = λ placements listed are t.
    made_at c.args.exchange.now c.args.scale c.args.mode placements listed c.args.id c.in-Some.instance c.element_of.result (sym c.in-Some.ensures) (λ found. c.element_of.ensures placements listed found are t)
