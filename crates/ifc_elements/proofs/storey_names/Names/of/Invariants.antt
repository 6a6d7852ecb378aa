use Rattle.ifc_elements.specs.StoreyNames.{AreNames}
use Rattle.ifc_elements.proofs.storey_names.Names.of.Given as goal

abbrev pub invariant-loop-id : goal.invariant-loop-id
invariant-loop-id l = AreNames l.exchange l.names
