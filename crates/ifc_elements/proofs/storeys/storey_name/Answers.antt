use Rattle.std.proofs.Common.{sym}
use Rattle.ifc_elements.proofs.StoreysThere.{storey_there, no_storey}
use Rattle.ifc_elements.proofs.storeys.storey_name.Goals as goal

pub returns-in_default : goal.returns-in_default
returns-in_default c = no_storey c.args.exchange.now c.args.tree.now c.args.id c.requires.storeys c.in_default.ensures

pub returns-in-None : goal.returns-in-None
returns-in-None c = absurd (storey_there c.args.exchange.now c.args.id c.in-Some.storey (c.requires.storeys.sound c.args.id c.in-Some.storey c.in-Some.ensures) (sym c.in-None.ensures))
