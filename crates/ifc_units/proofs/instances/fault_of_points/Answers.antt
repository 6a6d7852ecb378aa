use Rattle.std.proofs.Common.{sym, ◌∙◌}
use Rattle.ifc_units.proofs.InstanceFacts.{point_told}
use Rattle.ifc_units.proofs.instances.fault_of_points.Goals as goal

pub returns-then-includes : goal.returns-then-includes
returns-then-includes c =
    point_told c.args.scale c.args.mode c.args.instance.now c.in-Some.value c.point_fault.result
    (sym c.attribute.ensures ∙ c.in-Some.is) (sym c.includes.ensures ∙ c.if-includes.true) c.point_fault.ensures
