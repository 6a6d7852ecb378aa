use Rattle.ifc_units.proofs.PointFacts.{point_apart}
use Rattle.ifc_units.proofs.instances.point_fault.Goals as goal

pub returns-in-Ok : goal.returns-in-Ok
returns-in-Ok c = λ fault h. point_apart c.args.scale c.args.mode c.args.value.now c.in-Ok._point fault c.in-Ok.ensures h
