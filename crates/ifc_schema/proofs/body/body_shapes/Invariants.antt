use Rattle.std.proofs.Common.{◌≡◌, map}
use Rattle.ifc_schema.specs.BodyRepresentations.{is_body_shape}
use Rattle.ifc_schema.proofs.body.body_shapes.Given as goal

abbrev pub invariant-loop-instance : goal.invariant-loop-instance
invariant-loop-instance l = l.bits.items ≡ map (is_body_shape l.exchange) l.yielded
