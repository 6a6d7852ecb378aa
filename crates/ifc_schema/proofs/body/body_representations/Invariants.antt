use Rattle.std.proofs.Common.{◌≡◌, map}
use Rattle.ifc_schema.specs.BodyRepresentations.{is_body_representation}
use Rattle.ifc_schema.proofs.body.body_representations.Given as goal

abbrev pub invariant-loop-instance : goal.invariant-loop-instance
invariant-loop-instance l = l.bits.items ≡ map is_body_representation l.yielded
