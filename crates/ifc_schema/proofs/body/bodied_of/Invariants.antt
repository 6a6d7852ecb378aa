use Rattle.std.proofs.Common.{◌≡◌, map}
use Rattle.ifc_schema.specs.BodyRepresentations.{has_body}
use Rattle.ifc_schema.proofs.body.bodied_of.Given as goal

abbrev pub invariant-loop-instance : goal.invariant-loop-instance
invariant-loop-instance l = l.bits.items ≡ map (has_body l.exchange) l.yielded
