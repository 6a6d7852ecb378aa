use Rattle.std.proofs.Common.{◌≡◌, false, All}
use Rattle.ifc_schema.specs.BodyRepresentations.{is_body_representation, target_passes}
use Rattle.ifc_schema.proofs.body.lists_body.Given as goal

abbrev pub invariant-loop-item : goal.invariant-loop-item
invariant-loop-item l = All (λ v. target_passes l.exchange is_body_representation v ≡ false) l.yielded
