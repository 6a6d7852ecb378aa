use Rattle.std.proofs.Common.{ℕ, List, Contains, subst}
use Rattle.ifc_schema.specs.Surveys.{used_ids}
use Rattle.model_build.specs.StageFaults.{LeastFault}
use Rattle.model_build.specs.LengthFaults.{LengthFault}
use Rattle.model_build.specs.inner.Outcomes.{AreMeasured}
use Rattle.model_build.proofs.StagesClear.{measured_fault}
use Rattle.model_build.proofs.FaultsInOrder.{length_first, corners_first}
use Rattle.model_build.proofs.stages.measured.Goals as goal

pub returns-in-Some-clause-fault : goal.returns-in-Some-clause-fault
returns-in-Some-clause-fault c =
    let file = c.args.file.now in
    length_first file c.in-Some.fault c.requires
    (measured_fault file.exchange file.scale file.mode (used_ids file.survey) c.in-Some.fault c.requires.opened.surveyed.used (subst (λ (ids : List ℕ). LeastFault (Contains ids) (LengthFault file.exchange file.scale file.mode) c.in-Some.fault) c.used-used.ensures c.in-Some.ensures))

pub returns-in-Some-corners_fault-clause-fault : goal.returns-in-Some-corners_fault-clause-fault
returns-in-Some-corners_fault-clause-fault c =
    let file = c.args.file.now in
    corners_first file c.in-Some-corners_fault.fault c.requires (subst (λ (ids : List ℕ). AreMeasured file.exchange file.scale file.mode ids) c.used-used.ensures c.in_default.ensures) c.in-Some-corners_fault.ensures

pub returns-clause-measured : goal.returns-clause-measured
returns-clause-measured c =
    let file = c.args.file.now in
    record { supported = c.requires; measured = subst (λ (ids : List ℕ). AreMeasured file.exchange file.scale file.mode ids) c.used-used.ensures c.in_default.ensures; few = c.in_default-corners_fault.ensures }
