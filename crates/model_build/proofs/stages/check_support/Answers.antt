use Rattle.ifc_elements.proofs.CasesOfAnswers.{of_some}
use Rattle.model_build.proofs.FaultsInOrder.{oblique_first, item_first, index_first}
use Rattle.model_build.proofs.stages.check_support.Goals as goal

pub returns-in-Some-clause-fault : goal.returns-in-Some-clause-fault
returns-in-Some-clause-fault c = oblique_first c.args.file.now c.in-Some.fault c.requires c.in-Some.ensures

pub returns-in-Some-item_fault-clause-fault : goal.returns-in-Some-item_fault-clause-fault
returns-in-Some-item_fault-clause-fault c = item_first c.args.file.now c.in-Some-item_fault.fault c.requires c.in_default.ensures c.in-Some-item_fault.ensures

pub returns-in-Some-2-clause-fault : goal.returns-in-Some-2-clause-fault
returns-in-Some-2-clause-fault c =
    index_first c.args.file.now c.in-Some-2.fault c.requires c.in_default.ensures c.in_default-item_fault.ensures
    (of_some _ _ c.in_ok-fault.field-0 c.in-Some-2.fault c.in-Some-2.is c.in_ok-fault.ensures)
