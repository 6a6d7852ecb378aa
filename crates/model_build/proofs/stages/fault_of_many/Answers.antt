use Rattle.ifc_elements.proofs.CasesOfAnswers.{of_none, of_some}
use Rattle.model_build.proofs.FaultsInOrder.{stuck_first, triangles_first}
use Rattle.model_build.proofs.stages.fault_of_many.Goals as goal

pub returns-in-Some : goal.returns-in-Some
returns-in-Some c = stuck_first c.args.file.now c.in-Some.fault c.requires.measured (of_some _ _ c.in_ok-fault.field-0 c.in-Some.fault c.in-Some.is c.in_ok-fault.ensures)

pub returns-in-None : goal.returns-in-None
returns-in-None c = triangles_first c.args.file.now c.args.many c.requires.measured (of_none _ _ c.in_ok-fault.field-0 c.in-None.is c.in_ok-fault.ensures) c.requires.many
