use Rattle.bim_model.specs.declared.upload.BuildError.TheVariants as errors
use Rattle.ifc_elements.proofs.CasesOfAnswers.{of_none, of_some}
use Rattle.model_build.proofs.FirstOfStages.{returned}
use Rattle.model_build.proofs.FaultsInOrder.{unit_first, tree_first, twice_first, loop_first}
use Rattle.model_build.proofs.stages.opened.Goals as goal

pub returns-in_err-scale-clause-fault : goal.returns-in_err-scale-clause-fault
returns-in_err-scale-clause-fault c =
    let e = errors.Fault c.in_err-scale.field-0.0 in
    returned _ _ e c.from_residual-in_err-scale.ensures.1 (unit_first c.args.exchange c.args.mode c.in_ok-survey.survey e c.in_ok-survey.ensures.surveyed c.in_err-scale.ensures.fault)

pub returns-in_err-tree-clause-fault : goal.returns-in_err-tree-clause-fault
returns-in_err-tree-clause-fault c =
    let e = c.in_err-tree.field-0.0 in
    returned _ _ e c.from_residual-in_err-tree.ensures.1
    (tree_first c.args.exchange c.args.mode c.in_ok-survey.survey e c.in_ok-survey.ensures.surveyed c.in_ok-scale.ensures.clear c.in_err-tree.ensures.refused)

pub returns-in-Some-clause-fault : goal.returns-in-Some-clause-fault
returns-in-Some-clause-fault c =
    twice_first c.args.exchange c.args.mode c.in_ok-survey.survey c.in-Some.fault c.in_ok-survey.ensures.surveyed c.in_ok-scale.ensures.clear c.in_ok-tree.ensures.tree
    (of_some _ _ c.in_ok-fault.field-0 c.in-Some.fault c.in-Some.is c.in_ok-fault.ensures)

pub returns-in_err-chains-clause-fault : goal.returns-in_err-chains-clause-fault
returns-in_err-chains-clause-fault c =
    let e = c.in_err-chains.field-0.0 in
    returned _ _ e c.from_residual-in_err-chains.ensures.1
    (loop_first c.args.exchange c.args.mode c.in_ok-survey.survey e c.in_ok-survey.ensures.surveyed c.in_ok-scale.ensures.clear c.in_ok-tree.ensures.tree
    (of_none _ _ c.in_ok-fault.field-0 c.in_default.is c.in_ok-fault.ensures) c.in_err-chains.ensures.fault)
