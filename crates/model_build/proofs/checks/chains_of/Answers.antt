use Rattle.std.proofs.Common.{ℕ, List, subst}
use Rattle.ifc_schema.specs.Surveys.{IsModelElement, element_ids}
use Rattle.placement.specs.Chains.{IsLoopCause}
use Rattle.model_build.specs.NamedPlacements.{ListsNamed}
use Rattle.model_build.proofs.ChainsEnd.{loop_stage, err_by}
use Rattle.model_build.proofs.checks.chains_of.Goals as goal

pub returns-clause-fault : goal.returns-clause-fault
returns-clause-fault c =
    err_by _ _ c.of.result (λ error h. loop_stage c.args.exchange.now (IsModelElement c.args.exchange.now) (element_ids c.args.survey.now) c.in_ok-named.named.items c.requires.elements
    (subst (λ (ids : List ℕ). ListsNamed c.args.exchange.now ids c.in_ok-named.named.items) c.elements.ensures c.in_ok-named.ensures) error
    (subst (λ (named : List ℕ). IsLoopCause c.args.exchange.now named error) c.deref.ensures.value h)) c.of.ensures.fault
