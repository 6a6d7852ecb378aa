use Rattle.std.proofs.Common.{ℕ, List, subst}
use Rattle.ifc_schema.specs.Surveys.{used_ids}
use Rattle.model_build.specs.FaultyInstances.{NoneOf, IsLeastOf, IsBadSet}
use Rattle.model_build.proofs.FirstIsLeast.{index_least}
use Rattle.ifc_elements.proofs.CasesOfAnswers.{of_none, of_some}
use Rattle.model_build.proofs.checks.index_fault.Goals as goal

pub returns-in-Some : goal.returns-in-Some
returns-in-Some c =
    index_least c.args.exchange.now (used_ids c.args.survey.now) c.in-Some.id c.requires.used
    (subst (λ (ids : List ℕ). IsLeastOf ids (IsBadSet c.args.exchange.now) c.in-Some.id) c.used.ensures (of_some _ _ c.in_ok-id.field-0 c.in-Some.id c.in-Some.is c.in_ok-id.ensures))

pub returns-in-None : goal.returns-in-None
returns-in-None c = subst (λ (ids : List ℕ). NoneOf ids (IsBadSet c.args.exchange.now)) c.used.ensures (of_none _ _ c.in_ok-id.field-0 c.in-None.is c.in_ok-id.ensures)
