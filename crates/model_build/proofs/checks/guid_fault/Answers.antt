use Rattle.std.proofs.Common.{ℕ, List, Option, Contains, subst}
use Rattle.std.specs.Option.{MatchOption}
use Rattle.ifc_schema.specs.Surveys.{IsModelElement, element_ids}
use Rattle.model_build.specs.DuplicateGuids.{NoneRepeats, IsFirstRepeated}
use Rattle.model_build.proofs.RepeatedGuids.{repeated_fault, identified}
use Rattle.model_build.proofs.checks.guid_fault.Goals as goal

pub first_repeated-requires-clause-identified : goal.first_repeated-requires-clause-identified
first_repeated-requires-clause-identified c = λ id listed. identified c.args.exchange.now c.args.survey.now c.requires id (subst (λ (ids : List ℕ). Contains ids id) c.elements.ensures listed)

pub returns-in-Some : goal.returns-in-Some
returns-in-Some c =
    repeated_fault c.args.exchange.now (IsModelElement c.args.exchange.now) (element_ids c.args.survey.now) c.in-Some.id c.requires.elements
    (subst (λ (ids : List ℕ). IsFirstRepeated c.args.exchange.now ids c.in-Some.id) c.elements.ensures
    (subst (λ (r : Option ℕ). MatchOption r (NoneRepeats c.args.exchange.now c.elements.result.now) (IsFirstRepeated c.args.exchange.now c.elements.result.now)) c.in-Some.is c.in_ok-id.ensures))

pub returns-in-None : goal.returns-in-None
returns-in-None c =
    subst (λ (ids : List ℕ). NoneRepeats c.args.exchange.now ids) c.elements.ensures
    (subst (λ (r : Option ℕ). MatchOption r (NoneRepeats c.args.exchange.now c.elements.result.now) (IsFirstRepeated c.args.exchange.now c.elements.result.now)) c.in-None.is c.in_ok-id.ensures)
