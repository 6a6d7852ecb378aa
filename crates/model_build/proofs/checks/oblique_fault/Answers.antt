use Rattle.std.proofs.Common.{ℕ, List, Contains, subst}
use Rattle.ifc_schema.specs.Surveys.{used_ids}
use Rattle.model_build.specs.FaultyInstances.{NoneOf, IsLeastOf, IsOblique}
use Rattle.model_build.proofs.AxesAlongGrid.{placements_read, operators_read}
use Rattle.model_build.proofs.FirstIsLeast.{oblique_least}
use Rattle.model_build.proofs.checks.oblique_fault.Goals as goal

pub first_oblique-requires-clause-placements : goal.first_oblique-requires-clause-placements
first_oblique-requires-clause-placements c =
    λ id listed. placements_read c.args.exchange.now (used_ids c.args.survey.now) c.requires.shaped c.requires.used id (subst (λ (ids : List ℕ). Contains ids id) c.used.ensures listed)

pub first_oblique-requires-clause-operators : goal.first_oblique-requires-clause-operators
first_oblique-requires-clause-operators c =
    λ id listed. operators_read c.args.exchange.now (used_ids c.args.survey.now) c.requires.shaped c.requires.used id (subst (λ (ids : List ℕ). Contains ids id) c.used.ensures listed)

pub returns-in-Some : goal.returns-in-Some
returns-in-Some c = oblique_least c.args.exchange.now (used_ids c.args.survey.now) c.in-Some.id c.requires.used (subst (λ (ids : List ℕ). IsLeastOf ids (IsOblique c.args.exchange.now) c.in-Some.id) c.used.ensures c.in-Some.ensures)

pub returns-in-None : goal.returns-in-None
returns-in-None c = subst (λ (ids : List ℕ). NoneOf ids (IsOblique c.args.exchange.now)) c.used.ensures c.in-None.ensures
