use Rattle.std.proofs.Common.{ℕ, List, subst}
use Rattle.std.specs.List.{Any}
use Rattle.ifc_schema.specs.Surveys.{used_ids}
use Rattle.ifc_elements.specs.Finding.{Finds}
use Rattle.model_build.specs.Faces.{HasManyCorners}
use Rattle.model_build.specs.inner.Outcomes.{HaveFewCorners}
use Rattle.model_build.proofs.ManyCorners.{corners_stage}
use Rattle.model_build.proofs.checks.corners_fault.Goals as goal

pub returns-then-some_has_many_corners : goal.returns-then-some_has_many_corners
returns-then-some_has_many_corners c =
    corners_stage c.args.exchange.now (used_ids c.args.survey.now) c.requires.used (subst (λ (ids : List ℕ). Any (λ id. Finds c.args.exchange.now id HasManyCorners) ids) c.used.ensures c.if-some_has_many_corners.ensures)

pub returns-else-some_has_many_corners : goal.returns-else-some_has_many_corners
returns-else-some_has_many_corners c = subst (HaveFewCorners c.args.exchange.now) c.used.ensures c.if-some_has_many_corners.ensures
