use Rattle.std.proofs.Common.{ℕ, ◌<◌, ◌≤◌, List, Option, sum_by, subst}
use Rattle.ifc_schema.specs.Surveys.{element_ids}
use Rattle.ifc_elements.specs.Items.{count_of}
use Rattle.model_build.specs.Triangles.{most_triangles, CountsTo}
use Rattle.model_build.proofs.TrianglesCounted.{triangles_stage, few_triangles}
use Rattle.model_build.proofs.checks.triangles_fault.Goals as goal

pub returns-in-Some : goal.returns-in-Some
returns-in-Some c =
    subst (λ (ids : List ℕ). sum_by (count_of c.args.exchange.now) ids ≤ most_triangles) c.elements.ensures
    (few_triangles (sum_by (count_of c.args.exchange.now) c.elements.result.now) c.in-Some._count
    (subst (λ (found : Option ℕ). CountsTo (sum_by (count_of c.args.exchange.now) c.elements.result.now) found) c.in-Some.is c.in_ok-_count.ensures))

pub returns-in-None : goal.returns-in-None
returns-in-None c =
    triangles_stage c.args.exchange.now (element_ids c.args.survey.now) c.requires.surveyed.elements
    (subst (λ (ids : List ℕ). most_triangles < sum_by (count_of c.args.exchange.now) ids) c.elements.ensures
    (subst (λ (found : Option ℕ). CountsTo (sum_by (count_of c.args.exchange.now) c.elements.result.now) found) c.in-None.is c.in_ok-_count.ensures))
