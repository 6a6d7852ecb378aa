use Rattle.std.proofs.Common.{ℕ, List, Option, Any, true, false, subst}
use Rattle.std.proofs.lemmas.Bool.{MatchBool-at_true, MatchBool-at_false}
use Rattle.bim_model.specs.declared.upload.UploadFault.TheVariants as faults
use Rattle.ifc_schema.specs.Surveys.{used_ids}
use Rattle.ifc_instances.specs.inner.Least.{IsLeast, LeastOf}
use Rattle.model_build.specs.FaultyInstances.{ShownBy}
use Rattle.model_build.specs.inner.Outcomes.{ShowsStuckSet, ShowsApartSet}
use Rattle.model_build.proofs.StuckFaces.{stuck_fault, stuck_stage, none_stuck}
use Rattle.model_build.proofs.checks.stuck_fault.Goals as goal

pub returns-then-apart : goal.returns-then-apart
returns-then-apart c =
    let world = c.args.exchange.now in let scale = c.args.scale in let mode = c.args.mode in let used = used_ids c.args.survey.now in let shaped = c.requires.surveyed.shaped in let ls = c.requires.surveyed.used in
    stuck_stage world scale mode used c.in-Some.id (faults.VoidedFace c.in-Some.id) shaped ls
    (subst (λ (ids : List ℕ). IsLeast (ShownBy (ShowsStuckSet world scale mode) ids) c.in-Some.id) c.used-used.ensures
    (subst (λ (found : Option ℕ). LeastOf (ShownBy (ShowsStuckSet world scale mode) c.used-used.result.now) found) c.in-Some.is c.in_ok-id.ensures))
    (stuck_fault world scale mode used c.in-Some.id true shaped ls
    (subst (λ (ids : List ℕ). Any (λ set. ShowsApartSet world scale mode set c.in-Some.id) ids) c.used-used.ensures (MatchBool-at_true _ _ c.if-apart.true c.in_ok-apart.ensures)))

pub returns-else-apart : goal.returns-else-apart
returns-else-apart c =
    let world = c.args.exchange.now in let scale = c.args.scale in let mode = c.args.mode in let used = used_ids c.args.survey.now in let shaped = c.requires.surveyed.shaped in let ls = c.requires.surveyed.used in
    stuck_stage world scale mode used c.in-Some.id (faults.FaceStuck c.in-Some.id) shaped ls
    (subst (λ (ids : List ℕ). IsLeast (ShownBy (ShowsStuckSet world scale mode) ids) c.in-Some.id) c.used-used.ensures
    (subst (λ (found : Option ℕ). LeastOf (ShownBy (ShowsStuckSet world scale mode) c.used-used.result.now) found) c.in-Some.is c.in_ok-id.ensures))
    (stuck_fault world scale mode used c.in-Some.id false shaped ls
    (subst (λ (ids : List ℕ). Any (λ set. ShowsApartSet world scale mode set c.in-Some.id) ids → ⊥) c.used-used.ensures (MatchBool-at_false _ _ c.if-apart.false c.in_ok-apart.ensures)))

pub returns-in_default : goal.returns-in_default
returns-in_default c =
    none_stuck c.args.exchange.now c.args.scale c.args.mode (used_ids c.args.survey.now) c.requires.surveyed.shaped c.requires.surveyed.used
    (subst (λ (ids : List ℕ). (id : ℕ) → ShownBy (ShowsStuckSet c.args.exchange.now c.args.scale c.args.mode) ids id → ⊥) c.used-used.ensures
    (subst (λ (found : Option ℕ). LeastOf (ShownBy (ShowsStuckSet c.args.exchange.now c.args.scale c.args.mode) c.used-used.result.now) found) c.in_default.is c.in_ok-id.ensures))
