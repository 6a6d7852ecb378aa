use Rattle.std.proofs.Common.{ℕ, List, subst}
use Rattle.ifc_schema.specs.Surveys.{used_ids}
use Rattle.ifc_elements.specs.Sound.{AreSets, IsUncut}
use Rattle.ifc_elements.proofs.CasesOfAnswers.{of_none, of_some}
use Rattle.model_build.proofs.ElementsReady.{sets_sound}
use Rattle.model_build.proofs.SetsCut.{uncut_stuck}
use Rattle.model_build.proofs.FaultsInOrder.{stuck_first}
use Rattle.model_build.proofs.stages.sets_of.Goals as goal

pub returns-in-Some-clause-sets : goal.returns-in-Some-clause-sets
returns-in-Some-clause-sets c =
    subst (λ (ids : List ℕ). AreSets c.args.file.now.exchange c.args.file.now.scale c.args.file.now.mode ids c.in-Some.sets) c.used-used.ensures (of_some _ _ c.in_ok-sets.field-0 c.in-Some.sets c.in-Some.is c.in_ok-sets.ensures)

pub returns-in-Some-2-clause-fault : goal.returns-in-Some-2-clause-fault
returns-in-Some-2-clause-fault c = stuck_first c.args.file.now c.in-Some-2.fault c.requires.measured (of_some _ _ c.in_ok-fault-in-None.field-0 c.in-Some-2.fault c.in-Some-2.is c.in_ok-fault-in-None.ensures)

pub unreachable-requires : goal.unreachable-requires
unreachable-requires c =
    let file = c.args.file.now in
    uncut_stuck file.exchange file.scale file.mode (used_ids file.survey) c.requires.measured.supported.opened.surveyed.used (sets_sound file c.args.table.items c.requires.table c.requires.measured)
    (subst (λ (ids : List ℕ). IsUncut file.exchange file.scale file.mode ids) c.used-used.ensures (of_none _ _ c.in_ok-sets.field-0 c.in-None.is c.in_ok-sets.ensures))
    (of_none _ _ c.in_ok-fault-in-None.field-0 c.in-None-2.is c.in_ok-fault-in-None.ensures)
