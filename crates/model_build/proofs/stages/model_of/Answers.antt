use Rattle.std.proofs.Common.{ℕ, List, sym, subst}
use Rattle.std.specs.List.{AllZip}
use Rattle.bim_model.specs.declared.element.Element.{Element}
use Rattle.ifc_schema.specs.Surveys.{used_ids, element_ids}
use Rattle.placement.specs.Placed.{frame_in}
use Rattle.ifc_elements.specs.ElementReadiness.{IsNearElement, IsFirstLacking}
use Rattle.ifc_elements.proofs.CasesOfAnswers.{of_ok, of_err}
use Rattle.ifc_elements.proofs.ElementsMade.{all_framed}
use Rattle.model_build.specs.Profile.{IsModelOf}
use Rattle.model_build.proofs.ModelMade.{model_made, model_is, reach_clear, reach_fault, never_unready}
use Rattle.model_build.proofs.FaultsInOrder.{reach_first, none_first}
use Rattle.model_build.proofs.stages.model_of.Goals as goal

pub elements_of-requires-clause-framed : goal.elements_of-requires-clause-framed
elements_of-requires-clause-framed c = let file = c.args.file.now in all_framed file.exchange file.scale file.mode file.chains (frame_in c.args.frames.now) c.requires.frames

pub of-requires : goal.of-requires
of-requires c =
    let file = c.args.file.now in
    let z = subst (λ (ids : List ℕ). AllZip (IsNearElement file.exchange file.scale file.mode) ids c.in-Ok.elements.items) c.elements.ensures
    (of_ok _ _ c.in_ok-elements.field-0 c.in-Ok.elements c.in-Ok.is (c.in_ok-elements.ensures file.chains (used_ids file.survey) c.requires.frames c.requires.cut.cut)) in
    model_made file c.in-Ok.elements.items c.in_order.result.items c.requires.measured.supported.opened c.requires.ready c.requires.cut.few z c.in_order.ensures.permutation c.in_order.ensures.rising

pub returns-in_ok-of-in-Ok-clause-model : goal.returns-in_ok-of-in-Ok-clause-model
returns-in_ok-of-in-Ok-clause-model c =
    let file = c.args.file.now in
    let opened = c.requires.measured.supported.opened in
    let z = subst (λ (ids : List ℕ). AllZip (IsNearElement file.exchange file.scale file.mode) ids c.in-Ok.elements.items) c.elements.ensures
    (of_ok _ _ c.in_ok-elements.field-0 c.in-Ok.elements c.in-Ok.is (c.in_ok-elements.ensures file.chains (used_ids file.survey) c.requires.frames c.requires.cut.cut)) in (
      none_first file c.args.sets.now c.requires.measured c.requires.cut (reach_clear file.exchange file.scale file.mode (element_ids file.survey) c.in-Ok.elements.items opened.surveyed.elements z),
      subst (λ (elements : List Element). IsModelOf file.exchange file.mode elements) (sym c.in_ok-of-in-Ok.ensures)
          (model_is file c.in-Ok.elements.items c.in_order.result.items opened z c.in_order.ensures.permutation c.in_order.ensures.rising),
    )

pub returns-in-Beyond-clause-fault : goal.returns-in-Beyond-clause-fault
returns-in-Beyond-clause-fault c =
    let file = c.args.file.now in
    let h = subst (λ (ids : List ℕ). IsFirstLacking file.exchange file.scale file.mode file.chains (used_ids file.survey) ids c.in-Err.lacking) c.elements.ensures
    (of_err _ _ c.in_ok-elements.field-0 c.in-Err.lacking c.in-Err.is (c.in_ok-elements.ensures file.chains (used_ids file.survey) c.requires.frames c.requires.cut.cut)) in
    reach_first file c.args.sets.now _ c.requires.measured c.requires.cut
    (reach_fault file.exchange file.scale file.mode file.chains (used_ids file.survey) (element_ids file.survey) c.in-Err.lacking c.requires.measured.supported.opened.surveyed.elements h c.in-Beyond.is)

pub unreachable-requires : goal.unreachable-requires
unreachable-requires c =
    let file = c.args.file.now in
    let h = subst (λ (ids : List ℕ). IsFirstLacking file.exchange file.scale file.mode file.chains (used_ids file.survey) ids c.in-Err.lacking) c.elements.ensures
    (of_err _ _ c.in_ok-elements.field-0 c.in-Err.lacking c.in-Err.is (c.in_ok-elements.ensures file.chains (used_ids file.survey) c.requires.frames c.requires.cut.cut)) in
    never_unready file.exchange file.scale file.mode file.chains (used_ids file.survey) (element_ids file.survey) c.in-Err.lacking c.requires.ready h c.in-Unready.is
