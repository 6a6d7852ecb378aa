use Rattle.std.proofs.Common.{◌≡◌, ◌++◌, List, sym, subst, ap, ◌∙◌, arith}
use Rattle.std.proofs.lemmas.List.{take_all}
use Rattle.bim_model.specs.declared.element.Element.{Element}
use Rattle.bim_model.specs.Models as boxes
use Rattle.bim_model.specs.declared.named_model.NamedModel.{NamedModel}
use Rattle.bucket_grid.proofs.Reach.{boxes_added, near_added}
use Rattle.bucket_grid.proofs.subjects.add_boxes.Goals as goal

pub returns-clause-boxes : goal.returns-clause-boxes
returns-clause-boxes c d s h =
    let all : c.loop-extent.boxes.items ≡ c.args.boxes.now.items ++ c.extents-extents.result.now = c.loop-extent.invariant ∙ ap (λ l. c.args.boxes.now.items ++ l) (take_all _ _ (omega arith)) in
    boxes_added c.args.models.now c.args.model d c.index-models-model.result s c.extents-extents.result.now c.args.boxes.now.items c.loop-extent.boxes.items c.requires c.index-models-model.is
    (subst (λ (l : List Element). boxes.AreBoxes l c.extents-extents.result.now) (c.get.ensures ∙ ap (λ (m : NamedModel). m.model) (sym c.index-models-model.is)) c.extents-extents.ensures.boxes) all h

pub returns-clause-near : goal.returns-clause-near
returns-clause-near c h =
    let all : c.loop-extent.boxes.items ≡ c.args.boxes.now.items ++ c.extents-extents.result.now = c.loop-extent.invariant ∙ ap (λ l. c.args.boxes.now.items ++ l) (take_all _ _ (omega arith)) in
    near_added c.get.result.now c.extents-extents.result.now c.args.boxes.now.items c.loop-extent.boxes.items c.extents-extents.ensures.model c.extents-extents.ensures.boxes all h
