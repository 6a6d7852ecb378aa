use Rattle.std.proofs.Common.{◌≡◌, length, ap, sym, ◌∙◌, arith}
use Rattle.bim_model.specs.declared.named_model.NamedModel.{NamedModel}
use Rattle.bucket_grid.proofs.Zips.{placed_more, placed_all}
use Rattle.bucket_grid.proofs.subjects.add_places.Goals as goal

pub loop-element-preserved : goal.loop-element-preserved
loop-element-preserved c d s h =
    let n : length c.elements-elements.result.now ≡ length c.index-models-model.result.model = ap length (c.elements-elements.ensures.same ∙ c.get.ensures ∙ ap (λ (m : NamedModel). m.model) (sym c.index-models-model.is)) in
    let t = c.loop-element-test.true in
    placed_more c.args.models.now c.args.model c.loop-element.element d c.index-models-model.result s c.loop-element.places.items _ c.requires c.index-models-model.is
    (omega (arith, t, n)) (c.loop-element.invariant d s h) c.in_ok-push.ensures.items

pub returns : goal.returns
returns c d s h =
    let n : length c.elements-elements.result.now ≡ length c.index-models-model.result.model = ap length (c.elements-elements.ensures.same ∙ c.get.ensures ∙ ap (λ (m : NamedModel). m.model) (sym c.index-models-model.is)) in
    let t = c.loop-element-test.false in
    placed_all c.args.models.now c.args.model c.loop-element.element d c.index-models-model.result s c.loop-element.places.items c.requires c.index-models-model.is
    (omega (arith, t, n)) (c.loop-element.invariant d s h)
