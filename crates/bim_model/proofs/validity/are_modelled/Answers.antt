use Rattle.std.proofs.Common.{refl}
use Rattle.bim_model.specs.Models.{IsModelled}
use Rattle.bim_model.proofs.Tested.{all_more, all_whole}
use Rattle.bim_model.proofs.validity.are_modelled.Goals as goal

pub loop-element-preserved : goal.loop-element-preserved
loop-element-preserved c =
    all_more IsModelled c.args.elements.now c.loop-element.element-index c.element-item.result c.loop-element-test.true c.element-item.is
    c.loop-element.invariant (c.is_modelled.ensures.0 c.if-not-is_modelled.false)

pub returns : goal.returns
returns c =
    (λ h. all_whole IsModelled c.args.elements.now c.loop-element.element-index c.loop-element-test.false c.loop-element.invariant, λ all. refl)
