use Rattle.std.proofs.Common.{◌+◌, ◌++◌, ◌∷◌, [], take, sym, subst, List}
use Rattle.bim_model.specs.declared.geometry.Triangle.{Triangle}
use Rattle.bim_model.specs.declared.geometry.Extent.{Extent}
use Rattle.bim_model.specs.Boxes.{IsExtentOf}
use Rattle.bim_model.specs.Models.{IsBoxOf, AreBoxes}
use Rattle.bim_model.proofs.Zips.{zip_more}
use Rattle.bim_model.proofs.model.extents_of.Goals as goal

pub loop-element-preserved : goal.loop-element-preserved
loop-element-preserved c =
    let more : AreBoxes (take (c.loop-element.element-index + 1) c.args.elements.now) (c.loop-element.extents.items ++ c.extent_of.result ∷ []) =
    zip_more IsBoxOf c.args.elements.now c.loop-element.element-index c.loop-element.extents.items c.element-item.result c.extent_of.result c.loop-element-test.true c.element-item.is
    c.loop-element.invariant (subst (λ (ts : List Triangle). IsExtentOf ts c.extent_of.result) c.as_slice.ensures c.extent_of.ensures) in
    subst (λ (xs : List Extent). AreBoxes (take (c.loop-element.element-index + 1) c.args.elements.now) xs) (sym c.in_ok-push.ensures.items) more
