use Rattle.model_build.proofs.ModelOfWalk.{model_sound, model_told}
use Rattle.model_build.proofs.building.model_of_walked.Goals as goal

pub of-requires : goal.of-requires
of-requires c =
    let (world, mode, w) = c.requires in
    model_sound world mode c.args.walked c.in_ok-elements.elements.items c.in_order.result.items c.in_ok-elements.ensures w c.in_order.ensures.permutation c.in_order.ensures.rising

pub returns : goal.returns
returns c = λ world mode w.
    model_told world mode c.args.walked c.in_ok-elements.elements.items c.in_order.result.items c.of.result c.in_ok-elements.ensures w c.in_order.ensures.permutation c.in_order.ensures.rising c.of.ensures
