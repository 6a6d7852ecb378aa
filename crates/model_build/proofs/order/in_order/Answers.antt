use Rattle.std.proofs.Common.{rules}
use Rattle.std.proofs.lemmas.List.Sorted.{answers_always}
use Rattle.bim_model.specs.declared.element.Element.{Element}
use Rattle.model_build.proofs.ElementsRise.{rise_strictly}
use Rattle.model_build.proofs.order.in_order.Goals as goal

pub returns-clause-rising : goal.returns-clause-rising
returns-clause-rising c =
    rise_strictly (λ (e : Element). e.guid.chars) c.args.elements.items c.sort_unstable_by_key.new.self.items c.sort_unstable_by_key.ensures.permutation
    (c.sort_unstable_by_key.ensures.sorted (λ (e : Element). e.guid.chars) (answers_always _ _ _ (λ f a r g h. search rules)))
