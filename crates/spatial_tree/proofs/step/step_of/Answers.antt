use Rattle.std.proofs.Common.{refl, sym, ◌∙◌, inl, inr, Some, None}
use Rattle.std.proofs.lemmas.List.{get_or_default}
use Rattle.spatial_tree.proofs.StepsMade.{made}
use Rattle.spatial_tree.proofs.step.step_of.Goals as goal

pub returns-in-Some-place_in : goal.returns-in-Some-place_in
returns-in-Some-place_in c =
    let p = c.in-Some-place_in.ensures in
    made c.args.containers.now c.args.wholes.now c.args.storeys.now c.args.objects.now c.args.object c.count_above-container.result c.count_above-whole.result (Some c.in-Some.next) _
    c.count_above-container.ensures c.count_above-whole.ensures c.is_torn-torn.ensures (sym c.in-Some.is ∙ c.next_above.ensures)
    (c.place_in.ensures, inl (refl, (c.in-Some-place_in.field-0, p.0, get_or_default c.args.storeys.now c.in-Some-place_in.field-0 c.in-Some.next 0 p.0 ∙ p.1)))

pub returns-in-None-place_in : goal.returns-in-None-place_in
returns-in-None-place_in c =
    made c.args.containers.now c.args.wholes.now c.args.storeys.now c.args.objects.now c.args.object c.count_above-container.result c.count_above-whole.result (Some c.in-Some.next) _
    c.count_above-container.ensures c.count_above-whole.ensures c.is_torn-torn.ensures (sym c.in-Some.is ∙ c.next_above.ensures)
    (c.place_in.ensures, inr (refl, c.in-None-place_in.ensures))

pub returns-in-None : goal.returns-in-None
returns-in-None c =
    made c.args.containers.now c.args.wholes.now c.args.storeys.now c.args.objects.now c.args.object c.count_above-container.result c.count_above-whole.result None _
    c.count_above-container.ensures c.count_above-whole.ensures c.is_torn-torn.ensures (sym c.in-None.is ∙ c.next_above.ensures)
    (refl, refl)
