use Rattle.std.proofs.Common.{◌-◌, ◌^◌, length, min, ap, ◌∙◌, arith}
use Rattle.std.proofs.lemmas.List.{take_all}
use Rattle.bim_model.specs.Keys.{subjects_of}
use Rattle.bim_model.specs.declared.named_model.NamedModel.{NamedModel}
use Rattle.bucket_grid.proofs.Zips.{count_more}
use Rattle.clash_check.proofs.version_check.element_count.Goals as goal

pub loop-model-preserved : goal.loop-model-preserved
loop-model-preserved c =
    let m = c.model-item.result in
    let n = ap length (c.elements.ensures.same ∙ c.get.ensures) ∙ ap (λ (x : NamedModel). length x.model) c.model-item.is in
    let more = count_more c.args.models.now c.loop-model.model-index m c.loop-model-test.true in
    grind (arith, n, more, c.loop-model.invariant)

pub returns : goal.returns
returns c =
    let all = ap (λ l. length (subjects_of l)) (take_all c.loop-model.model-index c.args.models.now (omega (arith, c.loop-model-test.false))) in
    c.loop-model.invariant ∙ ap (λ n. min n (2 ^ 64 - 1)) all
