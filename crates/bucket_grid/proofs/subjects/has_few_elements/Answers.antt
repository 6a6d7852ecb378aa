use Rattle.std.proofs.Common.{◌+◌, true≢false, length, refl, sym, ap, ◌∙◌, arith}
use Rattle.std.proofs.lemmas.List.{take_all}
use Rattle.bim_model.specs.Keys.{subjects_of}
use Rattle.bim_model.specs.declared.named_model.NamedModel.{NamedModel}
use Rattle.bucket_grid.proofs.Zips.{count_more, count_some}
use Rattle.bucket_grid.proofs.subjects.has_few_elements.Goals as goal

pub loop-model-preserved : goal.loop-model-preserved
loop-model-preserved c =
    let m = c.model-item.result in
    let n = ap length (c.elements-count.ensures.same ∙ c.get.ensures) ∙ ap (λ (x : NamedModel). length x.model) c.model-item.is in
    let more = count_more c.args.models.now c.loop-model.model-index m c.loop-model-test.true in
    omega (arith, n, more, c.loop-model.invariant)

pub returns-then-count-left : goal.returns-then-count-left
returns-then-count-left c =
    let m = c.model-item.result in
    let n = ap length (c.elements-count.ensures.same ∙ c.get.ensures) ∙ ap (λ (x : NamedModel). length x.model) c.model-item.is in
    let more = count_more c.args.models.now c.loop-model.model-index m c.loop-model-test.true in
    let some = count_some c.args.models.now (c.loop-model.model-index + 1) in
    (λ e. absurd (true≢false (sym e)), λ few. absurd (omega (arith, n, more, some, c.loop-model.invariant)))

pub returns : goal.returns
returns c =
    let all = ap (λ l. length (subjects_of l)) (take_all c.loop-model.model-index c.args.models.now (omega (arith, c.loop-model-test.false))) in
    (λ e. omega (arith, all, c.loop-model.invariant), λ few. refl)
