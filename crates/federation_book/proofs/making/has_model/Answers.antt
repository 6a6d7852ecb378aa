use Rattle.std.proofs.Common.{sym, ap, ◌∙◌, arith}
use Rattle.std.specs.List.{list_any}
use Rattle.std.specs.Str.{bytes_eq}
use Rattle.std.proofs.lemmas.List.{drop_all}
use Rattle.bim_model.specs.declared.named_model.NamedModel.{NamedModel}
use Rattle.federation_book.proofs.making.has_model.Goals as goal

pub returns : goal.returns
returns c =
    sym (c.loop-model.invariant ∙ ap (list_any (λ (m : NamedModel). bytes_eq m.name c.args.name.now)) (drop_all c.loop-model.model-index c.args.models.now (omega (arith, c.loop-model-test.false))))
