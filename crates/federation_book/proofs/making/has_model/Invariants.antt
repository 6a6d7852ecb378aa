use Rattle.std.proofs.Common.{◌≡◌, drop}
use Rattle.std.specs.List.{list_any}
use Rattle.std.specs.Str.{bytes_eq}
use Rattle.bim_model.specs.declared.named_model.NamedModel.{NamedModel}
use Rattle.federation_book.proofs.making.has_model.Given as goal

abbrev pub invariant-loop-model : goal.invariant-loop-model
invariant-loop-model l =
    list_any (λ (m : NamedModel). bytes_eq m.name l.name) l.models ≡ list_any (λ (m : NamedModel). bytes_eq m.name l.name) (drop l.model-index l.models)
