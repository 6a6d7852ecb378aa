use Rattle.std.proofs.Common.{ap, ◌∙◌}
use Rattle.bim_model.specs.Snapshots.{Version}
use Rattle.book_history.specs.Weights.{told, elements_in}
use Rattle.federation_book.proofs.Sizes.{few_subjects}
use Rattle.federation_book.proofs.making.next_version.Goals as goal

pub grid_of-requires-clause-few : goal.grid_of-requires-clause-few
grid_of-requires-clause-few c =
    few_subjects c.args.limits.now c.args.snapshot c.elements_in-count.result
    (c.elements_in-count.ensures ∙ ap (λ ms. told (elements_in ms)) (c.models.ensures.same ∙ ap (λ (v : Version). v.models) c.get.ensures))
    c.if-count-limit.false c.requires.elements
