use Rattle.std.proofs.Common.{◌∙◌}
use Rattle.std.proofs.lemmas.Result.{IfOk-weaker}
use Rattle.bim_files.proofs.Lending.{content_first, content_none}
use Rattle.bim_files.proofs.loans.contents_of.Goals as goal

pub returns-in-Some : goal.returns-in-Some
returns-in-Some c =
    IfOk-weaker c.copy.result _ _
    (λ made is. is ∙ content_first c.args.files.now c.args.name.now c.in-Some.place c.index-files-place.result c.in-Some.ensures.found) c.copy.ensures

pub returns-in-None : goal.returns-in-None
returns-in-None c = IfOk-weaker c.of.result _ _ (λ made is. is ∙ content_none c.args.files.now c.args.name.now c.in-None.ensures.none) c.of.ensures
