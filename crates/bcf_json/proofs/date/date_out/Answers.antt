use Rattle.std.proofs.Common.{◌∙◌}
use Rattle.std.proofs.lemmas.Result.{IfOk-weaker}
use Rattle.bcf_json.specs.JsonTexts.{IsDateText}
use Rattle.bcf_json.proofs.date.date_out.Goals as goal

pub returns : goal.returns
unfolding IsDateText
returns c =
    let at = c.civil_of-civil.ensures in
    IfOk-weaker c.of.result _ (IsDateText c.args.moment)
    (λ t e. (c.civil_of-civil.result, at, e ∙ c.as_str.ensures.value ∙ c.in_ok-text.ensures.ok)) c.of.ensures
