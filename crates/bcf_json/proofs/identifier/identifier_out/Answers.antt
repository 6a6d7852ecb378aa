use Rattle.std.proofs.Common.{◌∙◌, ap}
use Rattle.std.proofs.lemmas.Result.{IfOk-weaker}
use Rattle.std.specs.Int.{to_be_bytes, w128}
use Rattle.uuid.specs.Text.{hyphenated_text, lower}
use Rattle.bcf_json.specs.JsonTexts.{identifier_text}
use Rattle.bcf_json.proofs.identifier.identifier_out.Goals as goal

pub returns : goal.returns
unfolding identifier_text
returns c =
    let bytes = c.hyphenated.ensures ∙ c.from_u128-id.ensures ∙ ap (λ n. to_be_bytes w128 n) c.id_of.ensures in
    IfOk-weaker c.from_str.result _ _ (λ s e. e ∙ c.encode_lower.ensures.text ∙ ap (λ b. hyphenated_text lower b) bytes) c.from_str.ensures.ok
