use Rattle.std.proofs.Common.{◌≡◌, ℕ, List, IfOk, string_bytes, ap, subst, ◌∙◌}
use Rattle.bim_model.specs.declared.element.Element.{Element}
use Rattle.batch_commands.proofs.Printed.{line_of}
use Rattle.batch_commands.proofs.report.clash_line.Goals as goal

pub returns : goal.returns
returns c =
    let chars : Element → List ℕ = λ e. e.guid.chars in
    subst (λ (y : List ℕ). IfOk c.format.result (λ text. string_bytes text ≡ y))
    (line_of c.args.found.now c.args.pair _ _ _ _ c.model_name-first.ensures (c.as_str-first_guid.ensures ∙ ap chars c.element.ensures.element) c.model_name-second.ensures
    (c.as_str-second_guid.ensures ∙ ap chars c.element-2.ensures.element)) c.format.ensures.ok
