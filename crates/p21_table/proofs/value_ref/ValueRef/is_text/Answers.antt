use Rattle.std.proofs.Common.{ap, ◌∙◌, is_some}
use Rattle.p21_values.specs.declared.value.Value21.{Value21}
use Rattle.p21_values.specs.Values.{words_of}
use Rattle.p21_table.proofs.Handles.{bool_asked}
use Rattle.p21_table.proofs.value_ref.ValueRef.is_text.Goals as goal

pub returns-in-Some : goal.returns-in-Some
returns-in-Some c =
    bool_asked c.self.inside.bytes.now c.self.inside.at c.self.inside.says (λ (v : Value21). is_some (words_of v)) _ c.in-Some.ensures
    ∙ ap (λ (v : Value21). is_some (words_of v)) c.self.view_is
