use Rattle.std.proofs.Common.{ap, ◌∙◌}
use Rattle.p21_values.specs.Values.{reference_of}
use Rattle.p21_table.proofs.Handles.{number_asked, never_stood}
use Rattle.p21_table.proofs.value_ref.ValueRef.reference.Goals as goal

pub returns-in-Some : goal.returns-in-Some
returns-in-Some c = number_asked c.self.inside.bytes.now c.self.inside.at c.self.inside.says reference_of _ c.in-Some.ensures ∙ ap reference_of c.self.view_is

pub returns-in_err-first : goal.returns-in_err-first
returns-in_err-first c = never_stood c.self.inside.bytes.now c.self.inside.at c.self.inside.says c.in_err-first.ensures.begins

pub returns : goal.returns
returns c =
    number_asked c.self.inside.bytes.now c.self.inside.at c.self.inside.says reference_of _ (λ v s. c.reference_there.ensures v (c.in_ok-first.ensures.begins v s))
    ∙ ap reference_of c.self.view_is
