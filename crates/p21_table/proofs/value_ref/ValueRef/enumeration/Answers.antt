use Rattle.std.proofs.Common.{ap, ◌∙◌}
use Rattle.p21_values.specs.Values.{enumeration_of}
use Rattle.p21_table.proofs.Handles.{bytes_asked, never_stood}
use Rattle.p21_table.proofs.value_ref.ValueRef.enumeration.Goals as goal

pub returns-in_err-first : goal.returns-in_err-first
returns-in_err-first c = never_stood c.self.inside.bytes.now c.self.inside.at c.self.inside.says c.in_err-first.ensures.begins

pub returns : goal.returns
returns c =
    bytes_asked c.self.inside.bytes.now c.self.inside.at c.self.inside.says enumeration_of _ (λ v s. c.enumeration_there.ensures v (c.in_ok-first.ensures.begins v s))
    ∙ ap enumeration_of c.self.view_is
