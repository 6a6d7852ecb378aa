use Rattle.std.proofs.Common.{ap, ◌∙◌}
use Rattle.p21_values.specs.Values.{is_absent}
use Rattle.p21_table.proofs.Handles.{bool_asked, never_stood}
use Rattle.p21_table.proofs.value_ref.ValueRef.is_absent.Goals as goal

pub returns-in-Some : goal.returns-in-Some
returns-in-Some c = bool_asked c.self.inside.bytes.now c.self.inside.at c.self.inside.says is_absent _ c.in-Some.ensures ∙ ap is_absent c.self.view_is

pub returns-in-Some-first_token : goal.returns-in-Some-first_token
returns-in-Some-first_token c =
    bool_asked c.self.inside.bytes.now c.self.inside.at c.self.inside.says is_absent _ (λ v s. c.absent_there.ensures v (c.in-Some-first_token.ensures.begins v s))
    ∙ ap is_absent c.self.view_is

pub returns-in-None : goal.returns-in-None
returns-in-None c = never_stood c.self.inside.bytes.now c.self.inside.at c.self.inside.says c.in-None.ensures.begins
