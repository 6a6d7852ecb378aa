use Rattle.std.proofs.Common.{ap, ◌∙◌}
use Rattle.p21_values.specs.Values.{typed_of}
use Rattle.p21_table.proofs.Handles.{held_stands, held_told, none_held_told, never_stood}
use Rattle.p21_table.proofs.value_ref.ValueRef.typed.Goals as goal

pub of-requires-clause-says : goal.of-requires-clause-says
of-requires-clause-says c =
    held_stands c.self.inside.bytes.now c.self.inside.at c.in-Some.at c.self.inside.says (λ v s. c.in-Some.ensures.held v (c.in_ok-first.ensures.begins v s))

pub returns-in-Some : goal.returns-in-Some
returns-in-Some c =
    held_told c.self.inside.bytes.now c.self.inside.at c.in-Some.at c.self.inside.says c.of.result (λ v s. c.in-Some.ensures.held v (c.in_ok-first.ensures.begins v s)) c.of.ensures ∙ ap typed_of c.self.view_is

pub returns-in-None : goal.returns-in-None
returns-in-None c =
    none_held_told c.self.inside.bytes.now c.self.inside.at c.self.inside.says (λ v s. c.in-None.ensures.held v (c.in_ok-first.ensures.begins v s)) ∙ ap typed_of c.self.view_is

pub returns-in_err-first : goal.returns-in_err-first
returns-in_err-first c = never_stood c.self.inside.bytes.now c.self.inside.at c.self.inside.says c.in_err-first.ensures.begins
