use Rattle.std.proofs.Common.{ap, ◌∙◌}
use Rattle.p21_values.specs.Values.{words_of}
use Rattle.p21_table.proofs.Handles.{bytes_asked, never_stood}
use Rattle.p21_table.proofs.value_ref.ValueRef.words.Goals as goal

pub returns-in-Some : goal.returns-in-Some
returns-in-Some c = bytes_asked c.self.inside.bytes.now c.self.inside.at c.self.inside.says words_of _ c.in-Some.ensures ∙ ap words_of c.self.view_is

pub returns-in_err-first : goal.returns-in_err-first
returns-in_err-first c = never_stood c.self.inside.bytes.now c.self.inside.at c.self.inside.says c.in_err-first.ensures.begins

pub returns : goal.returns
returns c =
    bytes_asked c.self.inside.bytes.now c.self.inside.at c.self.inside.says words_of _ (λ v s. c.words_there.ensures v (c.in_ok-first.ensures.begins v s))
    ∙ ap words_of c.self.view_is
