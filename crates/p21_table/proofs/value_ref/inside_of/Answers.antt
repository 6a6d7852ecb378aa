use Rattle.p21_table.proofs.Handles.{never_stood}
use Rattle.p21_table.proofs.value_ref.inside_of.Goals as goal

pub returns-in-Some-clause-inside : goal.returns-in-Some-clause-inside
returns-in-Some-clause-inside c = c.in-Some.ensures.inside

pub returns-in_err-first-clause-inside : goal.returns-in_err-first-clause-inside
returns-in_err-first-clause-inside c = never_stood c.args.bytes.now c.args.at c.requires.says c.in_err-first.ensures.begins

pub returns-clause-inside : goal.returns-clause-inside
returns-clause-inside c = λ v s. c.inside_there.ensures.inside v (c.in_ok-first.ensures.begins v s)
