use Rattle.std.proofs.Common.{sym, ap, ◌∙◌}
use Rattle.p21_reader.specs.Machine.{next}
use Rattle.p21_reader.specs.inner.Heading.{sign_of, signs_of}
use Rattle.p21_reader.proofs.Headers.{signs_append}
use Rattle.p21_reader.proofs.nested.follow.Goals as goal

pub returns-in_ok-extend_from_slice-in-Some-clause-follows : goal.returns-in_ok-extend_from_slice-in-Some-clause-follows
returns-in_ok-extend_from_slice-in-Some-clause-follows c = (
  signs_of c.in-Some.later.now,
  ap (λ x. next (sign_of c.args.want) x) (sym c.look.ensures) ∙ c.in-Some.ensures,
  ap signs_of c.in_ok-extend_from_slice-in-Some.ensures.items ∙ signs_append c.args.wants.now.items c.in-Some.later.now,
)
