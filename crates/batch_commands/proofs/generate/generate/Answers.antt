use Rattle.std.proofs.Common.{inl, refl, arith}
use Rattle.batch_commands.proofs.Answered.{generates_file, generates_numbers, printed_write, unwritten_status}
use Rattle.batch_commands.proofs.generate.generate.Goals as goal

pub returns-then-said-clause-does : goal.returns-then-said-clause-does
returns-then-said-clause-does g c = inl (generates_file c.args.said _ _ c.answer_file.result c.if-said.true c.answer_file.ensures)

pub returns-then-said-clause-write : goal.returns-then-said-clause-write
returns-then-said-clause-write g c = printed_write _ _ _ c.answer_file.result c.answer_file.ensures

pub returns-in-Ok-clause-does : goal.returns-in-Ok-clause-does
returns-in-Ok-clause-does g c =
    inl (generates_numbers c.args.said _ _ _ _ c.answer_numbers.result c.if-said.false c.in-Ok.ensures c.as_str.ensures.value c.answer_numbers.ensures)

pub returns-in-Ok-clause-write : goal.returns-in-Ok-clause-write
returns-in-Ok-clause-write g c = printed_write _ _ _ c.answer_numbers.result c.answer_numbers.ensures

pub returns-in-Err-clause-write : goal.returns-in-Err-clause-write
returns-in-Err-clause-write g c = unwritten_status _ _ 6 6 refl (λ e. omega (arith, e))
