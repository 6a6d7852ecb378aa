use Rattle.std.proofs.Common.{Option, inl, refl, subst, arith}
use Rattle.batch_commands.specs.declared.check_words.CheckWords.{CheckWords}
use Rattle.batch_commands.specs.CheckWords.{check_words}
use Rattle.batch_commands.specs.BatchCommands.{Checks}
use Rattle.batch_commands.proofs.Answered.{check_wanting, unread_status, unwritten_status}
use Rattle.batch_commands.proofs.check.run_check.Goals as goal

pub returns-in-Ok-Some-clause-does : goal.returns-in-Ok-Some-clause-does
returns-in-Ok-Some-clause-does g c =
    let words = rw c.in-Ok-Some.field-0-is at c.in-Ok-Some.ensures in
    subst (λ (said : Option CheckWords). Checks said (g.F.Files.seen c.args.files.now) (g.F.Files.seen c.check_said.new.files)
    (g.K.Sink.seen c.args.sink.now) (g.K.Sink.seen c.check_said.new.sink) c.check_said.result) words (inl c.check_said.ensures.does)

pub returns-in-Ok-None-clause-does : goal.returns-in-Ok-None-clause-does
returns-in-Ok-None-clause-does g c =
    let words = rw c.in-Ok-None.field-0-is at c.in-Ok-None.ensures in
    subst (λ (said : Option CheckWords). Checks said (g.F.Files.seen c.args.files.now) (g.F.Files.seen c.args.files.now)
    (g.K.Sink.seen c.args.sink.now) (g.K.Sink.seen c.print_usage.new.sink) c.print_usage.result) words (inl (refl, c.print_usage.ensures))

pub returns-in-Ok-None-clause-read : goal.returns-in-Ok-None-clause-read
returns-in-Ok-None-clause-read g c = unread_status _ c.print_usage.result 2 c.print_usage.ensures.status_is (λ e. omega (arith, e))

pub returns-in-Ok-None-clause-write : goal.returns-in-Ok-None-clause-write
returns-in-Ok-None-clause-write g c = unwritten_status _ _ c.print_usage.result 2 c.print_usage.ensures.status_is (λ e. omega (arith, e))

pub returns-in-Err-clause-does : goal.returns-in-Err-clause-does
returns-in-Err-clause-does g c =
    check_wanting (check_words c.args.words.now) (g.F.Files.seen c.args.files.now) (g.K.Sink.seen c.args.sink.now)

pub returns-in-Err-clause-read : goal.returns-in-Err-clause-read
returns-in-Err-clause-read g c = unread_status _ 6 6 refl (λ e. omega (arith, e))

pub returns-in-Err-clause-write : goal.returns-in-Err-clause-write
returns-in-Err-clause-write g c = unwritten_status _ _ 6 6 refl (λ e. omega (arith, e))
