use Rattle.std.proofs.Common.{Option, inl, refl, subst, arith}
use Rattle.batch_commands.specs.declared.generate_words.GenerateWords.{GenerateWords}
use Rattle.batch_commands.specs.GenerateWords.{generate_words}
use Rattle.batch_commands.specs.BatchCommands.{Generates}
use Rattle.batch_commands.proofs.Answered.{generate_wanting, unwritten_status}
use Rattle.batch_commands.proofs.generate.run_generate.Goals as goal

pub returns-in-Ok-Some-clause-does : goal.returns-in-Ok-Some-clause-does
returns-in-Ok-Some-clause-does g c =
    let words = rw c.in-Ok-Some.field-0-is at c.in-Ok-Some.ensures.words in
    subst (λ (said : Option GenerateWords). Generates said (g.K.Sink.seen c.args.sink.now) (g.K.Sink.seen c.generate.new.sink) c.generate.result) words c.generate.ensures.does

pub returns-in-Ok-None-clause-does : goal.returns-in-Ok-None-clause-does
returns-in-Ok-None-clause-does g c =
    let words = rw c.in-Ok-None.field-0-is at c.in-Ok-None.ensures.words in
    subst (λ (said : Option GenerateWords). Generates said (g.K.Sink.seen c.args.sink.now) (g.K.Sink.seen c.print_usage.new.sink) c.print_usage.result) words (inl c.print_usage.ensures)

pub returns-in-Ok-None-clause-write : goal.returns-in-Ok-None-clause-write
returns-in-Ok-None-clause-write g c = unwritten_status _ _ c.print_usage.result 2 c.print_usage.ensures.status_is (λ e. omega (arith, e))

pub returns-in-Err-clause-does : goal.returns-in-Err-clause-does
returns-in-Err-clause-does g c = generate_wanting (generate_words c.args.words.now) (g.K.Sink.seen c.args.sink.now)

pub returns-in-Err-clause-write : goal.returns-in-Err-clause-write
returns-in-Err-clause-write g c = unwritten_status _ _ 6 6 refl (λ e. omega (arith, e))
