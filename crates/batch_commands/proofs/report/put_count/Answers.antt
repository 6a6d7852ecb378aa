use Rattle.std.proofs.Common.{List, ℕ, subst, ◌∙◌}
use Rattle.batch_commands.specs.declared.block.Stop.TheVariants.{Memory}
use Rattle.batch_commands.specs.PrintedOutput.{Puts}
use Rattle.batch_commands.proofs.Blocks.{memory_stops, residual}
use Rattle.batch_commands.proofs.report.put_count.Goals as goal

pub returns-in_err-line : goal.returns-in_err-line
returns-in_err-line g c = rw (residual _ Memory c.from_residual.ensures.1) (memory_stops _ _)

pub returns : goal.returns
returns g c =
    subst (λ (text : List ℕ). Puts (g.K.Sink.seen c.args.sink.now) (g.K.Sink.seen c.put.new.sink) c.args.block.now.items c.put.new.block.items text c.put.result)
    (c.as_str.ensures.value ∙ c.in_ok-line.ensures) c.put.ensures
