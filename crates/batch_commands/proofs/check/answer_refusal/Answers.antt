use Rattle.batch_commands.specs.Reports.{refusal_line}
use Rattle.batch_commands.proofs.Blocks.{prints_of}
use Rattle.batch_commands.proofs.check.answer_refusal.Goals as goal

pub returns : goal.returns
returns g c = prints_of _ _ (refusal_line c.args.refusal.now) 3 c.printed.result c.print_refusal-written.result c.print_refusal-written.ensures c.printed.ensures
