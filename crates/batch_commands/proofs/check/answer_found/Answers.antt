use Rattle.batch_commands.specs.Reports.{found_bytes}
use Rattle.batch_commands.proofs.Blocks.{prints_of}
use Rattle.batch_commands.proofs.check.answer_found.Goals as goal

pub returns : goal.returns
returns g c = prints_of _ _ (found_bytes c.args.found.now) 0 c.printed.result c.print_found-written.result c.print_found-written.ensures c.printed.ensures
