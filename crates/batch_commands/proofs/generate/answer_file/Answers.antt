use Rattle.model_generator.specs.GeneratedFiles.{generated}
use Rattle.batch_commands.proofs.Blocks.{prints_of}
use Rattle.batch_commands.proofs.generate.answer_file.Goals as goal

pub returns : goal.returns
returns g c = prints_of _ _ (generated c.args.said.number c.args.said.count) 0 c.printed.result c.print_file-written.result c.print_file-written.ensures c.printed.ensures
