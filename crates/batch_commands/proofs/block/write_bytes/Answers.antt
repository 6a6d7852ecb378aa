use Rattle.batch_commands.proofs.Blocks.{less_stops}
use Rattle.batch_commands.proofs.block.write_bytes.Goals as goal

pub returns-in-Err : goal.returns-in-Err
returns-in-Err g c = less_stops _ _ c.args.bytes.now c.in-Err.ensures
