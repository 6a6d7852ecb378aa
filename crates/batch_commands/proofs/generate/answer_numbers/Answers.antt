use Rattle.batch_commands.proofs.Blocks.{prints_of}
use Rattle.batch_commands.proofs.generate.answer_numbers.Goals as goal

pub returns : goal.returns
returns g c =
    let flushes = rw c.as_bytes.ensures.value at c.write_bytes-written.ensures in
    prints_of _ _ c.args.text.now 0 c.printed.result c.write_bytes-written.result flushes c.printed.ensures
