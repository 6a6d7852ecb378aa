use Rattle.std.proofs.Common.{arith}
use Rattle.bim_text.proofs.AllRows.{row_room}
use Rattle.bim_text.proofs.spelled_text.push_row_at.Goals as goal

pub overflow_add-result : goal.overflow_add-result
overflow_add-result c = omega (arith, row_room c.args.bytes.now c.args.at c.in_ok-size.size c.requires.place c.in_ok-size.ensures.size, c.requires.short)
