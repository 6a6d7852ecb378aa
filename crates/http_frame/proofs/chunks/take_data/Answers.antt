use Rattle.std.proofs.Common.{arith}
use Rattle.http_frame.proofs.Advancing.{data_advances}
use Rattle.http_frame.proofs.chunks.take_data.Goals as goal

pub returns-clause-advances : goal.returns-clause-advances
returns-clause-advances c = data_advances c.args.bytes.now c.move_down.new.bytes c.args.here c.args.left c.min-count.result c.requires.part (omega arith) (omega arith) c.move_down.ensures.front c.move_down.ensures.rest
