use Rattle.std.proofs.Common.{length}
use Rattle.batch_commands.proofs.Pieces.{PutOf}
use Rattle.batch_commands.proofs.generate.put_pieces.Given as goal

abbrev pub invariant-asks : goal.invariant-asks
invariant-asks g l = PutOf (g.K.Sink.seen l.initial.sink) (g.K.Sink.seen l.sink) l.initial.block.items l.block.items l.initial.pieces l.pieces

abbrev pub decreases-asks : goal.decreases-asks
decreases-asks g l = length l.pieces
