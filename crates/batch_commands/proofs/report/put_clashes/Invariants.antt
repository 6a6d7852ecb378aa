use Rattle.std.proofs.Common.{Ok, take}
use Rattle.batch_commands.specs.Reports.{clash_lines}
use Rattle.batch_commands.specs.PrintedOutput.{Puts}
use Rattle.batch_commands.proofs.report.put_clashes.Given as goal

abbrev pub invariant-loop-pair : goal.invariant-loop-pair
invariant-loop-pair g l =
    Puts (g.K.Sink.seen l.initial.sink) (g.K.Sink.seen l.sink) l.initial.block.items l.block.items (clash_lines l.found (take l.pair-index l.pairs)) (Ok tt)
