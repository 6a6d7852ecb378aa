use Rattle.std.proofs.Common.{◌≡◌, length, take, ◌-◌, ◌≤◌}
use Rattle.bim_io.specs.StreamViews.{SinkTakes}
use Rattle.bim_io.proofs.whole.write_whole.Given as goal

abbrev pub invariant-loop-at : goal.invariant-loop-at
invariant-loop-at g l = record {
  within : l.at ≤ length l.bytes;
  took : SinkTakes (g.K.Sink.seen l.initial.sink) (g.K.Sink.seen l.sink) (take l.at l.bytes);
  quiet : (g.K.Sink.seen l.sink).faults ≡ (g.K.Sink.seen l.initial.sink).faults;
}

abbrev pub decreases-loop-at : goal.decreases-loop-at
decreases-loop-at g l = length l.bytes - l.at
