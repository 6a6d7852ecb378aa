use Rattle.std.proofs.Common.{◌≡◌, ◌+◌, ◌-◌, ◌≤◌, ◌++◌, length, take, drop}
use Rattle.http_frame.proofs.moves.move_down.Given as goal

abbrev pub invariant-loop-done : goal.invariant-loop-done
invariant-loop-done l = record {
  small : l.done ≤ l.count;
  front : take (l.to + l.done) l.bytes ≡ take l.to l.initial.bytes ++ take l.done (drop l.from l.initial.bytes);
  rest : drop (l.from + l.done) l.bytes ≡ drop (l.from + l.done) l.initial.bytes;
  len : length l.bytes ≡ length l.initial.bytes;
}

abbrev pub decreases-loop-done : goal.decreases-loop-done
decreases-loop-done l = l.count - l.done
