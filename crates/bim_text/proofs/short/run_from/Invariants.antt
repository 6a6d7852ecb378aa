use Rattle.std.proofs.Common.{◌≡◌, ◌+◌, ◌-◌, ◌≤◌, length, drop}
use Rattle.p21_lexer.specs.Spelling.{value_after}
use Rattle.bim_text.specs.inner.NumberScanning.{front, HasRoom}
use Rattle.bim_text.proofs.short.run_from.Given as goal

abbrev pub invariant-loop-at : goal.invariant-loop-at
invariant-loop-at l = record {
  within : l.at ≤ length l.bytes;
  on : l.fn.from ≤ l.at;
  few : l.at ≤ l.fn.limit;
  room : HasRoom l.value (l.fn.limit - l.at);
  end : l.fn.from + length (front (drop l.fn.from l.bytes)) ≡ l.at + length (front (drop l.at l.bytes));
  value : value_after l.fn.before (front (drop l.fn.from l.bytes)) ≡ value_after l.value (front (drop l.at l.bytes));
}

abbrev pub decreases-loop-at : goal.decreases-loop-at
decreases-loop-at l = length l.initial.bytes - l.at
