use Rattle.std.proofs.Common.{◌≡◌, ◌+◌, ◌-◌, ◌^◌, ◌<◌, ◌≤◌, length, drop}
use Rattle.p21_lexer.specs.Spelling.{value_after}
use Rattle.bim_text.specs.inner.NumberScanning.{front}
use Rattle.bim_text.proofs.small.small_digits.Given as goal

abbrev pub invariant-loop-at : goal.invariant-loop-at
invariant-loop-at l = record {
  within : l.at ≤ length l.text;
  few : l.at ≤ 34;
  small : l.value < 10 ^ 15;
  end : length (front l.text) ≡ l.at + length (front (drop l.at l.text));
  value : value_after 0 (front l.text) ≡ value_after l.value (front (drop l.at l.text));
}

abbrev pub decreases-loop-at : goal.decreases-loop-at
decreases-loop-at l = length l.initial.text - l.at
