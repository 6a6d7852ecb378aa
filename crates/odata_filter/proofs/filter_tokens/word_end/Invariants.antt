use Rattle.std.proofs.Common.{◌≡◌, ◌+◌, ◌-◌, ◌≤◌, length, drop}
use Rattle.std.specs.List.{take_while}
use Rattle.odata_filter.specs.FilterTokens.{is_word_byte}
use Rattle.odata_filter.proofs.filter_tokens.word_end.Given as goal

abbrev pub invariant-loop-at : goal.invariant-loop-at
invariant-loop-at l = record {
  within : l.at ≤ length l.text;
  same : l.at + length (take_while is_word_byte (drop l.at l.text))
      ≡ l.from + length (take_while is_word_byte (drop l.from l.text));
}

abbrev pub decreases-loop-at : goal.decreases-loop-at
decreases-loop-at l = length l.initial.text - l.at
