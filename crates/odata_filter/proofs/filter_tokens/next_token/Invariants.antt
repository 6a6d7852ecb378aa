use Rattle.std.proofs.Common.{◌≡◌, ◌-◌, ◌≤◌, zero, length, drop}
use Rattle.odata_filter.specs.FilterTokens.{tokens_from}
use Rattle.odata_filter.proofs.filter_tokens.next_token.Given as goal

abbrev pub invariant-loop-at : goal.invariant-loop-at
invariant-loop-at l = record {
  low : l.from ≤ l.at;
  within : l.at ≤ length l.text;
  same : tokens_from l.at zero (drop l.at l.text) ≡ tokens_from l.from zero (drop l.from l.text);
}

abbrev pub decreases-loop-at : goal.decreases-loop-at
decreases-loop-at l = length l.initial.text - l.at
