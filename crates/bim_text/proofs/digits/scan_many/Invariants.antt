use Rattle.std.proofs.Common.{◌≡◌, ◌+◌, ◌-◌, ◌^◌, ◌<◌, ◌≤◌, length, drop}
use Rattle.bim_text.specs.inner.NumberScanning.{front, kept_after}
use Rattle.bim_text.specs.declared.limits.TheConstants.{MOST_DIGITS}
use Rattle.bim_text.proofs.digits.scan_many.Given as goal

abbrev pub invariant-loop-at : goal.invariant-loop-at
invariant-loop-at l = record {
  within : l.at ≤ length l.text;
  fits : l.digits.all < 10 ^ MOST_DIGITS;
  zeros : l.digits.zeros ≤ l.at;
  end : l.fn.from + length (front (drop l.fn.from l.text)) ≡ l.at + length (front (drop l.at l.text));
  kept : kept_after l.fn.before (front (drop l.fn.from l.text)) ≡ kept_after l.digits (front (drop l.at l.text));
}

abbrev pub decreases-loop-at : goal.decreases-loop-at
decreases-loop-at l = length l.initial.text - l.at
