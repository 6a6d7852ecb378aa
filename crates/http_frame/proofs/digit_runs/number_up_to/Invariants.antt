use Rattle.std.proofs.Common.{◌≡◌, ◌≤◌, take}
use Rattle.std.specs.Str.Parse.{digits_value}
use Rattle.http_frame.proofs.digit_runs.number_up_to.Given as goal

abbrev pub invariant-loop-b : goal.invariant-loop-b
invariant-loop-b l = record {
  is : l.value ≡ digits_value 10 (take l.b-index l.text);
  small : l.value ≤ l.most;
}
