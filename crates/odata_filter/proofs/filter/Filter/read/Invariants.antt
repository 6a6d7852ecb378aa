use Rattle.std.proofs.Common.{◌-◌, ◌≤◌, length}
use Rattle.odata_filter.specs.declared.limits.TheConstants.{MOST_FILTER}
use Rattle.odata_filter.specs.inner.FilterSteps.{nothing_read, step}
use Rattle.odata_filter.proofs.TokenReading.{HasRead}
use Rattle.odata_filter.proofs.filter.Filter.read.Given as goal

abbrev pub invariant-loop-token : goal.invariant-loop-token
invariant-loop-token l = record {
  within : l.at ≤ length l.text;
  short : length l.text ≤ MOST_FILTER;
  so_far : HasRead nothing_read step l.text l.at l.read;
}

abbrev pub decreases-loop-token : goal.decreases-loop-token
decreases-loop-token l = length l.initial.text - l.at
