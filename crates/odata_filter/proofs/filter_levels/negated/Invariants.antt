use Rattle.std.proofs.Common.{◌≡◌}
use Rattle.odata_filter.specs.inner.FilterSteps.{negated}
use Rattle.odata_filter.proofs.filter_levels.negated.Given as goal

abbrev pub invariant-loop : goal.invariant-loop
invariant-loop l = l.made ≡ negated l.counter l.fn.filter
