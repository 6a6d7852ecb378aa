use Rattle.std.proofs.Common.{add-one, ap, ◌∙◌}
use Rattle.odata_filter.specs.Conditions.{Negated}
use Rattle.odata_filter.proofs.filter_levels.negated.Goals as goal

pub loop-preserved : goal.loop-preserved
loop-preserved c = rw add-one (c.in_ok-made.ensures ∙ ap Negated c.loop.invariant)
