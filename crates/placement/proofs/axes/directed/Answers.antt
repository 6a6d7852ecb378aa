use Rattle.std.proofs.Common.{sym, ◌∙◌}
use Rattle.placement.proofs.Aligned.{no_direction}
use Rattle.placement.proofs.axes.directed.Goals as goal

pub returns-in_err-direction_of-clause-none : goal.returns-in_err-direction_of-clause-none
returns-in_err-direction_of-clause-none c =
    rw c.from_residual-in_err-direction_of.ensures (no_direction c.args.exchange.now c.args.value.now c.in_ok-to.to (sym c.is_absent.ensures ∙ c.if-is_absent.false) (sym c.in_ok-to.ensures) c.in_err-direction_of.ensures.none)
