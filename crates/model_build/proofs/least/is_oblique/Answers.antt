use Rattle.model_build.proofs.AxesAlongGrid.{placement_told, operator_told}
use Rattle.model_build.proofs.least.is_oblique.Goals as goal

pub returns-then-is_axis_placement : goal.returns-then-is_axis_placement
returns-then-is_axis_placement c =
    placement_told c.args.exchange.now c.args.id c.axes_of.result c.is_none.result c.is_none.ensures c.if-is_axis_placement.ensures (c.requires.placement c.if-is_axis_placement.ensures) c.axes_of.ensures.axes
    c.axes_of.ensures.none

pub returns-then-is_operator : goal.returns-then-is_operator
returns-then-is_operator c =
    operator_told c.args.exchange.now c.args.id c.operator_axes.result c.is_none-then-is_operator.result c.is_none-then-is_operator.ensures c.if-is_operator.ensures (c.requires.operator c.if-is_operator.ensures)
    c.operator_axes.ensures.axes c.operator_axes.ensures.none
