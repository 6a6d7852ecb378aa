use Rattle.tri_exact.proofs.Choice.{first_yes, second_yes, third}
use Rattle.clearance.proofs.edge_pairs.row_near.Goals as goal

pub returns-then-corner_near : goal.returns-then-corner_near
returns-then-corner_near c = first_yes c.corner_near.ensures c.if-corner_near.true

pub returns-then-corner_near-2 : goal.returns-then-corner_near-2
returns-then-corner_near-2 c = second_yes c.corner_near-2.ensures c.if-corner_near-2.true

pub returns : goal.returns
returns c = third c.corner_near.ensures c.if-corner_near.false c.corner_near-2.ensures c.if-corner_near-2.false c.corner_near-3.ensures
