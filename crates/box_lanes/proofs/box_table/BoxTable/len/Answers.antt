use Rattle.std.proofs.Common.{length, ap, subst, ◌∙◌}
use Rattle.std.specs.List.{All}
use Rattle.box_lanes.specs.CoarseBoxes.{Fits32}
use Rattle.box_lanes.proofs.Eights.{fit}
use Rattle.box_lanes.proofs.box_table.BoxTable.len.Goals as goal

pub returns-clause-count : goal.returns-clause-count
returns-clause-count c = c.self.invariant.count_is ∙ ap length c.self.view_is

pub returns-clause-few : goal.returns-clause-few
returns-clause-few c = c.self.invariant.few

pub returns-clause-fits : goal.returns-clause-fits
returns-clause-fits c = subst (λ bs. All Fits32 bs) c.self.view_is (fit c.self.inside c.self.invariant)
