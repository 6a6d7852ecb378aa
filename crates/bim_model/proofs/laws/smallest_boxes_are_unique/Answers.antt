use Rattle.bim_model.proofs.Unique.{extent_same, boxes_same}
use Rattle.bim_model.proofs.laws.smallest_boxes_are_unique.Goals as goal

pub returns-clause-one : goal.returns-clause-one
returns-clause-one c = extent_same

pub returns-clause-each : goal.returns-clause-each
returns-clause-each c = boxes_same
