use Rattle.std.specs.Option.{option_copied}
use Rattle.ifc_elements.proofs.TablesOfPoints.{points_told}
use Rattle.ifc_elements.proofs.points.points_at.Goals as goal

pub returns : goal.returns
returns c = points_told c.args.exchange.now c.args.table.now c.args.id c.in_ok-at.at (option_copied c.kept_at.result) c.in_ok-at.ensures c.kept_at.ensures
