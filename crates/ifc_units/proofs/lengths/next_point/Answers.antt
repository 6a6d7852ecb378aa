use Rattle.ifc_units.proofs.lengths.next_point.Goals as goal

pub returns-in-Some : goal.returns-in-Some
returns-in-Some c = let row = c.in-Some.ensures in (row.0, row.1, c.row_point.ensures row.0 row.2)
