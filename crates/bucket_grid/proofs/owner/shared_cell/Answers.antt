use Rattle.bucket_grid.specs.Cells.{owner_of}
use Rattle.bucket_grid.proofs.Owners.{same_cell, owned, unowned}
use Rattle.bucket_grid.proofs.owner.shared_cell.Goals as goal

pub returns-then-hold_both-clause-some : goal.returns-then-hold_both-clause-some
returns-then-hold_both-clause-some c =
    let e = c.owner_of-cell.ensures in
    owned c.args.a.now c.args.b.now c.owner_of-cell.result c.hold_both.result (same_cell c.owner_of-cell.result (owner_of c.args.a.now c.args.b.now) e.x e.y e.z) c.hold_both.ensures c.if-hold_both.true

pub returns-else-hold_both-clause-none : goal.returns-else-hold_both-clause-none
returns-else-hold_both-clause-none c =
    let e = c.owner_of-cell.ensures in
    unowned c.args.a.now c.args.b.now c.owner_of-cell.result c.hold_both.result (same_cell c.owner_of-cell.result (owner_of c.args.a.now c.args.b.now) e.x e.y e.z) c.hold_both.ensures c.if-hold_both.false
