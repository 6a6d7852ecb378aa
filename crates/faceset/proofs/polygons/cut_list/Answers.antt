use Rattle.std.proofs.Common.{Some, None}
use Rattle.faceset.proofs.PolygonsMade.{joined_cut, joined_together}
use Rattle.faceset.proofs.polygons.cut_list.Goals as goal

pub returns-in-Some : goal.returns-in-Some
returns-in-Some c =
    let ears = rw c.in-Some.is at c.in_ok-ears.ensures in
    joined_cut c.args.outer.now c.args.inner.now c.args.list.now (Some c.in-Some.ears.items) c.requires.some c.requires.joined ears

pub returns-in-None : goal.returns-in-None
returns-in-None c =
    let none = rw c.in-None.is at c.in_ok-ears.ensures in
    (joined_cut c.args.outer.now c.args.inner.now c.args.list.now None c.requires.some c.requires.joined none, joined_together c.args.outer.now c.args.inner.now c.args.list.now c.requires.joined)
