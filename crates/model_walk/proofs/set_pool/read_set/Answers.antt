use Rattle.std.proofs.Common.{Some, List, length, sym, ◌∙◌, subst, ap, arith}
use Rattle.std.specs.List.{All}
use Rattle.bim_model.specs.Points.{IsGridPoint}
use Rattle.faceset.specs.FaceSets.{SetTriangles}
use Rattle.walk_rows.specs.declared.triangle_rows.Row.{Row}
use Rattle.walk_rows.specs.Rows.{triangles_at}
use Rattle.model_walk.proofs.OneSetRead.{pooled_grid, is_read}
use Rattle.model_walk.proofs.set_pool.read_set.Goals as goal

pub rows_of_set-requires-clause-in_grid : goal.rows_of_set-requires-clause-in_grid
rows_of_set-requires-clause-in_grid c =
    let p = c.requires.points in
    subst (All IsGridPoint) (sym c.as_slice.ensures) (pooled_grid c.args.exchange.now p.0 p.1 c.args.points.now c.in-Some.list c.in-Some-get.found.now p.2 (sym c.in-Some-get.ensures))

pub returns : goal.returns
returns c = λ scale mode are. (
    let world = c.args.exchange.now in
    let set = c.args.set.now in
    let points = c.as_slice.result.now in
    let at = c.in-Some.ensures in
    let has = rw c.in-Some-2.is at c.in_ok-rows.ensures.numbering in
    let names = rw c.in-Some-2.is at c.in_ok-rows.ensures.numbers in
    let faces = rw c.in-Some-2.is at c.in_ok-rows.ensures.faces in
    let triangles = rw c.in-Some-2.is at c.in_ok-rows.ensures.triangles in
    let some = c.if-len-eq0.false in
    let long = c.len-2.ensures in
    let same = ap length c.from_vec.ensures in
    is_read world scale mode c.args.points.now (record { list = c.in-Some.list; rows = c.from_vec.result }) set at.0 points c.requires.set at.1 at.2 are (sym c.in-Some-get.ensures ∙ ap Some (sym c.as_slice.ensures)) has names faces
    (subst (λ (rows : List Row). SetTriangles world points set (triangles_at points rows)) (sym c.from_vec.ensures) triangles) (omega (arith, some, long, same)))
