use Rattle.std.proofs.Common.{length, sym, ◌∙◌}
use Rattle.std.specs.List.{All, AllZip}
use Rattle.p21_values.specs.Attributes.{led_to}
use Rattle.faceset.specs.FaceSets.{IsCut, Joined, SetTriangles, numbering}
use Rattle.walk_rows.specs.Rows.{triangles_at, IsRowOf}
use Rattle.walk_rows.specs.SetRows.{LeadsToFace, NamesFaces}
use Rattle.walk_rows.proofs.FacesNamed.{faces_named, none_named}
use Rattle.walk_rows.proofs.SetsRead.{some_by, some_all, faces_triangles, listed_triangles}
use Rattle.walk_rows.proofs.set_rows.rows_by.Goals as goal

pub returns-then-is_polygonal-clause-triangles : goal.returns-then-is_polygonal-clause-triangles
returns-then-is_polygonal-clause-triangles c =
    let world = c.args.exchange.now in
    let points = c.args.points.now in
    let set = c.args.set.now in
    some_by (λ rows. Joined (IsCut (numbering set) points) (led_to world c.listed.result) (triangles_at points rows.items)) (λ rows. SetTriangles world points set (triangles_at points rows.items)) c.rows_of_faces.result
    (λ rows. faces_triangles world points set c.listed.result (triangles_at points rows.items) (sym c.is_polygonal.ensures ∙ c.if-is_polygonal.true) c.listed.ensures)
    (c.rows_of_faces.ensures.rows (numbering set) c.requires.numbers)

pub returns-then-is_polygonal-clause-faces : goal.returns-then-is_polygonal-clause-faces
returns-then-is_polygonal-clause-faces c =
    let world = c.args.exchange.now in
    let set = c.args.set.now in
    some_by (λ rows. All (LeadsToFace world) c.listed.result) (λ rows. NamesFaces world set) c.rows_of_faces.result (λ rows. faces_named world set c.listed.result c.listed.ensures) c.rows_of_faces.ensures.leads

pub returns-else-is_polygonal-clause-triangles : goal.returns-else-is_polygonal-clause-triangles
returns-else-is_polygonal-clause-triangles c =
    let world = c.args.exchange.now in
    let points = c.args.points.now in
    let set = c.args.set.now in
    some_by (λ rows. AllZip (IsRowOf (numbering set) (length points)) c.listed-else-is_polygonal.result rows.items) (λ rows. SetTriangles world points set (triangles_at points rows.items)) c.rows_of.result
    (λ rows. listed_triangles world points set c.listed-else-is_polygonal.result rows.items (sym c.is_polygonal.ensures ∙ c.if-is_polygonal.false) c.listed-else-is_polygonal.ensures)
    (c.rows_of.ensures (numbering set) c.requires.numbers)

pub returns-else-is_polygonal-clause-faces : goal.returns-else-is_polygonal-clause-faces
returns-else-is_polygonal-clause-faces c = some_all (NamesFaces c.args.exchange.now c.args.set.now) c.rows_of.result (none_named c.args.exchange.now c.args.set.now (sym c.is_polygonal.ensures ∙ c.if-is_polygonal.false))
