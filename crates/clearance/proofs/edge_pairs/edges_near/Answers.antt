use Rattle.std.proofs.Common.{Bool, IsTrue, ◌↔◌, ℕ}
use Rattle.exact_arith.specs.Space.{Face}
use Rattle.clearance.specs.inner.EdgePairs.{EdgesNear}
use Rattle.clearance.proofs.RowsTest.{RowsNear, rows_yes, rows_no}
use Rattle.clearance.specs.inner.TriangleCorners.{face_of}
use Rattle.tri_exact.proofs.Choice.{first_yes, second_yes, third}
use Rattle.clearance.proofs.edge_pairs.edges_near.Goals as goal

by_rows : (b : Bool) (t s : Face) (d : ℕ) → IsTrue b ↔ RowsNear t s d → IsTrue b ↔ EdgesNear t s d
by_rows b t s d q = (λ x. rows_yes t s d (q.0 x), λ x. q.1 (rows_no t s d x))

pub returns-then-row_near : goal.returns-then-row_near
returns-then-row_near c = by_rows _ (face_of c.args.t) (face_of c.args.s) c.args.d (first_yes c.row_near.ensures c.if-row_near.true)

pub returns-then-row_near-2 : goal.returns-then-row_near-2
returns-then-row_near-2 c = by_rows _ (face_of c.args.t) (face_of c.args.s) c.args.d (second_yes c.row_near-2.ensures c.if-row_near-2.true)

pub returns : goal.returns
returns c = by_rows _ (face_of c.args.t) (face_of c.args.s) c.args.d (third c.row_near.ensures c.if-row_near.false c.row_near-2.ensures c.if-row_near-2.false c.row_near-3.ensures)
