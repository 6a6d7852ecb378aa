use Rattle.ifc_units.proofs.PointFacts.{point_error, first_fails, second_fails, third_fails}
use Rattle.ifc_units.proofs.lengths.point_of.Goals as goal

pub returns-in_err-x : goal.returns-in_err-x
returns-in_err-x c =
    let a = c.args in
    point_error a.scale a.mode a.a.now a.b.now a.c.now c.from_residual.result c.in_err-x.field-0.0 c.from_residual.ensures.1
    (first_fails a.scale a.mode a.a.now a.b.now a.c.now c.in_err-x.field-0.0 c.in_err-x.ensures)

pub returns-in_err-y : goal.returns-in_err-y
returns-in_err-y c =
    let a = c.args in
    point_error a.scale a.mode a.a.now a.b.now a.c.now c.from_residual-in_err-y.result c.in_err-y.field-0.0 c.from_residual-in_err-y.ensures.1
    (second_fails a.scale a.mode a.a.now a.b.now a.c.now c.in_ok-x.x c.in_err-y.field-0.0 c.in_ok-x.ensures c.in_err-y.ensures)

pub returns-in_err-z : goal.returns-in_err-z
returns-in_err-z c =
    let a = c.args in
    point_error a.scale a.mode a.a.now a.b.now a.c.now c.from_residual-in_err-z.result c.in_err-z.field-0.0 c.from_residual-in_err-z.ensures.1
    (third_fails a.scale a.mode a.a.now a.b.now a.c.now c.in_ok-x.x c.in_ok-y.y c.in_err-z.field-0.0 c.in_ok-x.ensures c.in_ok-y.ensures c.in_err-z.ensures)
