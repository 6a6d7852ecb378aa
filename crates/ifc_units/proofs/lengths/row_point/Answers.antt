use Rattle.std.proofs.Common.{◌≡◌, ℤ, to_z, of_z, w32, arith}
use Rattle.std.proofs.lemmas.Int.{ints}
use Rattle.bim_model.specs.declared.upload.Mode.{Mode}
use Rattle.p21_values.specs.declared.value.Value21.{Value21}
use Rattle.ifc_units.specs.declared.scale.Scale.{Scale}
use Rattle.ifc_units.specs.Lengths.{IsLength}
use Rattle.ifc_units.proofs.PointFacts.{point_match, point_error, first_fails, second_fails, third_fails}
use Rattle.ifc_units.proofs.lengths.row_point.Goals as goal

pub returns-in_err-x : goal.returns-in_err-x
returns-in_err-x c = λ v r. (
    let a = c.args in
    point_match a.scale a.mode v r.x r.y r.z c.from_residual.result r.items
    (point_error a.scale a.mode r.x r.y r.z c.from_residual.result c.in_err-x.field-0.0 c.from_residual.ensures.1
    (first_fails a.scale a.mode r.x r.y r.z c.in_err-x.field-0.0 (c.in_err-x.ensures r.x r.first))))

pub returns-in_err-y : goal.returns-in_err-y
returns-in_err-y c = λ v r. (
    let a = c.args in
    point_match a.scale a.mode v r.x r.y r.z c.from_residual-in_err-y.result r.items
    (point_error a.scale a.mode r.x r.y r.z c.from_residual-in_err-y.result c.in_err-y.field-0.0 c.from_residual-in_err-y.ensures.1
    (second_fails a.scale a.mode r.x r.y r.z c.in_ok-x.x c.in_err-y.field-0.0 (c.in_ok-x.ensures r.x r.first) (c.in_err-y.ensures r.y r.second))))

pub returns-in_err-z : goal.returns-in_err-z
returns-in_err-z c = λ v r. (
    let a = c.args in
    point_match a.scale a.mode v r.x r.y r.z c.from_residual-in_err-z.result r.items
    (point_error a.scale a.mode r.x r.y r.z c.from_residual-in_err-z.result c.in_err-z.field-0.0 c.from_residual-in_err-z.ensures.1
    (third_fails a.scale a.mode r.x r.y r.z c.in_ok-x.x c.in_ok-y.y c.in_err-z.field-0.0 (c.in_ok-x.ensures r.x r.first) (c.in_ok-y.ensures r.y r.second) (c.in_err-z.ensures r.z r.third))))

there : (s : Scale) (mode : Mode) (v : Value21) (g h : ℤ) → h ≡ g → IsLength s mode v g → IsLength s mode v h
there s mode v g h e is = rw e is

pub returns : goal.returns
returns c = λ v r. (
    let a = c.args in
    let at : to_z w32 (of_z w32 c.in_ok-x.x) ≡ c.in_ok-x.x = omega (arith, ints) in
    let up : to_z w32 (of_z w32 c.in_ok-y.y) ≡ c.in_ok-y.y = omega (arith, ints) in
    let on : to_z w32 (of_z w32 c.in_ok-z.z) ≡ c.in_ok-z.z = omega (arith, ints) in
    record {
      a = r.x;
      b = r.y;
      c = r.z;
      three = r.items;
      x = there a.scale a.mode r.x c.in_ok-x.x _ at (c.in_ok-x.ensures r.x r.first);
      y = there a.scale a.mode r.y c.in_ok-y.y _ up (c.in_ok-y.ensures r.y r.second);
      z = there a.scale a.mode r.z c.in_ok-z.z _ on (c.in_ok-z.ensures r.z r.third);
    })
