use mir.Syntax.{w64}
use Rattle.std.proofs.Common.{◌≡◌, ℤ, pos, ◌-ℤ◌, refl, ◌∙◌, arith, to_z, of_z, w32}
use Rattle.std.proofs.lemmas.Int.{ints}
use Rattle.ifc_units.proofs.ShortLengths.{short_here, short_refused}
use Rattle.ifc_units.proofs.lengths.short_length.Goals as goal

pub returns-in-Ok : goal.returns-in-Ok
returns-in-Ok c = λ value says. (
    let a = c.args in
    let p : ℤ = to_z w64 (of_z w64 (to_z w64 (of_z w64 (to_z w32 (of_z w32 a.scale.power))) -ℤ to_z w64 a.number.places)) in
    let at : p ≡ a.scale.power -ℤ pos a.number.places = omega (arith, ints) in
    let e : to_z w32 (of_z w32 c.with_sign.result) ≡ c.with_sign.result = omega (arith, ints) in
    short_here a.scale a.mode a.number value c.in-Ok.size p (to_z w32 (of_z w32 c.with_sign.result)) says at c.in-Ok.ensures.ok c.in-Ok.ensures.within (e ∙ c.with_sign.ensures))

pub returns-in-Err : goal.returns-in-Err
returns-in-Err c = λ value says. (
    let a = c.args in
    let p : ℤ = to_z w64 (of_z w64 (to_z w64 (of_z w64 (to_z w32 (of_z w32 a.scale.power))) -ℤ to_z w64 a.number.places)) in
    let at : p ≡ a.scale.power -ℤ pos a.number.places = omega (arith, ints) in
    short_refused a.scale a.mode a.number value c.in-Err.fault p says at
    (λ e. c.in-Err.ensures.exact (rw e refl)) (λ e. c.in-Err.ensures.off_grid (rw e refl)) (λ e. c.in-Err.ensures.too_far (rw e refl)))
