use Rattle.std.proofs.Common.{◌≡◌, refl, ap, sym, ◌∙◌, arith, to_z, of_z, w32, option_copied}
use Rattle.std.proofs.lemmas.Int.{ints}
use Rattle.ifc_units.proofs.LengthFacts.{length_here, length_refused}
use Rattle.ifc_units.proofs.lengths.length.Goals as goal

pub returns-in-Ok : goal.returns-in-Ok
returns-in-Ok c =
    let e : to_z w32 (of_z w32 c.in-Ok.length) ≡ c.in-Ok.length = omega (arith, ints) in
    length_here c.args.scale c.args.mode c.args.value.now c.in-Some.bytes.now c.in-Some-read.number c.in-Ok.length (to_z w32 (of_z w32 c.in-Ok.length))
    (sym c.number.ensures ∙ ap option_copied c.in-Some.is) c.in-Some-read.ensures.value c.in-Ok.ensures.ok c.in-Ok.ensures.within e

pub returns-in-Err : goal.returns-in-Err
returns-in-Err c =
    length_refused c.args.scale c.args.mode c.args.value.now c.in-Some.bytes.now c.in-Some-read.number c.in-Err.fault
    (sym c.number.ensures ∙ ap option_copied c.in-Some.is) c.in-Some-read.ensures.value
    (λ e. c.in-Err.ensures.off_grid (rw e refl)) (λ e. c.in-Err.ensures.too_far (rw e refl))
