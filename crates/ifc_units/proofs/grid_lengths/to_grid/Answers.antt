use mir.Syntax.{w64}
use Rattle.std.proofs.Common.{◌≡◌, ℕ, ◌*◌, ◌<◌, ℤ, ◌+ℤ◌, sym, ap, refl, subst, ◌∙◌, arith, to_z, of_z, w32}
use Rattle.std.specs.Prelude.{unsigned_abs}
use Rattle.std.proofs.lemmas.Int.{ints}
use Rattle.ifc_units.specs.declared.length_error.GridFault.TheVariants.{OffGrid, TooFar}
use Rattle.bim_text.proofs.Powers.{signed_size}
use Rattle.ifc_units.specs.declared.sizes.TheConstants.{UNITS, MOST}
use Rattle.ifc_units.specs.Grid.{IsGridNumber}
use Rattle.ifc_units.specs.inner.RoundedLengths.{IsSizeOf}
use Rattle.ifc_units.proofs.Signs.{times_left, grid_ok, grid_off, grid_far}
use Rattle.ifc_units.proofs.grid_lengths.to_grid.Goals as goal

pub returns-in-Ok-clause-ok : goal.returns-in-Ok-clause-ok
returns-in-Ok-clause-ok c =
    let n = c.args.number in
    let p : ℤ = to_z w64 (of_z w64 (to_z w64 (of_z w64 (to_z w32 (of_z w32 n.exp))) +ℤ to_z w64 (of_z w64 (to_z w32 (of_z w32 c.args.scale.power))))) in
    let at : p ≡ n.exp +ℤ c.args.scale.power = omega (arith, ints) in
    let e : to_z w32 (of_z w32 c.with_sign.result) ≡ c.with_sign.result = omega (arith, ints) in
    let f = c.args.scale.factor in
    let g = to_z w32 (of_z w32 c.with_sign.result) in
    let q = n.exp +ℤ c.args.scale.power in
    subst (λ (x : ℤ). IsGridNumber c.args.mode UNITS (record { number = x; power = q }) g) (sym (times_left f n.negative n.digits))
    (grid_ok c.args.mode n.negative (f * n.digits) c.in-Ok.size q g
    (subst (λ (x : ℤ). IsSizeOf c.args.mode x (f * n.digits) c.in-Ok.size) at c.in-Ok.ensures.ok) (e ∙ c.with_sign.ensures))

pub returns-in-Ok-clause-within : goal.returns-in-Ok-clause-within
returns-in-Ok-clause-within c =
    let e : to_z w32 (of_z w32 c.with_sign.result) ≡ c.with_sign.result = omega (arith, ints) in
    omega (arith, ap unsigned_abs (e ∙ c.with_sign.ensures), signed_size c.args.number.negative c.in-Ok.size, c.in-Ok.ensures.within)

pub returns-in-Err-clause-off_grid : goal.returns-in-Err-clause-off_grid
returns-in-Err-clause-off_grid c =
    let n = c.args.number in
    let p : ℤ = to_z w64 (of_z w64 (to_z w64 (of_z w64 (to_z w32 (of_z w32 n.exp))) +ℤ to_z w64 (of_z w64 (to_z w32 (of_z w32 c.args.scale.power))))) in
    let at : p ≡ n.exp +ℤ c.args.scale.power = omega (arith, ints) in
    λ is. (let e : c.in-Err.fault ≡ OffGrid = cc in
    let f = c.args.scale.factor in
    let q = n.exp +ℤ c.args.scale.power in
    subst (λ (x : ℤ). (g : ℤ) → IsGridNumber c.args.mode UNITS (record { number = x; power = q }) g → ⊥) (sym (times_left f n.negative n.digits))
    (grid_off c.args.mode n.negative (f * n.digits) q (c.in-Err.ensures.exact (rw e refl))
    (subst (λ (x : ℤ). (m : ℕ) → IsSizeOf c.args.mode x (f * n.digits) m → ⊥) at (c.in-Err.ensures.off_grid (rw e refl)))))

pub returns-in-Err-clause-too_far : goal.returns-in-Err-clause-too_far
returns-in-Err-clause-too_far c =
    let n = c.args.number in
    let p : ℤ = to_z w64 (of_z w64 (to_z w64 (of_z w64 (to_z w32 (of_z w32 n.exp))) +ℤ to_z w64 (of_z w64 (to_z w32 (of_z w32 c.args.scale.power))))) in
    let at : p ≡ n.exp +ℤ c.args.scale.power = omega (arith, ints) in
    λ is. (let e : c.in-Err.fault ≡ TooFar = cc in
    let f = c.args.scale.factor in
    let q = n.exp +ℤ c.args.scale.power in
    subst (λ (x : ℤ). (g : ℤ) × IsGridNumber c.args.mode UNITS (record { number = x; power = q }) g × (MOST < unsigned_abs g)) (sym (times_left f n.negative n.digits))
    (grid_far c.args.mode n.negative (f * n.digits) q
    (subst (λ (x : ℤ). (m : ℕ) × IsSizeOf c.args.mode x (f * n.digits) m × (MOST < m)) at (c.in-Err.ensures.too_far (rw e refl)))))
