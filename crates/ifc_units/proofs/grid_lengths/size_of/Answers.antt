use Rattle.std.proofs.Common.{◌≡◌, ℕ, ◌*◌, ◌^◌, ◌≤◌, pos, ◌+ℤ◌, refl, sym, subst, arith, Result, Ok, Err, IfOk, IfErr}
use Rattle.ifc_units.specs.declared.length_error.GridFault.{GridFault}
use Rattle.ifc_units.specs.declared.length_error.GridFault.TheVariants.{TooFar}
use Rattle.ifc_units.specs.declared.sizes.TheConstants.{UNITS, MOST}
use Rattle.ifc_units.specs.inner.RoundedLengths.{IsSizeOf}
use Rattle.std.proofs.lemmas.Int.{ints}
use Rattle.ifc_units.proofs.Signs.{whole_is, part_is, part_of}
use Rattle.ifc_units.proofs.grid_lengths.size_of.Goals as goal

pub returns-in-Some-clause-ok : goal.returns-in-Some-clause-ok
returns-in-Some-clause-ok c =
    let p = c.args.power in
    let e : p ≡ pos c.unsigned_abs-places.result = omega (arith, ints, c.unsigned_abs-places.ensures.value) in
    whole_is c.args.mode c.args.digits c.unsigned_abs-places.result c.in-Some.size p e c.in-Some.ensures.size

pub returns-in-None-clause-too_far : goal.returns-in-None-clause-too_far
returns-in-None-clause-too_far c =
    let p = c.args.power in
    let e : p ≡ pos c.unsigned_abs-places.result = omega (arith, ints, c.unsigned_abs-places.ensures.value) in
    λ _. (UNITS * (c.args.digits * 10 ^ c.unsigned_abs-places.result), whole_is c.args.mode c.args.digits c.unsigned_abs-places.result _ p e refl, c.in-None.ensures.none)

if_ok : {A E : Type 0} {P Q : A → Type 0} (r : Result A E) → ((x : A) → P x → Q x) → IfOk r P → IfOk r Q
if_ok (Ok x) f h = f x h
if_ok (Err e) f h = tt

far_of : {A : Type 0} {B : Type 0} (r : Result A GridFault) → IfErr r (λ fault. fault ≡ TooFar × B) → r ≡ Err TooFar → B
far_of (Ok x) h e = absurd (cc)
far_of (Err fault) h e = h.1

pub returns-in-Some-part_size-clause-ok : goal.returns-in-Some-part_size-clause-ok
returns-in-Some-part_size-clause-ok c =
    let p = c.args.power in
    let e : p +ℤ pos c.unsigned_abs-places.result ≡ pos 0 = omega (arith, ints, c.unsigned_abs-places.ensures.value) in
    let s = part_is c.args.mode c.args.digits c.unsigned_abs-places.result c.in-Some-part_size.size p e c.in-Some-part_size.ensures.size in
    if_ok {P = λ (g : ℕ). g ≡ c.in-Some-part_size.size × g ≤ MOST} {Q = λ (g : ℕ). IsSizeOf c.args.mode p c.args.digits g} c.near.result
    (λ g h. subst (λ (x : ℕ). IsSizeOf c.args.mode p c.args.digits x) (sym h.0) s) c.near.ensures.ok

pub returns-in-Some-part_size-clause-too_far : goal.returns-in-Some-part_size-clause-too_far
returns-in-Some-part_size-clause-too_far c =
    let p = c.args.power in
    let e : p +ℤ pos c.unsigned_abs-places.result ≡ pos 0 = omega (arith, ints, c.unsigned_abs-places.ensures.value) in
    let s = part_is c.args.mode c.args.digits c.unsigned_abs-places.result c.in-Some-part_size.size p e c.in-Some-part_size.ensures.size in
    λ is. (c.in-Some-part_size.size, s, far_of c.near.result c.near.ensures.err is)

pub returns-in-None-part_size-clause-off_grid : goal.returns-in-None-part_size-clause-off_grid
returns-in-None-part_size-clause-off_grid c =
    let p = c.args.power in
    let e : p +ℤ pos c.unsigned_abs-places.result ≡ pos 0 = omega (arith, ints, c.unsigned_abs-places.ensures.value) in
    λ _ g h. c.in-None-part_size.ensures.none g (part_of c.args.mode c.args.digits c.unsigned_abs-places.result g p e h)
