-- Numbers that fit where they are kept.
use Rattle.std.proofs.Common.{◌≡◌, ℕ, ◌+◌, ℤ, ◌+ℤ◌, w32, w64, FitsSigned, to_z, of_z, arith}
use Rattle.std.proofs.lemmas.Int.{ints, to_z-of_z}
use Rattle.bim_model.specs.declared.geometry.Point.{Point}
use Rattle.bim_model.specs.Models.{IsInReach}
use Rattle.placement.specs.Frames.{IsWithin, AreWithin, IsNear, lengths_of, most}
use Rattle.ifc_units.specs.Lengths.{reach}

fits_most : (n : ℤ) → IsWithin most n → FitsSigned w64 n
fits_most n w = let l = w.low in let h = w.high in omega (arith, ints)

fits_twice : (n : ℤ) → IsWithin (most + most) n → FitsSigned w64 n
fits_twice n w = let l = w.low in let h = w.high in omega (arith, ints)

pub held : (n : ℤ) → IsWithin most n → to_z w64 (of_z w64 n) ≡ n
held n w = to_z-of_z w64 n (fits_most n w)

pub held_twice : (n : ℤ) → IsWithin (most + most) n → to_z w64 (of_z w64 n) ≡ n
held_twice n w = to_z-of_z w64 n (fits_twice n w)

pub sum_within : (a b : ℕ) (m n : ℤ) → IsWithin a m → IsWithin b n → IsWithin (a + b) (m +ℤ n)
sum_within a b m n v w =
    let p = v.low in let q = v.high in let r = w.low in let s = w.high in
    record { low = omega (arith, ints); high = omega (arith, ints) }

pub sum_fits : (m n : ℤ) → IsWithin most m → IsWithin most n → FitsSigned w64 (to_z w64 (of_z w64 m) +ℤ to_z w64 (of_z w64 n))
sum_fits m n v w = rw (held m v, held n w) (fits_twice (m +ℤ n) (sum_within most most m n v w))

pub sum_held : (m n : ℤ) → IsWithin most m → IsWithin most n → to_z w64 (of_z w64 (to_z w64 (of_z w64 m) +ℤ to_z w64 (of_z w64 n))) ≡ m +ℤ n
sum_held m n v w = rw (held m v, held n w) (held_twice (m +ℤ n) (sum_within most most m n v w))

fits_near : (n : ℤ) → IsNear n → FitsSigned w32 n
fits_near n w = let l = w.low in let h = w.high in omega (arith, ints)

pub narrow : (n : ℤ) → IsWithin (most + most) n → IsNear n → to_z w32 (of_z w32 (to_z w64 (of_z w64 n))) ≡ n
narrow n v w = rw (held_twice n v) (to_z-of_z w32 n (fits_near n w))

pub reached : (p : Point) → IsNear p.x → IsNear p.y → IsNear p.z → IsInReach p
reached p x y z = record { x_low = x.low; x_high = x.high; y_low = y.low; y_high = y.high; z_low = z.low; z_high = z.high }

fits_short : (n : ℤ) → IsWithin (reach + reach) n → FitsSigned w32 n
fits_short n w = let l = w.low in let h = w.high in omega (arith, ints)

fits_long : (n : ℤ) → IsWithin (reach + reach) n → FitsSigned w64 n
fits_long n w = let l = w.low in let h = w.high in omega (arith, ints)

pub fits_cast : (n : ℤ) → IsWithin (reach + reach) n → FitsSigned w32 (to_z w64 (of_z w64 n))
fits_cast n w = rw (to_z-of_z w64 n (fits_long n w)) (fits_short n w)

pub shortened : (n : ℤ) → IsWithin (reach + reach) n → to_z w32 (of_z w32 (to_z w64 (of_z w64 n))) ≡ n
shortened n w = rw (to_z-of_z w64 n (fits_long n w)) (to_z-of_z w32 n (fits_short n w))

pub reach_within : (p : Point) → IsInReach p → AreWithin reach (lengths_of p)
reach_within p r =
    let a = r.x_low in let b = r.x_high in let c = r.y_low in let d = r.y_high in let e = r.z_low in let f = r.z_high in
    record {
      x = record { low = omega (arith, ints); high = omega (arith, ints) };
      y = record { low = omega (arith, ints); high = omega (arith, ints) };
      z = record { low = omega (arith, ints); high = omega (arith, ints) };
    }
