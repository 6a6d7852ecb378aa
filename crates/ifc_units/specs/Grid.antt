-- Lengths and the grid numbers that stand for them, u to a millimetre. A length in millimetres is a fraction N / D, and a grid number g
-- stands for g / u millimetres.
use Rattle.std.specs.Prelude.{◌≡◌, ℕ, ◌*◌, ◌<◌, ◌≤◌, ℤ, pos, ◌*ℤ◌, ◌-ℤ◌, unsigned_abs}
use Rattle.bim_model.specs.declared.upload.Mode.{Mode}
use Rattle.bim_model.specs.declared.upload.Mode.TheVariants.{Exact, Snap}
use Rattle.bim_text.specs.declared.decimal.Decimal.{Decimal}
use Rattle.bim_text.specs.ScaledNumbers.{Scaled, numerator, denominator, raised}
use Rattle.bim_text.specs.Decimals.{value_of}
use Rattle.ifc_units.specs.declared.scale.Scale.{Scale}

-- a value so many times
abbrev pub times : ℕ → Scaled → Scaled
times factor x = record { number = pos factor *ℤ x.number; power = x.power }

-- the length in millimetres that a decimal is in a unit of that scale
abbrev pub length_of : Decimal → Scale → Scaled
length_of number scale = times scale.factor (raised (value_of number) scale.power)

-- how far u times the length lies from g, in parts of the denominator
abbrev pub gap : ℕ → Scaled → ℤ → ℕ
gap u x g = unsigned_abs (pos u *ℤ numerator x -ℤ g *ℤ pos (denominator x))

-- the length lies less than a thousandth of a millimetre from g: |x - g / u| < 1 / 1000
abbrev pub IsClose : ℕ → Scaled → ℤ → Type 0
IsClose u x g = 1000 * gap u x g < u * denominator x

-- no whole number is nearer to u times the length than g, and of two that are equally near it is the one further from zero
pub record IsNearest (u : ℕ) (x : Scaled) (g : ℤ) : Type 0 where
  pub near : 2 * gap u x g ≤ denominator x
  pub away : 2 * gap u x g ≡ denominator x → u * unsigned_abs (numerator x) < unsigned_abs g * denominator x

-- g is the grid number of the length
abbrev pub IsGridNumber : Mode → ℕ → Scaled → ℤ → Type 0
IsGridNumber Exact u x g = IsClose u x g
IsGridNumber Snap u x g = IsNearest u x g
