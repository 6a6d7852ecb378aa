-- The same without signs, for n / d of a grid number and a size g. No public contract cites it.
use Rattle.std.specs.Prelude.{◌≡◌, ℕ, ℤ, ◌+◌, ◌-◌, ◌*◌, ◌^◌, ◌<◌, ◌≤◌}
use Rattle.bim_text.specs.ScaledNumbers.{above, below}
use Rattle.ifc_units.specs.declared.sizes.TheConstants.{UNITS}
use Rattle.bim_model.specs.declared.upload.Mode.{Mode}
use Rattle.bim_model.specs.declared.upload.Mode.TheVariants.{Exact, Snap}

-- how far two numbers lie apart
abbrev pub distance : ℕ → ℕ → ℕ
distance a b = (a - b) + (b - a)

-- the multiple that is nearest to a fraction, and of two the one that is farther from zero
pub record IsNearestSize (n d g : ℕ) : Type 0 where
  pub near : 2 * distance n (g * d) ≤ d
  pub away : 2 * distance n (g * d) ≡ d → n < g * d

-- the multiple that a mode takes for a fraction: one within a thousandth of a unit, or the nearest
abbrev pub IsSize : Mode → ℕ → ℕ → ℕ → ℕ → Type 0
IsSize Exact u n d g = 1000 * distance n (g * d) < u * d
IsSize Snap u n d g = IsNearestSize n d g

-- of digits times ten to a power
unfoldable pub IsSizeOf : Mode → ℤ → ℕ → ℕ → Type 0
IsSizeOf mode power digits g = IsSize mode UNITS (UNITS * (digits * 10 ^ above power)) (10 ^ below power) g
